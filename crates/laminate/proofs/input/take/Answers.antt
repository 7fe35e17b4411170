use Rattle.std.proofs.Common.{ℕ, ◌<◌, length, inr, subst}
use Rattle.std.specs.Prelude.{IfSome}
use Rattle.laminate.proofs.InputSteps.{too_long}
use Rattle.laminate.proofs.input.take.Goals as goal

pub returns-in-Ok-TooLong-clause-takes : goal.returns-in-Ok-TooLong-clause-takes
returns-in-Ok-TooLong-clause-takes g c =
    let told = g.F.Files.contents c.args.files.now c.args.name.now in
    inr (too_long told c.args.file
    (subst (λ (n : ℕ). IfSome told (λ bytes. n < length bytes)) c.greatest_length.ensures
    (rw c.in-Ok-TooLong.field-0-is at c.in-Ok-TooLong.ensures.told)))
