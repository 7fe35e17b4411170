use Rattle.std.proofs.Common.{◌+◌, ◌∙◌, ap, length, w64, arith}
use Rattle.std.specs.Fmt.{signed_decimal}
use Rattle.std.proofs.lemmas.Int.{to_z-of_z}
use Rattle.lam_tree.proofs.Adding.{added-one, short_signed}
use Rattle.lam_tree.proofs.line.Line.signed.Goals as goal

pub add-requires : goal.add-requires
add-requires c =
    let e = ap length (c.as_bytes.ensures.value ∙ c.format.ensures.text ∙ ap signed_decimal (to_z-of_z w64 c.args.n c.ranges.n)) in
    let short = short_signed c.args.n c.requires.small in
    let room = c.requires.room in
    omega (arith, e, short, room)

pub returns : goal.returns
returns c =
    let text = c.as_bytes.ensures.value ∙ c.format.ensures.text ∙ ap signed_decimal (to_z-of_z w64 c.args.n c.ranges.n) in
    let e = ap length text in
    let short = short_signed c.args.n c.requires.small in
    added-one c.as_bytes.result.now (signed_decimal c.args.n) (length c.as_bytes.result.now + 1) 5 text (omega (arith, e, short)) c.add.ensures
