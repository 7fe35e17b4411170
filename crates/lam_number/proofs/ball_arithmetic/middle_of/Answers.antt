use Rattle.std.proofs.Common.{arith, ◌+ℤ◌, ◌-ℤ◌}
use Rattle.std.proofs.lemmas.Int.{ints}
use Rattle.lam_fraction.proofs.numbers.EndFacts.{half_at_most, half_near}
use Rattle.lam_number.proofs.ball_arithmetic.middle_of.Goals as goal

pub returns : goal.returns
returns c =
    let x = c.args.x in
    let z = x.middle -ℤ x.radius +ℤ (x.middle +ℤ x.radius) in
    omega (arith, ints, x.bounded, half_at_most z, half_near z)
