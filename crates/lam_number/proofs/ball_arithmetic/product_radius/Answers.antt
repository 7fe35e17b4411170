use Rattle.std.proofs.Common.{◌≡◌, ◌∙◌, sym, ap, subst, ◌^◌, pos, FitsSigned, to_z, arith}
use Rattle.std.proofs.lemmas.Int.{ints, fits_signed_from_abs}
use Rattle.std.specs.Int.{w64, w128}
use Rattle.lam_fraction.specs.numbers.Rounding.{ceil_over}
use Rattle.lam_number.specs.inside.BallNumbers.{spread}
use Rattle.lam_number.proofs.Balls.{radius_size}
use Rattle.lam_number.proofs.ball_arithmetic.product_radius.Goals as goal

pub units_above-requires-clause-room : goal.units_above-requires-clause-room
units_above-requires-clause-room c =
    let same : to_z w128 c.spread.result ≡ pos (spread c.args.x c.args.y) = omega (arith, ints, c.spread.ensures.value, c.spread.ensures.bound) in
    subst (λ z. FitsSigned w64 (ceil_over z (2 ^ 60))) (sym same) (fits_signed_from_abs w64 _ (omega (arith, ints, radius_size c.args.x c.args.y c.requires)))

pub overflow_add-result : goal.overflow_add-result
overflow_add-result c =
    let same : to_z w128 c.spread.result ≡ pos (spread c.args.x c.args.y) = omega (arith, ints, c.spread.ensures.value, c.spread.ensures.bound) in
    let value = c.units_above.ensures ∙ ap (λ z. ceil_over z (2 ^ 60)) same in
    omega (arith, ints, value, radius_size c.args.x c.args.y c.requires)

pub returns : goal.returns
returns c =
    let same : to_z w128 c.spread.result ≡ pos (spread c.args.x c.args.y) = omega (arith, ints, c.spread.ensures.value, c.spread.ensures.bound) in
    let value = c.units_above.ensures ∙ ap (λ z. ceil_over z (2 ^ 60)) same in
    omega (arith, ints, value, radius_size c.args.x c.args.y c.requires)
