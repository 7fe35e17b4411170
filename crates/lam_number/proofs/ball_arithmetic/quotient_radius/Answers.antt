use Rattle.std.proofs.Common.{◌≡◌, ◌∙◌, sym, ap₂, subst₂, ◌<◌, ◌+ℤ◌, ◌-ℤ◌, ◌*ℤ◌, unsigned_abs, FitsSigned, to_z, of_z, arith}
use Rattle.std.proofs.lemmas.Int.{ints, fits_signed_from_abs}
use Rattle.std.specs.Int.{w64, w128}
use Rattle.lam_fraction.specs.numbers.Rounding.{ceil_over}
use Rattle.lam_number.proofs.Balls.{quotient_rest, rest_within}
use Rattle.lam_number.proofs.Casts.{read_narrow, two_ends}
use Rattle.lam_number.proofs.ball_arithmetic.quotient_radius.Goals as goal

pub overflow_add-rest : goal.overflow_add-rest
overflow_add-rest c =
    let m = c.args.middle in
    let rest = quotient_rest m c.args.k c.args.quotient c.requires.positive c.requires.quotient in
    let product = c.wide_product.ensures ∙ two_ends ◌*ℤ◌ c.args.quotient c.args.k c.ranges.quotient c.ranges.k in
    omega (arith, ints, rest.0, rest.1, product)

pub high_quotient-requires-clause-negatable : goal.high_quotient-requires-clause-negatable
high_quotient-requires-clause-negatable c =
    let m = c.args.middle in
    let rest = quotient_rest m c.args.k c.args.quotient c.requires.positive c.requires.quotient in
    let product = c.wide_product.ensures ∙ two_ends ◌*ℤ◌ c.args.quotient c.args.k c.ranges.quotient c.ranges.k in
    omega (arith, ints, rest.0, rest.1, product)

pub high_quotient-requires-clause-room : goal.high_quotient-requires-clause-room
high_quotient-requires-clause-room c =
    let m = c.args.middle in
    let r = c.args.radius in
    let k = c.args.k in
    let rest = quotient_rest m k c.args.quotient c.requires.positive c.requires.quotient in
    let product = c.wide_product.ensures ∙ two_ends ◌*ℤ◌ c.args.quotient k c.ranges.quotient c.ranges.k in
    let whole : to_z w128 (of_z w128 (to_z w128 (of_z w128 (to_z w128 (of_z w128 (to_z w64 (of_z w64 m))) -ℤ to_z w128 (of_z w128 c.wide_product.result))) +ℤ to_z w128 (of_z w128 (to_z w64 (of_z w64 r))))) ≡ m -ℤ c.args.quotient *ℤ k +ℤ r =
    omega (arith, ints, rest.0, rest.1, product) in
    let over : to_z w128 (of_z w128 (to_z w64 (of_z w64 k))) ≡ k = omega (arith, ints) in
    let some : 0 < unsigned_abs k = omega (arith, ints, c.requires.positive) in
    let size = rest_within (m -ℤ c.args.quotient *ℤ k) r (unsigned_abs k) some rest.0 (omega (arith, ints, rest.1)) c.requires.radius.0 in
    subst₂ (λ z d. FitsSigned w64 (ceil_over z (unsigned_abs d))) (sym whole) (sym over)
    (fits_signed_from_abs w64 _ (omega (arith, ints, size, c.requires.radius.0, c.requires.radius.1)))

pub returns : goal.returns
returns c =
    let m = c.args.middle in
    let r = c.args.radius in
    let k = c.args.k in
    let rest = quotient_rest m k c.args.quotient c.requires.positive c.requires.quotient in
    let product = c.wide_product.ensures ∙ two_ends ◌*ℤ◌ c.args.quotient k c.ranges.quotient c.ranges.k in
    let whole : to_z w128 (of_z w128 (to_z w128 (of_z w128 (to_z w128 (of_z w128 (to_z w64 (of_z w64 m))) -ℤ to_z w128 (of_z w128 c.wide_product.result))) +ℤ to_z w128 (of_z w128 (to_z w64 (of_z w64 r))))) ≡ m -ℤ c.args.quotient *ℤ k +ℤ r =
    omega (arith, ints, rest.0, rest.1, product) in
    let over : to_z w128 (of_z w128 (to_z w64 (of_z w64 k))) ≡ k = omega (arith, ints) in
    read_narrow _ _ (record { sfits = c.high_quotient.type_inv }) (c.high_quotient.ensures ∙ ap₂ (λ z d. ceil_over z (unsigned_abs d)) whole over)
