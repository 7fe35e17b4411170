use Rattle.std.proofs.Common.{◌≡◌, ◌∙◌, arith, ◌+ℤ◌, ◌*ℤ◌, FitsSigned, refl}
use Rattle.std.proofs.lemmas.Int.{ints, to_z-of_z}
use Rattle.std.specs.Int.{w128}
use Rattle.lam_fraction.specs.inside.FixedEnds.{product_centre}
use Rattle.lam_number.proofs.Casts.{product_read}
use Rattle.lam_number.proofs.Sizes.{centre_fits}
use Rattle.lam_number.proofs.arithmetic.centre_of_product.Goals as goal

pub product_of_wide-requires : goal.product_of_wide-requires
product_of_wide-requires g c =
    let x = c.args.x in
    let y = c.args.y in
    let d : c.end_sum.result ≡ x.low +ℤ x.high = omega (arith, ints, c.end_sum.ensures) in
    let e : c.end_sum-2.result ≡ y.low +ℤ y.high = omega (arith, ints, c.end_sum-2.ensures) in
    product_read (FitsSigned w128) _ _ _ _ (record { sfits = c.end_sum.type_inv }) (record { sfits = c.end_sum-2.type_inv }) d e
    (centre_fits _ _ _ _ g.row.S x.ordered y.ordered c.requires.scale.1 c.requires.room)

pub returns : goal.returns
unfolding product_centre
returns g c =
    let x = c.args.x in
    let y = c.args.y in
    let d : c.end_sum.result ≡ x.low +ℤ x.high = omega (arith, ints, c.end_sum.ensures) in
    let e : c.end_sum-2.result ≡ y.low +ℤ y.high = omega (arith, ints, c.end_sum-2.ensures) in
    to_z-of_z w128 c.product_of_wide.result (record { sfits = c.product_of_wide.type_inv }) ∙ c.product_of_wide.ensures
    ∙ product_read (λ z. z ≡ (x.low +ℤ x.high) *ℤ (y.low +ℤ y.high)) _ _ _ _ (record { sfits = c.end_sum.type_inv }) (record { sfits = c.end_sum-2.type_inv }) d e refl
