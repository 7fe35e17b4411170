use Rattle.std.proofs.Common.{rules, ◌∙◌, FitsSigned, ◌+ℤ◌, unsigned_abs, arith}
use Rattle.std.specs.Int.{w64}
use Rattle.lam_fraction.specs.numbers.Ends.{width}
use Rattle.lam_number.proofs.Casts.{two_ends}
use Rattle.lam_number.proofs.Sizes.{spread_room, spread_is}
use Rattle.lam_number.proofs.arithmetic.spread_of_product.Goals as goal

pub spread_sum-requires : goal.spread_sum-requires
spread_sum-requires g c =
    let x = c.args.x in
    let y = c.args.y in
    let a : FitsSigned w64 x.low = search rules in
    let b : FitsSigned w64 x.high = search rules in
    let d : FitsSigned w64 y.low = search rules in
    let e : FitsSigned w64 y.high = search rules in
    let parts = spread_is _ _ _ _ x.low x.high y.low y.high
    (c.sum_size.ensures ∙ two_ends (λ p q. unsigned_abs (p +ℤ q)) x.low x.high a b)
    (c.sum_size-2.ensures ∙ two_ends (λ p q. unsigned_abs (p +ℤ q)) y.low y.high d e)
    (c.spread.ensures.value ∙ two_ends width x.low x.high a b)
    (c.spread-2.ensures.value ∙ two_ends width y.low y.high d e) in
    omega (arith, parts, spread_room x.low x.high y.low y.high g.row.S x.ordered y.ordered c.requires.scale.1 c.requires.room)

pub returns : goal.returns
returns g c =
    let x = c.args.x in
    let y = c.args.y in
    let a : FitsSigned w64 x.low = search rules in
    let b : FitsSigned w64 x.high = search rules in
    let d : FitsSigned w64 y.low = search rules in
    let e : FitsSigned w64 y.high = search rules in
    c.spread_sum.ensures ∙ spread_is _ _ _ _ x.low x.high y.low y.high
    (c.sum_size.ensures ∙ two_ends (λ p q. unsigned_abs (p +ℤ q)) x.low x.high a b)
    (c.sum_size-2.ensures ∙ two_ends (λ p q. unsigned_abs (p +ℤ q)) y.low y.high d e)
    (c.spread.ensures.value ∙ two_ends width x.low x.high a b)
    (c.spread-2.ensures.value ∙ two_ends width y.low y.high d e)
