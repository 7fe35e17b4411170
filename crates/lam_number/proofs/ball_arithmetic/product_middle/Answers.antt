use Rattle.std.proofs.Common.{◌∙◌, sym, subst, ◌^◌, ◌*ℤ◌, FitsSigned}
use Rattle.std.specs.Int.{w64}
use Rattle.lam_fraction.specs.numbers.Rounding.{floor_over}
use Rattle.lam_number.proofs.Balls.{end_fits, middle_fits}
use Rattle.lam_number.proofs.Casts.{read_wide, two_ends}
use Rattle.lam_number.proofs.ball_arithmetic.product_middle.Goals as goal

pub units_below-requires : goal.units_below-requires
units_below-requires c =
    let x = c.args.x in
    let y = c.args.y in
    let value = c.wide_product.ensures ∙ two_ends ◌*ℤ◌ x.middle y.middle (end_fits x).0 (end_fits y).0 in
    subst (λ z. FitsSigned w64 (floor_over z (2 ^ 60))) (sym (read_wide _ _ (record { sfits = c.wide_product.type_inv }) value)) (middle_fits x y c.requires)
