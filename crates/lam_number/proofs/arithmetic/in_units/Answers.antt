use Rattle.std.proofs.Common.{◌∙◌, sym, subst, FitsSigned, unsigned_abs, arith, ◌≤◌, ◌^◌}
use Rattle.std.specs.Int.{w128}
use Rattle.std.proofs.lemmas.Int.{fits_signed_from_abs}
use Rattle.lam_number.proofs.Casts.{units_read, read_wide}
use Rattle.lam_number.proofs.Sizes.{units_size}
use Rattle.lam_number.proofs.arithmetic.in_units.Goals as goal

pub product_of_wide-requires : goal.product_of_wide-requires
product_of_wide-requires c =
    subst (FitsSigned w128) (sym (units_read c.args.num _ c.args.scale c.ranges.num c.requires.scale.1 c.two_to.ensures))
    (fits_signed_from_abs w128 _ (omega (arith, units_size c.args.num c.args.scale c.requires.scale.1 c.requires.num)))

pub returns-clause-value : goal.returns-clause-value
returns-clause-value c =
    read_wide _ _ (record { sfits = c.product_of_wide.type_inv })
    (c.product_of_wide.ensures ∙ units_read c.args.num _ c.args.scale c.ranges.num c.requires.scale.1 c.two_to.ensures)

pub returns-clause-bound : goal.returns-clause-bound
returns-clause-bound c =
    subst (λ z. unsigned_abs z ≤ 2 ^ 126)
    (sym (read_wide _ _ (record { sfits = c.product_of_wide.type_inv }) (c.product_of_wide.ensures ∙ units_read c.args.num _ c.args.scale c.ranges.num c.requires.scale.1 c.two_to.ensures)))
    (units_size c.args.num c.args.scale c.requires.scale.1 c.requires.num)
