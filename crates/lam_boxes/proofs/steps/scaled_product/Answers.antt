use Rattle.std.proofs.Common.{refl, ◌∙◌, ap, ◌^◌}
use Rattle.std.proofs.lemmas.Int.{to_z-of_z}
use Rattle.std.specs.Int.{w128}
use Rattle.lam_fraction.specs.numbers.Rounding.{floor_over}
use Rattle.lam_fraction.proofs.numbers.Machine.{is_exact, sized_stored-128, sized_product, sized_result}
use Rattle.lam_solve.proofs.Eliminated.{shifted-small}
use Rattle.lam_solve.proofs.Machine.{sized_ranged}
use Rattle.lam_boxes.proofs.steps.scaled_product.Goals as goal

pub returns-clause-value : goal.returns-clause-value
returns-clause-value c =
    to_z-of_z w128 c.shift_down.result (record { sfits = c.shift_down.type_inv }) ∙ c.shift_down.ensures
    ∙ ap (λ z. floor_over z (2 ^ c.args.bits)) (is_exact (sized_stored-128 (sized_result c.wide_product-product.ensures (sized_product (sized_ranged c.ranges.a) (sized_ranged c.ranges.b)))) refl)

pub returns-clause-small : goal.returns-clause-small
returns-clause-small c = shifted-small _ _ _ _ c.ranges.a c.ranges.b (returns-clause-value c)
