use Rattle.std.proofs.Common.{refl, ◌∙◌, ap, ap₂, ℤ, ◌-ℤ◌, ◌*ℤ◌, ◌^◌}
use Rattle.std.proofs.lemmas.Int.{to_z-of_z}
use Rattle.std.specs.Int.{w64}
use Rattle.lam_fraction.specs.numbers.Rounding.{floor_over}
use Rattle.lam_fraction.proofs.numbers.Machine.{fits_in_128, is_exact, sized_stored-128, sized_difference, sized_result}
use Rattle.lam_solve.specs.inside.Elimination.{largest, less}
use Rattle.lam_solve.specs.inside.Steps.{cut}
use Rattle.lam_solve.proofs.Machine.{stored, sized_ranged}
use Rattle.lam_boxes.proofs.steps.less.Goals as goal

pub overflow_sub-value : goal.overflow_sub-value
overflow_sub-value c = fits_in_128 (sized_difference (sized_stored-128 (sized_result c.from-value.ensures (sized_ranged c.ranges.value))) (stored c.scaled_product-part.ensures.small)) refl

pub returns : goal.returns
unfolding less
returns c =
    to_z-of_z w64 c.cut_narrow.result (record { sfits = c.cut_narrow.type_inv }) ∙ c.cut_narrow.ensures.value
    ∙ ap (λ z. cut largest z) (is_exact (sized_stored-128 (sized_difference (sized_stored-128 (sized_result c.from-value.ensures (sized_ranged c.ranges.value))) (stored c.scaled_product-part.ensures.small))) refl ∙ ap (λ z. c.args.value -ℤ z) (c.scaled_product-part.ensures.value
    ∙ ap₂ (λ (a b : ℤ). floor_over (a *ℤ b) (2 ^ c.args.bits)) (to_z-of_z w64 c.args.share c.ranges.share) (to_z-of_z w64 c.args.other c.ranges.other)))
