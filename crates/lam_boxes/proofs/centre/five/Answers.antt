use Rattle.std.proofs.Common.{refl, ◌∙◌, ap, pos, ◌*ℤ◌}
use Rattle.lam_fraction.specs.numbers.Numbers.{unit}
use Rattle.lam_fraction.proofs.WholeFractions.{pos-product}
use Rattle.lam_fraction.proofs.numbers.Machine.{is_exact, fits_in_64, sized_stored-64, sized_product, sized_number, sized_at_most}
use Rattle.lam_boxes.proofs.InBox.{five-sign, five-small}
use Rattle.lam_boxes.proofs.centre.five.Goals as goal

pub overflow_mul-result : goal.overflow_mul-result
overflow_mul-result g c = fits_in_64 (sized_product (sized_number 5) (sized_stored-64 (sized_at_most c.one.ensures.small))) refl

pub returns-clause-value : goal.returns-clause-value
returns-clause-value g c =
    is_exact (sized_stored-64 (sized_product (sized_number 5) (sized_stored-64 (sized_at_most c.one.ensures.small)))) refl
    ∙ ap (λ z. pos 5 *ℤ z) c.one.ensures.value ∙ pos-product 5 (unit g.N.Enclosure.numbers)

pub returns-clause-sign : goal.returns-clause-sign
returns-clause-sign g c = five-sign _ _ (returns-clause-value g c)

pub returns-clause-small : goal.returns-clause-small
returns-clause-small g c = five-small g.met.N.Enclosure.laws _ (returns-clause-value g c)
