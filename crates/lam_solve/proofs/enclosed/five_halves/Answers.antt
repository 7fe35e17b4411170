use Rattle.std.proofs.Common.{refl, ◌∙◌, ap, pos, ◌*ℤ◌, ◌^◌}
use Rattle.std.proofs.lemmas.Int.{to_z-of_z}
use Rattle.std.specs.Int.{w128}
use Rattle.lam_fraction.specs.numbers.Rounding.{floor_over}
use Rattle.lam_fraction.specs.numbers.Numbers.{unit}
use Rattle.lam_fraction.proofs.WholeFractions.{pos-product}
use Rattle.lam_fraction.proofs.numbers.Machine.{is_exact, sized_stored-128, sized_stored-64, sized_product, sized_number, sized_result, sized_at_most}
use Rattle.lam_solve.proofs.Around.{five-halves, five-halves-sign, five-halves-small}
use Rattle.lam_solve.proofs.Units.{unit_most}
use Rattle.lam_solve.proofs.enclosed.five_halves.Goals as goal

pub returns-clause-value : goal.returns-clause-value
returns-clause-value g c =
    to_z-of_z w128 c.shift_down.result (record { sfits = c.shift_down.type_inv }) ∙ c.shift_down.ensures
    ∙ ap (λ z. floor_over z (2 ^ 1)) (is_exact (sized_stored-128 (sized_product (sized_number 5) (sized_stored-128 (sized_result c.from-one.ensures (sized_stored-64 (sized_at_most c.one.ensures.small)))))) refl
    ∙ ap (λ z. pos 5 *ℤ z) c.one.ensures.value ∙ pos-product 5 (unit g.N.Enclosure.numbers))
    ∙ five-halves (unit g.N.Enclosure.numbers)

pub returns-clause-sign : goal.returns-clause-sign
returns-clause-sign g c = five-halves-sign _ _ (returns-clause-value g c)

pub returns-clause-small : goal.returns-clause-small
returns-clause-small g c = five-halves-small _ _ (returns-clause-value g c) (unit_most g.met.N.Enclosure.laws)
