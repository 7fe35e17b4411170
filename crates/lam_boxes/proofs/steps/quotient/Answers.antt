use Rattle.std.proofs.Common.{refl, sym, ◌∙◌, ap, ap₂, ℤ, ◌*ℤ◌, unsigned_abs, arith}
use Rattle.std.proofs.lemmas.Int.{ints, to_z-of_z}
use Rattle.std.specs.Int.{w64, w128}
use Rattle.lam_fraction.specs.numbers.Rounding.{floor_over}
use Rattle.lam_fraction.proofs.numbers.Machine.{is_exact, sized_stored-128, sized_stored-64, sized_product, sized_result, sized_at_most}
use Rattle.lam_solve.specs.inside.Steps.{cut}
use Rattle.lam_solve.proofs.Eliminated.{quotient-none, quotient-some}
use Rattle.lam_solve.proofs.Machine.{sized_ranged}
use Rattle.lam_boxes.proofs.steps.quotient.Goals as goal

pub returns-then-over-le0-clause-value : goal.returns-then-over-le0-clause-value
returns-then-over-le0-clause-value c = sym (quotient-none c.args.bits c.args.most c.args.value c.args.over (let e = to_z-of_z w64 c.args.over c.ranges.over in omega (arith, ints, c.if-over-le0.true, e)))

pub returns-clause-value : goal.returns-clause-value
returns-clause-value c =
    let raised-is = is_exact (sized_stored-128 (sized_result c.wide_product-raised.ensures (sized_product (sized_ranged c.ranges.value) (sized_stored-64 (sized_at_most c.power-scale.ensures.small))))) refl
    ∙ ap (λ z. c.args.value *ℤ z) c.power-scale.ensures.value in
    let over-is = is_exact (sized_stored-128 (sized_result c.from-over.ensures (sized_ranged c.ranges.over))) refl in
    let quotient-is = to_z-of_z w128 c.floor_quotient-quotient.result (record { sfits = c.floor_quotient-quotient.type_inv }) ∙ c.floor_quotient-quotient.ensures
    ∙ ap₂ (λ (z k : ℤ). floor_over z (unsigned_abs k)) raised-is over-is in
    to_z-of_z w64 c.cut_narrow.result (record { sfits = c.cut_narrow.type_inv }) ∙ c.cut_narrow.ensures.value
    ∙ ap₂ cut (to_z-of_z w64 c.args.most c.ranges.most) quotient-is
    ∙ sym (quotient-some c.args.bits c.args.most c.args.value c.args.over (let e = to_z-of_z w64 c.args.over c.ranges.over in omega (arith, ints, c.if-over-le0.false, e)))
