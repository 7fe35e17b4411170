use Rattle.std.proofs.Common.{refl, ◌∙◌, ap, ap₂, ◌+ℤ◌, ◌*ℤ◌}
use Rattle.lam_fraction.proofs.numbers.Machine.{fits_in_128, is_exact, at_most, sized_product, sized_stored-64, sized_stored-128, sized_result, sized_between, sized_at_most}
use Rattle.lam_bounds.proofs.demands.need.Goals as goal

pub overflow_mul-result : goal.overflow_mul-result
overflow_mul-result c =
    let f = c.case.invariant.factor in
    fits_in_128 (sized_product (sized_stored-128 (sized_result c.from.ensures (sized_stored-64 (sized_between f.least f.greatest)))) (sized_stored-128 (sized_at_most c.weighted.ensures.small))) refl

pub returns-clause-small : goal.returns-clause-small
returns-clause-small c =
    let f = c.case.invariant.factor in
    at_most (sized_stored-128 (sized_product (sized_stored-128 (sized_result c.from.ensures (sized_stored-64 (sized_between f.least f.greatest)))) (sized_stored-128 (sized_at_most c.weighted.ensures.small)))) refl

pub returns-clause-value : goal.returns-clause-value
returns-clause-value c =
    let f = c.case.invariant.factor in
    let w = c.args.w.now in
    is_exact (sized_stored-128 (sized_product (sized_stored-128 (sized_result c.from.ensures (sized_stored-64 (sized_between f.least f.greatest)))) (sized_stored-128 (sized_at_most c.weighted.ensures.small)))) refl
    ∙ ap₂ ◌*ℤ◌ (ap (λ d. d.factor) c.case.view_is) (c.weighted.ensures.value ∙ ap (λ l. w.x *ℤ l.nx +ℤ w.y *ℤ l.ny +ℤ w.s *ℤ l.nxy) c.resultants-load.ensures.value)
