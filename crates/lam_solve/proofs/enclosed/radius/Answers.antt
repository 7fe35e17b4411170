use Rattle.std.proofs.Common.{refl, sym, ◌∙◌, ap, ap₂, subst, ◌*◌, ◌^◌, ◌≤◌, unsigned_abs}
use Rattle.lam_fraction.proofs.numbers.Machine.{is_exact, sized_stored-64, sized_between}
use Rattle.lam_solve.specs.inside.Steps.{over_up}
use Rattle.lam_solve.proofs.Radius.{radius-small, floor-most}
use Rattle.lam_solve.proofs.enclosed.radius.Goals as goal

pub returns-clause-value : goal.returns-clause-value
returns-clause-value g c =
    let is = c.requires.scale in
    let q0 = c.size-q0.ensures.value ∙ ap unsigned_abs (is_exact (sized_stored-64 (sized_between is.above is.most)) refl) in
    let floor = c.size-floor.ensures.value ∙ ap unsigned_abs (is_exact (sized_stored-64 (sized_between is.floor (floor-most is))) refl) in
    let left = c.quotient_up-left.ensures ∙ ap₂ over_up c.greatest_size-greatest.ensures.value c.one_wide-unit.ensures.value in
    c.quotient_up.ensures ∙ ap₂ over_up (ap₂ ◌*◌ left q0) floor

pub returns-clause-small : goal.returns-clause-small
returns-clause-small g c = subst (λ z. z ≤ 2 ^ 112) (sym (returns-clause-value g c)) (radius-small g.met.N.Enclosure.laws c.requires.scale c.requires.residual)
