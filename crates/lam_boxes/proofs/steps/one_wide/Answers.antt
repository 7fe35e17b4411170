use Rattle.std.proofs.Common.{sym, subst, ap, ◌∙◌, ◌≤◌, ◌^◌}
use Rattle.lam_solve.proofs.Units.{wide-is, unit_least, unit_most}
use Rattle.lam_boxes.proofs.steps.one_wide.Goals as goal

pub returns-clause-value : goal.returns-clause-value
returns-clause-value g c = wide-is _ _ _ g.met.N.Enclosure.scale_law (c.two_to.ensures ∙ ap (λ k. 2 ^ k) c.SCALE.ensures)

pub returns-clause-least : goal.returns-clause-least
returns-clause-least g c = subst (λ z. 2 ^ 28 ≤ z) (sym (returns-clause-value g c)) (unit_least g.met.N.Enclosure.laws)

pub returns-clause-small : goal.returns-clause-small
returns-clause-small g c = subst (λ z. z ≤ 2 ^ 60) (sym (returns-clause-value g c)) (unit_most g.met.N.Enclosure.laws)
