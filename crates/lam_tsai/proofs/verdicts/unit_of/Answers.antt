use Rattle.std.proofs.Common.{◌∙◌, sym, ap, subst, ◌^◌, ◌≤◌}
use Rattle.lam_tsai.proofs.Shifts.{power-small}
use Rattle.lam_tsai.proofs.verdicts.unit_of.Goals as goal

pub returns-clause-bound : goal.returns-clause-bound
returns-clause-bound g c =
    let l = g.met.N.Enclosure in
    subst (λ x. x ≤ 2 ^ 60) (sym (c.two_to.ensures ∙ ap (λ s. 2 ^ s) (c.SCALE.ensures ∙ sym l.scale_law))) (power-small _ 60 l.laws.fits)
