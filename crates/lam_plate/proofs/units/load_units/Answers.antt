use Rattle.std.proofs.Common.{refl, sym, ◌∙◌, ap, subst, pos, ◌≤ℤ◌}
use Rattle.lam_fraction.proofs.numbers.Machine.{sizes, is_exact}
use Rattle.lam_job.specs.Ranges.{IsPanel}
use Rattle.lam_plate.specs.inside.Formulas as by
use Rattle.lam_plate.proofs.ShiftedUnits.{load-least, most-sized}
use Rattle.lam_plate.proofs.units.load_units.Goals as goal

pub returns-clause-value : goal.returns-clause-value
returns-clause-value c = is_exact (search (sizes, c) depth 30 fits 9000) refl ∙ ap by.load_units c.panel.view_is

pub returns-clause-least : goal.returns-clause-least
returns-clause-least c = subst (λ z. pos 0 ≤ℤ z) (sym (returns-clause-value c)) (load-least c.args.panel.now (subst IsPanel c.panel.view_is c.panel.invariant))

pub returns-clause-most : goal.returns-clause-most
returns-clause-most c = most-sized _ (search (sizes, c) depth 30 fits 9000) refl
