use Rattle.lam_solve.proofs.Units.{one-is, one-small, one-least}
use Rattle.lam_boxes.proofs.steps.one.Goals as goal

pub returns-clause-value : goal.returns-clause-value
returns-clause-value g c = one-is _ _ _ g.met.N.Enclosure.laws.fits g.met.N.Enclosure.scale_law c.SCALE.ensures

pub returns-clause-least : goal.returns-clause-least
returns-clause-least g c = one-least g.met.N.Enclosure.laws _ (returns-clause-value g c)

pub returns-clause-small : goal.returns-clause-small
returns-clause-small g c = one-small g.met.N.Enclosure.laws _ (returns-clause-value g c)
