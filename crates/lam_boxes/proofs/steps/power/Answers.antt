use Rattle.lam_solve.proofs.Units.{shifted_one, power-small}
use Rattle.lam_boxes.proofs.steps.power.Goals as goal

pub returns-clause-value : goal.returns-clause-value
returns-clause-value c = shifted_one c.args.bits c.requires

pub returns-clause-small : goal.returns-clause-small
returns-clause-small c = power-small _ _ c.requires (returns-clause-value c)
