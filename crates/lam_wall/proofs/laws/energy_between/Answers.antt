use Rattle.lam_wall.proofs.WallEnergy.{energy_between}
use Rattle.lam_wall.proofs.laws.energy_between.Goals as goal

pub returns : goal.returns
returns c = energy_between
