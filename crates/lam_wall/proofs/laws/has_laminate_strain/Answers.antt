use Rattle.lam_wall.proofs.AStrain.{has_laminate_strain}
use Rattle.lam_wall.proofs.laws.has_laminate_strain.Goals as goal

pub returns : goal.returns
returns c = has_laminate_strain
