use Rattle.lam_wall.proofs.OneStrain.{at_most_one_laminate_strain}
use Rattle.lam_wall.proofs.laws.at_most_one_laminate_strain.Goals as goal

pub returns : goal.returns
returns c = at_most_one_laminate_strain
