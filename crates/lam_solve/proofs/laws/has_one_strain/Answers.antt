use Rattle.lam_solve.proofs.energy.PlyStrains.{has_one_strain}
use Rattle.lam_solve.proofs.laws.has_one_strain.Goals as goal

pub returns : goal.returns
returns c = has_one_strain
