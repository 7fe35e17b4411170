use Rattle.lam_solve.proofs.energy.PlyStrains.{strains_in_range}
use Rattle.lam_solve.proofs.laws.strains_in_range.Goals as goal

pub returns : goal.returns
returns c = strains_in_range
