use Rattle.lam_solve.proofs.energy.PlyStrains.{small_forces}
use Rattle.lam_solve.proofs.laws.small_forces.Goals as goal

pub returns : goal.returns
returns c = small_forces
