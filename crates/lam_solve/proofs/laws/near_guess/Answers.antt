use Rattle.lam_solve.proofs.energy.PlyStrains.{near_guess}
use Rattle.lam_solve.proofs.laws.near_guess.Goals as goal

pub returns : goal.returns
returns c = near_guess
