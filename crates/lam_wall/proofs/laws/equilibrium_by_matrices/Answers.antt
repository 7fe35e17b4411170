use Rattle.lam_wall.proofs.Equilibrium.{equilibrium_by_matrices}
use Rattle.lam_wall.proofs.laws.equilibrium_by_matrices.Goals as goal

pub returns : goal.returns
returns c = equilibrium_by_matrices
