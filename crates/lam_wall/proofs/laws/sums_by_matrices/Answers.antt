use Rattle.lam_wall.proofs.WallSums.{sums_by_matrices}
use Rattle.lam_wall.proofs.laws.sums_by_matrices.Goals as goal

pub returns : goal.returns
returns c = sums_by_matrices
