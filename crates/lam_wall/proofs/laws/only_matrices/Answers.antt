use Rattle.lam_wall.proofs.OnlyMatrices.{only_matrices}
use Rattle.lam_wall.proofs.laws.only_matrices.Goals as goal

pub returns : goal.returns
returns c = only_matrices
