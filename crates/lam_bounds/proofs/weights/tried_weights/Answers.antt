use Rattle.std.proofs.Common.{refl}
use Rattle.lam_bounds.proofs.SameWeights.{same_weights}
use Rattle.lam_bounds.proofs.weights.tried_weights.Goals as goal

pub returns : goal.returns
returns c = same_weights _ _ refl
