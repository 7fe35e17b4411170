use Rattle.lam_sharp.proofs.NearValues.{nearly_one_bounds}
use Rattle.lam_sharp.proofs.laws.nearly_one_bounds.Goals as goal

pub returns : goal.returns
returns c = nearly_one_bounds
