use Rattle.lam_sharp.proofs.NearValues.{near_one_is_near}
use Rattle.lam_sharp.proofs.laws.near_one_is_near.Goals as goal

pub returns : goal.returns
returns c = near_one_is_near
