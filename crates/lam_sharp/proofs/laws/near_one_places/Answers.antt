use Rattle.lam_sharp.proofs.Places.{near_one_places}
use Rattle.lam_sharp.proofs.laws.near_one_places.Goals as goal

pub returns : goal.returns
returns c = near_one_places
