use Rattle.lam_sharp.proofs.Places.{hardly_above_stands}
use Rattle.lam_sharp.proofs.laws.hardly_above_stands.Goals as goal

pub returns : goal.returns
returns c = hardly_above_stands
