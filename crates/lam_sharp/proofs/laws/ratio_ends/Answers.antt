use Rattle.lam_sharp.proofs.Places.{ratio_ends}
use Rattle.lam_sharp.proofs.laws.ratio_ends.Goals as goal

pub returns : goal.returns
returns c = ratio_ends
