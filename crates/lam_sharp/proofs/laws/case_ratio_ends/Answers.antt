use Rattle.lam_sharp.proofs.Places.{case_ratio_ends}
use Rattle.lam_sharp.proofs.laws.case_ratio_ends.Goals as goal

pub returns : goal.returns
returns c = case_ratio_ends
