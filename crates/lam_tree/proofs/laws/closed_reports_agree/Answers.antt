use Rattle.lam_tree.proofs.Agree.{agree}
use Rattle.lam_tree.proofs.laws.closed_reports_agree.Goals as goal

pub returns : goal.returns
returns c = agree
