use Rattle.lam_tree.proofs.Promised.{promised}
use Rattle.lam_tree.proofs.laws.accepted_keeps_promise.Goals as goal

pub returns : goal.returns
returns c = promised
