use Rattle.lam_check.proofs.SplitSteps.{has_bit-or}
use Rattle.lam_check.proofs.splits.Open.with.Goals as goal

pub returns-clause-had : goal.returns-clause-had
returns-clause-had c = λ i. has_bit-or c.args.self.now.had c.args.item.0 i c.requires.within
