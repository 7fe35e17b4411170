use Rattle.std.proofs.Common.{length}
use Rattle.lam_check.proofs.design.emptied.Given as goal

abbrev pub decreases-left : goal.decreases-left
decreases-left l = length l.left
