use Rattle.std.proofs.Common.{◌≡◌, ℕ, ◌<◌, Some, None, slice_get}
use Rattle.lam_job.specs.JobData.{CaseData}
use Rattle.lam_tree.specs.Closings.{MayBox}
use Rattle.lam_boxes.specs.inside.Boxes.{boxed}
use Rattle.lam_boxes.proofs.cases.first_box.Given as goal

abbrev pub invariant-loop-k : goal.invariant-loop-k
invariant-loop-k l = (j : ℕ) (c : CaseData) → j < l.k → slice_get l.job.cases j ≡ Some c → MayBox l.job c → boxed l.stock l.job l.partial j ≡ None
