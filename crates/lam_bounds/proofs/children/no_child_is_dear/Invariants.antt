use Rattle.std.proofs.Common.{◌≡◌, ℕ, ◌<◌, length, Some, slice_get}
use Rattle.lam_stock.specs.declared.item.ItemNo.{ItemNo}
use Rattle.lam_job.specs.JobData.{CaseData}
use Rattle.lam_job.specs.Partial.{child}
use Rattle.lam_support.specs.declared.weight.Weight.{Weight}
use Rattle.lam_tree.specs.ForceBalance.{net_cost}
use Rattle.lam_tree.specs.TriedWeights.{tried_weights}
use Rattle.lam_bounds.specs.inside.Computed.{capacity_value}
use Rattle.lam_bounds.proofs.children.no_child_is_dear.Given as goal

abbrev pub invariant-loop-k : goal.invariant-loop-k
invariant-loop-k l = (j : ℕ) → j < l.k → (item : ItemNo) → item.0 < length l.stock → (n : ℕ) (case : CaseData) → slice_get l.job.cases n ≡ Some case
    → (w : Weight) → slice_get tried_weights j ≡ Some w → net_cost l.stock l.job (child l.partial item) case w (λ i. capacity_value i w) < l.limit
