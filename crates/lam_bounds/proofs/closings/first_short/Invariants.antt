use Rattle.std.proofs.Common.{◌≡◌, ℕ, ◌<◌, Some, slice_get}
use Rattle.lam_job.specs.JobData.{CaseData}
use Rattle.lam_support.specs.declared.weight.Weight.{Weight}
use Rattle.lam_tree.specs.ForceBalance.{IsShort}
use Rattle.lam_tree.specs.TriedWeights.{tried_weights}
use Rattle.lam_bounds.specs.inside.Computed.{capacity_value}
use Rattle.lam_bounds.proofs.closings.first_short.Given as goal

abbrev pub invariant-loop-case : goal.invariant-loop-case
invariant-loop-case l = (n : ℕ) → n < l.case → (case : CaseData) → slice_get l.job.cases n ≡ Some case → (j : ℕ) (w : Weight) → slice_get tried_weights j ≡ Some w
    → ¬ IsShort l.stock l.job l.partial case w (λ i. capacity_value i w)
