use Rattle.std.proofs.Common.{◌≡◌, ℕ, ◌<◌, length, Some, slice_get, slice_index, sum_by}
use Rattle.lam_job.specs.Partial.{fixed_plies}
use Rattle.lam_job.specs.Schedule.{wall_of}
use Rattle.lam_support.specs.declared.weight.Weight.{Weight}
use Rattle.lam_tree.specs.TriedWeights.{tried_weights}
use Rattle.lam_bounds.specs.inside.Computed.{capacity_value}
use Rattle.lam_bounds.proofs.fixed.Fixed.of.Given as goal

abbrev pub invariant-loop-k : goal.invariant-loop-k
invariant-loop-k l = record {
  long : length l.carried ≡ 12;
  each : (j : ℕ) (w : Weight) → j < l.k → slice_get tried_weights j ≡ Some w
      → slice_index l.carried j ≡ sum_by (λ i. capacity_value i w) (wall_of l.stock l.job (fixed_plies l.job l.partial));
}
