use Rattle.std.proofs.Common.{◌≡◌, ℕ, ◌<◌, length, Some, slice_get}
use Rattle.lam_support.specs.declared.weight.Weight.{Weight}
use Rattle.lam_tree.specs.TriedWeights.{tried_weights}
use Rattle.lam_bounds.specs.declared.bounds.Tried.{Tried}
use Rattle.lam_bounds.specs.inside.Tables.{IsTried}
use Rattle.lam_bounds.proofs.bounds.Bounds.of.Given as goal

abbrev pub invariant-loop-k : goal.invariant-loop-k
invariant-loop-k l = record {
  long : length l.tried ≡ 12;
  each : (j : ℕ) (w : Weight) (t : Tried) → j < l.k → slice_get tried_weights j ≡ Some w → slice_get l.tried j ≡ Some t → IsTried l.stock l.job w t;
}
