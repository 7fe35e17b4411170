use Rattle.std.proofs.Common.{ℕ, ◌^◌, ◌<◌, ◌≤◌, slice_index}
use Rattle.lam_bounds.proofs.bounds.greatest.Given as goal

abbrev pub invariant-loop-demand : goal.invariant-loop-demand
invariant-loop-demand l = record {
  greatest : (k : ℕ) → k < l.demand-index → slice_index l.demands k ≤ l.most;
  small : l.most ≤ 2 ^ 90;
}
