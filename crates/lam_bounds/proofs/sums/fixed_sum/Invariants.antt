use Rattle.std.proofs.Common.{◌≡◌, ◌*◌, ◌^◌, ◌≤◌, take}
use Rattle.lam_bounds.specs.inside.RunningSums.{fixed_sum}
use Rattle.lam_bounds.proofs.sums.fixed_sum.Given as goal

abbrev pub invariant-loop-k : goal.invariant-loop-k
invariant-loop-k l = record {
  so_far : l.sum ≡ fixed_sum l.values l.job (record { n = l.partial.n; prefix = take l.k l.plies });
  small : l.sum ≤ 2 ^ 66 * l.k;
}
