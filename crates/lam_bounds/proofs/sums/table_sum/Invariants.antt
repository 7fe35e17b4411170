use Rattle.std.proofs.Common.{◌≡◌, ◌*◌, ◌^◌, ◌≤◌, take}
use Rattle.lam_bounds.specs.inside.RunningSums.{table_sum}
use Rattle.lam_bounds.proofs.sums.table_sum.Given as goal

abbrev pub invariant-loop-ply : goal.invariant-loop-ply
invariant-loop-ply l = record {
  so_far : l.sum ≡ table_sum l.values (take l.ply-index l.numbers);
  small : l.sum ≤ 2 ^ 64 * l.ply-index;
}
