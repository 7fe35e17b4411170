use Rattle.std.proofs.Common.{◌≡◌, ◌*◌, ◌≤◌, take}
use Rattle.std.specs.Prelude.{sum_by}
use Rattle.lam_job.specs.Schedule.{items_of}
use Rattle.lam_check.proofs.costs.plies_cost.Given as goal

abbrev pub invariant-loop-ply : goal.invariant-loop-ply
invariant-loop-ply l = record {
  so_far : l.sum ≡ sum_by (λ i. i.cost) (items_of l.stock (take l.ply-index l.plies));
  small : l.sum ≤ 1000000000 * l.ply-index;
}
