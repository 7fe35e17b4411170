use Rattle.std.specs.Prelude.{◌≡◌, ◌≤◌, ◌*◌, sum_by, take}
use Rattle.lam_job.specs.Schedule.{items_of}
use Rattle.lam_report.proofs.wall.cost_of_plies.Given as goal

abbrev pub invariant-loop-ply : goal.invariant-loop-ply
invariant-loop-ply l = record {
  total : l.total ≡ sum_by (λ i. i.cost) (items_of l.stock (take l.ply-index l.ply-items));
  small : l.total ≤ 1000000000 * l.ply-index;
}
