use Rattle.std.proofs.Common.{◌≡◌, ◌*◌, pos, ◌≤ℤ◌, take}
use Rattle.lam_job.specs.Schedule.{items_of}
use Rattle.lam_job.specs.Wall.{wall_thickness}
use Rattle.lam_rules.proofs.thickness.thickness_of.Given as goal

abbrev pub invariant-loop-ply : goal.invariant-loop-ply
invariant-loop-ply l = record {
  so_far : l.sum ≡ wall_thickness (items_of l.items (take l.ply-index l.numbers));
  least : pos (50 * l.ply-index) ≤ℤ l.sum;
  greatest : l.sum ≤ℤ pos (20000 * l.ply-index);
}
