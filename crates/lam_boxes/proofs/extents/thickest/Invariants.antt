use Rattle.std.proofs.Common.{◌≡◌, ◌≤ℤ◌, pos, take}
use Rattle.lam_job.specs.Partial.{thickest}
use Rattle.lam_boxes.proofs.extents.thickest.Given as goal

abbrev pub invariant-loop-item : goal.invariant-loop-item
invariant-loop-item l = record {
  so_far : l.most ≡ thickest (take l.item-index l.items);
  least : pos 0 ≤ℤ l.most;
  greatest : l.most ≤ℤ pos 20000;
}
