use Rattle.std.proofs.Common.{◌≡◌, ◌≤ℤ◌, pos, take}
use Rattle.lam_boxes.specs.inside.Extents.{thinnest}
use Rattle.lam_boxes.proofs.extents.thinnest.Given as goal

abbrev pub invariant-loop-item : goal.invariant-loop-item
invariant-loop-item l = record {
  so_far : l.least ≡ thinnest (take l.item-index l.items);
  least : pos 0 ≤ℤ l.least;
  greatest : l.least ≤ℤ pos 20000;
}
