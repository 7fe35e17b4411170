use Rattle.std.proofs.Common.{pos, ◌≤ℤ◌, ◌≡◌, take}
use Rattle.lam_stock.specs.Scale as spec
use Rattle.lam_stock.proofs.scale.greatest_cap.Given as goal

abbrev pub invariant-loop-item : goal.invariant-loop-item
invariant-loop-item l = record {
  so_far : l.greatest ≡ spec.greatest_cap (take l.item-index l.items);
  least : pos 0 ≤ℤ l.greatest;
  greatest : l.greatest ≤ℤ pos 1600000;
}
