use Rattle.std.proofs.Common.{pos, ◌≤ℤ◌, ◌≡◌, take}
use Rattle.lam_stock.specs.LimitNumbers.{greatest_modulus}
use Rattle.lam_stock.specs.Scale as spec
use Rattle.lam_stock.proofs.scale.least_floor.Given as goal

abbrev pub invariant-loop-item : goal.invariant-loop-item
invariant-loop-item l = record {
  so_far : l.least ≡ spec.least_floor (take l.item-index l.items);
  least : pos 500 ≤ℤ l.least;
  greatest : l.least ≤ℤ greatest_modulus;
}
