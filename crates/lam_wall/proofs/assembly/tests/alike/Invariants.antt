use Rattle.std.proofs.Common.{◌≡◌, ◌<◌, length, All}
use Rattle.lam_stock.specs.declared.item.ItemNo.{ItemNo}
use Rattle.lam_wall.proofs.assembly.tests.alike.Given as goal

abbrev pub invariant-loop : goal.invariant-loop
invariant-loop l = record {
  plies : length l.wall ≡ l.counter;
  known : All (λ (p : ItemNo). p.0 < length l.stock) l.wall;
}
