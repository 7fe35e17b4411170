use Rattle.std.proofs.Common.{◌≡◌, replicate}
use Rattle.lam_stock.specs.declared.item.ItemNo.{ItemNo}
use Rattle.lam_plate.proofs.tests.alike.Given as goal

abbrev pub invariant-loop : goal.invariant-loop
invariant-loop g l = l.wall ≡ replicate {A = ItemNo} l.counter (record { 0 = 0 })
