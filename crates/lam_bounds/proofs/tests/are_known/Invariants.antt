use Rattle.std.proofs.Common.{take}
use Rattle.lam_stock.specs.Stock.{IsKnown}
use Rattle.lam_bounds.proofs.tests.are_known.Given as goal

abbrev pub invariant-loop-ply : goal.invariant-loop-ply
invariant-loop-ply l = IsKnown l.stock (take l.ply-index l.plies)
