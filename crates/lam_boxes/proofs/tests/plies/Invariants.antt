use Rattle.std.proofs.Common.{◌≤◌, length}
use Rattle.lam_stock.specs.Stock.{IsKnown}
use Rattle.lam_boxes.proofs.tests.plies.Given as goal

abbrev pub invariant-loop-number : goal.invariant-loop-number
invariant-loop-number l = record { known : IsKnown l.stock l.plies; most : length l.plies ≤ l.most }
