use Rattle.std.proofs.Common.{◌≤◌, length}
use Rattle.lam_stock.specs.Stock.{IsKnown}
use Rattle.lam_judge.proofs.tests.plies.Given as goal

abbrev pub invariant-loop-number : goal.invariant-loop-number
invariant-loop-number l = record { known : IsKnown l.stock l.plies; few : length l.plies ≤ 56 }
