use Rattle.std.proofs.Common.{ℕ, ◌<◌, IsFalse}
use Rattle.lam_stock.specs.Likeness.{are_mirrors}
use Rattle.lam_stock.proofs.stock.Stock.mirror_of.Given as goal

abbrev pub invariant-loop-b : goal.invariant-loop-b
invariant-loop-b l = (k : ℕ) → k < l.b → IsFalse (are_mirrors l.self k l.a.0)
