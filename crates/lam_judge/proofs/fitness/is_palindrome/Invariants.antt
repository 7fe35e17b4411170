use Rattle.std.proofs.Common.{◌≡◌, ℕ, ◌<◌, ◌-◌, length, get_or}
use Rattle.lam_stock.specs.declared.item.ItemNo.{ItemNo}
use Rattle.lam_judge.proofs.fitness.is_palindrome.Given as goal

abbrev pub invariant-loop-i : goal.invariant-loop-i
invariant-loop-i l = (k : ℕ) (d : ItemNo) → k < l.i → get_or l.plies k d ≡ get_or l.plies (length l.plies - 1 - k) d
