use Rattle.std.proofs.Common.{◌≡◌, take}
use Rattle.laminate.proofs.printed.listed_ratios.Given as goal

abbrev pub invariant-loop-number : goal.invariant-loop-number
invariant-loop-number l = l.list ≡ take l.number l.room.ratios
