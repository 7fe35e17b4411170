use Rattle.laminate.specs.inside.Ranges.{IsWithin}
use Rattle.laminate.proofs.RangeFacts.{HoldsBelow}
use Rattle.laminate.proofs.range.first_beyond.Given as goal

abbrev pub invariant-loop-number : goal.invariant-loop-number
invariant-loop-number l = HoldsBelow (IsWithin l.scale.floor l.h) l.cases l.number
