use Rattle.std.proofs.Common.{◌≡◌, take}
use Rattle.laminate.specs.inside.Printing.{panels_in}
use Rattle.laminate.proofs.printed.listed_panels.Given as goal

abbrev pub invariant-loop-number : goal.invariant-loop-number
invariant-loop-number l = l.list ≡ take l.number (panels_in l.room.panels)
