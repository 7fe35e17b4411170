use Rattle.std.proofs.Common.{◌≡◌, length}
use Rattle.lam_stock.specs.Field as spec
use Rattle.lam_stock.proofs.field.without_start_blanks.Given as goal

abbrev pub invariant-loop-left : goal.invariant-loop-left
invariant-loop-left l = spec.without_start_blanks l.left ≡ spec.without_start_blanks l.fn.field

abbrev pub decreases-loop-left : goal.decreases-loop-left
decreases-loop-left l = length l.left
