use Rattle.std.proofs.Common.{◌≡◌, ◌≤◌, ◌-◌}
use Rattle.lam_tsai.specs.inside.Values.{first_shift, shift_of}
use Rattle.lam_tsai.proofs.loaded.shift.Given as goal

abbrev pub invariant-loop-shift : goal.invariant-loop-shift
invariant-loop-shift l = (l.shift ≤ 24) × (first_shift (24 - l.shift) l.shift l.load l.bound ≡ shift_of l.load l.bound)

abbrev pub decreases-loop-shift : goal.decreases-loop-shift
decreases-loop-shift l = 24 - l.shift
