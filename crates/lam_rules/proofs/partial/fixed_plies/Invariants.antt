use Rattle.std.proofs.Common.{◌≡◌, ◌++◌, reverse, take, drop}
use Rattle.lam_rules.proofs.partial.fixed_plies.Given as goal

abbrev pub invariant-loop-i : goal.invariant-loop-i
invariant-loop-i l = l.plies ≡ l.partial.prefix ++ reverse (drop l.i (take l.mirrored l.partial.prefix))
