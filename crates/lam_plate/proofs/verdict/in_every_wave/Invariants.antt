use Rattle.std.proofs.Common.{◌≡◌}
use Rattle.lam_plate.specs.inside.Formulas as by
use Rattle.lam_plate.proofs.verdict.in_every_wave.Given as goal

abbrev pub invariant-loop-passed : goal.invariant-loop-passed
invariant-loop-passed g l = l.verdict ≡ by.verdict_up_to g.N.Enclosure.numbers l.plate l.load l.passed
