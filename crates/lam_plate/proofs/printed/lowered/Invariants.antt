use Rattle.std.proofs.Common.{◌-◌}
use Rattle.lam_plate.specs.inside.Formulas as by
use Rattle.lam_plate.proofs.Halving.{Halving}
use Rattle.lam_plate.proofs.printed.lowered.Given as goal

abbrev pub invariant-loop-beyond : goal.invariant-loop-beyond
invariant-loop-beyond g l = Halving (by.meets_at g.N.Enclosure.numbers l.plate l.wave) l.most l.met l.beyond

abbrev pub decreases-loop-beyond : goal.decreases-loop-beyond
decreases-loop-beyond g l = l.beyond - l.met
