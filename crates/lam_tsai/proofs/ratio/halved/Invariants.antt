use Rattle.std.proofs.Common.{◌-◌}
use Rattle.lam_tsai.specs.inside.Halving as by
use Rattle.lam_tsai.proofs.Halved.{Halves}
use Rattle.lam_tsai.proofs.ratio.halved.Given as goal

abbrev pub invariant-loop-beyond : goal.invariant-loop-beyond
invariant-loop-beyond g l = Halves (by.meets g.N.Enclosure.numbers l.criterion l.inner l.outer) l.met l.beyond

abbrev pub decreases-loop-beyond : goal.decreases-loop-beyond
decreases-loop-beyond g l = l.beyond - l.met
