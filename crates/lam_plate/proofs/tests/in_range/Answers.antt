use Rattle.std.proofs.Common.{subst}
use Rattle.lam_job.specs.Ranges.{IsPanel}
use Rattle.lam_plate.proofs.tests.in_range.Goals as goal

pub returns : goal.returns
returns c = subst IsPanel c.panel.view_is c.panel.invariant
