use Rattle.std.proofs.Common.{take}
use Rattle.lam_stock.specs.Scale.{scale_of}
use Rattle.lam_job.specs.Schedule.{items_of}
use Rattle.lam_wall.proofs.LaidWall.{IsLaid}
use Rattle.lam_wall.proofs.assembly.laid.Given as goal

abbrev pub invariant-loop-number : goal.invariant-loop-number
invariant-loop-number g l = IsLaid g.N.Enclosure.numbers (scale_of l.items).q0 l.h (items_of l.items (take l.number-index l.numbers)) l.wall l.inner
