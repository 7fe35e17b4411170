use Rattle.std.proofs.Common.{◌≡◌, take}
use Rattle.lam_stock.specs.Scale.{scale_of}
use Rattle.lam_job.specs.Schedule.{items_of}
use Rattle.lam_boxes.specs.inside.Extensions.{fixed_sum}
use Rattle.lam_boxes.proofs.extensions.fixed_sum.Given as goal

abbrev pub invariant-loop-number : goal.invariant-loop-number
invariant-loop-number g l = l.sum ≡ fixed_sum g.N.Enclosure.numbers (scale_of l.items).q0 l.h (items_of l.items (take l.number-index l.plies))
