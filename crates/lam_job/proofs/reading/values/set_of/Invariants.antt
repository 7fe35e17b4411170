use Rattle.std.proofs.Common.{◌≡◌, drop}
use Rattle.lam_job.specs.JobOf.{bits_of}
use Rattle.lam_job.proofs.reading.values.set_of.Given as goal

abbrev pub invariant-loop-item : goal.invariant-loop-item
invariant-loop-item l = bits_of l.bits (drop l.item-index l.items) ≡ bits_of 0 l.items
