use Rattle.lam_job.proofs.Sets.{bits-passed}
use Rattle.lam_job.proofs.reading.values.set_of.Goals as goal

pub loop-item-preserved : goal.loop-item-preserved
loop-item-preserved c =
    bits-passed c.args.items.now c.loop-item.item-index c.loop-item.bits _ (record { 0 = 0 }) c.loop-item-test.true c.requires c.loop-item.invariant
