use Rattle.lam_rules.proofs.Thickest.{thickest_more}
use Rattle.lam_rules.proofs.thickness.thickest.Goals as goal

pub loop-item-preserved : goal.loop-item-preserved
loop-item-preserved c =
    let so_far = c.loop-item.invariant in
    let items = c.items-item-items in
    let step = thickest_more c.args.stock.now items.result.now c.loop-item.item-index c.item-item.result _ c.greater-most.result
    items.ensures.limits items.ensures.items c.loop-item-test.true c.item-item.is so_far.most so_far.least so_far.greatest c.greater-most.ensures in
    record { most = step.most; least = step.least; greatest = step.greatest }
