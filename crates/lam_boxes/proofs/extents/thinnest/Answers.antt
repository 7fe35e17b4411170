use Rattle.lam_boxes.proofs.MoreItems.{thinnest-more}
use Rattle.lam_boxes.proofs.extents.thinnest.Goals as goal

pub loop-item-preserved : goal.loop-item-preserved
loop-item-preserved c =
    let l = c.loop-item in
    let step = thinnest-more c.args.items.now l.item-index c.item-item.result _ c.smaller-least.result c.requires c.loop-item-test.true c.item-item.is l.invariant.least l.invariant.greatest
    l.invariant.so_far c.smaller-least.ensures in
    record { so_far = step.so_far; least = step.least; greatest = step.greatest }
