use Rattle.std.proofs.Common.{ap, subst, arith}
use Rattle.lam_bounds.proofs.Costs.{AreAtMost, dearest-more, dearest-all}
use Rattle.lam_bounds.proofs.SumSteps.{cost-few}
use Rattle.lam_bounds.proofs.bounds.dearest.Goals as goal

pub loop-item-preserved : goal.loop-item-preserved
loop-item-preserved c =
    let items = c.items-item-items.result.now in
    let own = cost-few c.args.stock.now c.items-item-items.ensures.limits items c.items-item-items.ensures.items c.loop-item.item-index c.item-item.result c.loop-item-test.true in
    let here = ap (λ i. i.cost) c.item-item.is in
    record {
      all = dearest-more items c.loop-item.item-index c.loop-item.most c.max-most.result c.item-item.result c.loop-item-test.true c.item-item.is c.max-most.ensures c.loop-item.invariant.all;
      few = omega (arith, c.max-most.ensures, c.loop-item.invariant.few, own, here);
    }

pub returns-clause-greatest : goal.returns-clause-greatest
returns-clause-greatest c =
    subst (AreAtMost c.loop-item.most) c.items-item-items.ensures.items
    (dearest-all c.items-item-items.result.now c.loop-item.item-index c.loop-item.most (omega arith) c.loop-item.invariant.all)
