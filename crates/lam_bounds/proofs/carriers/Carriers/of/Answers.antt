use Rattle.std.proofs.Common.{sym, ap, ◌∙◌, subst, length, take, ◌+◌, ◌≤◌, arith}
use Rattle.lam_bounds.specs.inside.Computed.{capacity_value}
use Rattle.lam_bounds.specs.inside.Tables.{AreCarriers}
use Rattle.lam_bounds.proofs.Capacities.{capacity-is}
use Rattle.lam_bounds.proofs.CarrierSteps.{carriers-more, carriers-all}
use Rattle.lam_bounds.proofs.SumSteps.{cost-few}
use Rattle.lam_bounds.proofs.carriers.Carriers.of.Goals as goal

pub loop-k-init : goal.loop-k-init
loop-k-init c = c.none-carriers.ensures _

pub loop-k-preserved : goal.loop-k-preserved
loop-k-preserved c =
    let items = c.items-items.result.now in
    let w = c.args.w.now in
    let item = c.index-items-k.result in
    subst (AreCarriers (λ i. capacity_value i w) (take (c.loop-k.k + 1) items)) (sym c.add.ensures)
    (carriers-more (λ i. capacity_value i w) c.loop-k.carriers items c.loop-k.k item (omega arith) (omega (arith, ap length c.items-items.ensures.items)) c.loop-k.invariant
    item.cost c.capacity.result (ap (λ i. i.cost) c.index-items-k.is) (c.capacity.ensures.value ∙ capacity-is item w ∙ ap (λ i. capacity_value i w) c.index-items-k.is) c.capacity.ensures.least c.capacity.type_inv
    (subst (λ n. n ≤ 1000000000) (sym (ap (λ i. i.cost) c.index-items-k.is)) (cost-few c.args.stock.now c.items-items.ensures.limits items c.items-items.ensures.items c.loop-k.k item (omega arith))))

pub returns : goal.returns
returns c =
    let items = c.items-items.result.now in
    subst (λ l. AreCarriers (λ i. capacity_value i c.args.w.now) l c.loop-k.carriers) c.items-items.ensures.items
    (carriers-all (λ i. capacity_value i c.args.w.now) c.loop-k.carriers items c.loop-k.k (omega arith) c.loop-k.invariant)
