use Rattle.std.proofs.Common.{below_more, ◌∙◌, ap, length, ◌<◌, ◌≤◌, ◌*◌, arith}
use Rattle.std.proofs.Math.Nat.{mul-le-mul}
use Rattle.lam_tree.specs.ForceBalance.{net_cost}
use Rattle.lam_job.specs.Partial.{child}
use Rattle.lam_bounds.specs.inside.Computed.{capacity_value}
use Rattle.lam_bounds.proofs.ChildBounds.{child-never-dear}
use Rattle.lam_bounds.proofs.Walking.{sum-cost, low-cost, sum-few, table-some, table-cheap, greatest-small, all-tried, place-of}
use Rattle.lam_bounds.specs.inside.RunningSums.{places_of}
use Rattle.lam_bounds.proofs.children.no_child_is_dear.Goals as goal

pub cost_with-cost-requires-clause-cost : goal.cost_with-cost-requires-clause-cost
cost_with-cost-requires-clause-cost c = let h = sum-cost c.requires.partial c.requires.bounds c.requires.sums in omega (arith, h)

pub cost_with-cost-requires-clause-each : goal.cost_with-cost-requires-clause-each
cost_with-cost-requires-clause-each c = let h = c.requires.bounds.few in omega (arith, h)

pub cost_with-floor-requires-clause-cost : goal.cost_with-floor-requires-clause-cost
cost_with-floor-requires-clause-cost c =
    let h = sum-cost c.requires.partial c.requires.bounds c.requires.sums in
    let times : c.places-places.result * c.args.bounds.now.dearest ≤ 2 * 1000000000 = mul-le-mul c.places-places.ensures.few c.requires.bounds.few in
    omega (arith, h, times, c.cost_with-cost.ensures)

pub cost_with-floor-requires-clause-each : goal.cost_with-floor-requires-clause-each
cost_with-floor-requires-clause-each c = let h = low-cost c.requires.partial c.requires.bounds c.requires.sums in omega (arith, h)

pub overflow_add-fixed : goal.overflow_add-fixed
overflow_add-fixed c = let h = sum-few c.requires.partial c.requires.bounds c.requires.sums c.loop-k.k c.loop-k-test.true in omega (arith, h, c.so_many-least.ensures.small)

pub net_floor-requires-clause-carried : goal.net_floor-requires-clause-carried
net_floor-requires-clause-carried c = let h = sum-few c.requires.partial c.requires.bounds c.requires.sums c.loop-k.k c.loop-k-test.true in omega (arith, h, c.so_many-least.ensures.small)

pub net_floor-requires-clause-some : goal.net_floor-requires-clause-some
net_floor-requires-clause-some c = table-some c.requires.partial c.requires.bounds c.requires.sums c.loop-k.k c.loop-k-test.true

pub net_floor-requires-clause-best : goal.net_floor-requires-clause-best
net_floor-requires-clause-best c = table-cheap c.requires.partial c.requires.bounds c.requires.sums c.loop-k.k c.loop-k-test.true

pub net_floor-requires-clause-demand : goal.net_floor-requires-clause-demand
net_floor-requires-clause-demand c = greatest-small c.requires.partial c.requires.bounds c.requires.sums c.loop-k.k c.loop-k-test.true

pub loop-k-preserved : goal.loop-k-preserved
loop-k-preserved c =
    below_more _ _ c.loop-k.invariant
    (child-never-dear c.requires.partial c.requires.bounds c.requires.sums c.requires.more c.loop-k.k c.args.limit c.net_floor.result c.places-places.result c.so_many-least.result c.cost_with-cost.result c.cost_with-floor.result
    c.loop-k-test.true
    (c.places-places.ensures.value ∙ ap (λ l. places_of c.args.job.now c.partial.inside.n (length l)) c.items.ensures.items ∙ ap (λ q. places_of c.args.job.now q.n (length q.prefix)) c.partial.view_is) c.so_many-least.ensures.value c.cost_with-cost.ensures c.cost_with-floor.ensures c.net_floor.ensures c.if-net_floor-limit.false)

pub returns : goal.returns
returns c = λ yes' item known n case at.
    all-tried (λ w. net_cost c.args.stock.now c.args.job.now (child c.args.partial.now item) case w (λ i. capacity_value i w) < c.args.limit)
    (λ k w tried. c.loop-k.invariant k (let few = place-of k w tried in omega (arith, few)) item known n case at w tried)
