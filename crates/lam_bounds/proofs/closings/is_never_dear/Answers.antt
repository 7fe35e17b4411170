use Rattle.std.proofs.Common.{below_more, ◌∙◌, ap, ◌-◌, ◌*◌, get_or, arith}
use Rattle.lam_bounds.specs.inside.Demands.{net_floor}
use Rattle.lam_bounds.proofs.Walking.{sum-cost, low-cost, sum-carried, table, table-some, table-cheap, greatest-small, never-dear}
use Rattle.lam_bounds.proofs.closings.is_never_dear.Goals as goal

pub cost_with-floor-requires-clause-cost : goal.cost_with-floor-requires-clause-cost
cost_with-floor-requires-clause-cost c = let h = sum-cost c.requires.partial c.requires.bounds c.requires.sums in omega (arith, h)

pub cost_with-floor-requires-clause-each : goal.cost_with-floor-requires-clause-each
cost_with-floor-requires-clause-each c = let h = low-cost c.requires.partial c.requires.bounds c.requires.sums in omega (arith, h)

pub net_floor-requires-clause-carried : goal.net_floor-requires-clause-carried
net_floor-requires-clause-carried c = sum-carried c.requires.partial c.requires.bounds c.requires.sums c.loop-k.k c.loop-k-test.true

pub net_floor-requires-clause-some : goal.net_floor-requires-clause-some
net_floor-requires-clause-some c = table-some c.requires.partial c.requires.bounds c.requires.sums c.loop-k.k c.loop-k-test.true

pub net_floor-requires-clause-best : goal.net_floor-requires-clause-best
net_floor-requires-clause-best c = table-cheap c.requires.partial c.requires.bounds c.requires.sums c.loop-k.k c.loop-k-test.true

pub net_floor-requires-clause-demand : goal.net_floor-requires-clause-demand
net_floor-requires-clause-demand c = greatest-small c.requires.partial c.requires.bounds c.requires.sums c.loop-k.k c.loop-k-test.true

pub loop-k-preserved : goal.loop-k-preserved
loop-k-preserved c =
    let t = table c.args.bounds.now c.loop-k.k in
    below_more _ _ c.loop-k.invariant
    (never-dear c.requires.partial c.requires.bounds c.requires.sums c.loop-k.k c.args.limit c.net_floor.result c.loop-k-test.true
    (c.net_floor.ensures ∙ ap (λ m. net_floor m c.args.fixed.now.cost (t.greatest_demand - 4000 * get_or c.args.fixed.now.carried c.loop-k.k 0) t.carriers.cost t.carriers.capacity) c.cost_with-floor.ensures)
    c.if-net_floor-limit.false)
