use Rattle.std.proofs.Common.{◌∙◌, ap, ◌-◌, ◌*◌, arith, get_or}
use Rattle.lam_bounds.specs.inside.Demands.{net_floor}
use Rattle.lam_bounds.proofs.Walking.{sum-cost, low-cost, sum-carried, table, table-some, table-cheap, table-small, net-value, net-truth}
use Rattle.lam_bounds.proofs.running.net_cost_at.Goals as goal

pub cost_with-floor-requires-clause-cost : goal.cost_with-floor-requires-clause-cost
cost_with-floor-requires-clause-cost c = let h = sum-cost c.requires.partial c.requires.bounds c.requires.sums in omega (arith, h)

pub cost_with-floor-requires-clause-each : goal.cost_with-floor-requires-clause-each
cost_with-floor-requires-clause-each c = let h = low-cost c.requires.partial c.requires.bounds c.requires.sums in omega (arith, h)

pub net_floor-requires-clause-carried : goal.net_floor-requires-clause-carried
net_floor-requires-clause-carried c = sum-carried c.requires.partial c.requires.bounds c.requires.sums c.args.weight c.requires.weight

pub net_floor-requires-clause-some : goal.net_floor-requires-clause-some
net_floor-requires-clause-some c = table-some c.requires.partial c.requires.bounds c.requires.sums c.args.weight c.requires.weight

pub net_floor-requires-clause-best : goal.net_floor-requires-clause-best
net_floor-requires-clause-best c = table-cheap c.requires.partial c.requires.bounds c.requires.sums c.args.weight c.requires.weight

pub net_floor-requires-clause-demand : goal.net_floor-requires-clause-demand
net_floor-requires-clause-demand c = table-small c.requires.partial c.requires.bounds c.requires.sums c.args.weight c.args.case c.requires.weight c.requires.case

pub returns-clause-value : goal.returns-clause-value
returns-clause-value c = λ w tried.
    let t = table c.args.bounds.now c.args.weight in
    net-value c.requires.partial c.requires.bounds c.requires.sums c.args.weight c.args.case w c.net_floor.result c.requires.weight c.requires.case tried
    (c.net_floor.ensures ∙ ap (λ m. net_floor m c.args.fixed.now.cost (get_or t.demands c.args.case 0 - 4000 * get_or c.args.fixed.now.carried c.args.weight 0) t.carriers.cost t.carriers.capacity) c.cost_with-floor.ensures)

pub returns-clause-so : goal.returns-clause-so
returns-clause-so c =
    let t = table c.args.bounds.now c.args.weight in
    net-truth c.requires.partial c.requires.bounds c.requires.sums c.args.weight c.args.case c.net_floor.result c.requires.weight c.requires.case
    (c.net_floor.ensures ∙ ap (λ m. net_floor m c.args.fixed.now.cost (get_or t.demands c.args.case 0 - 4000 * get_or c.args.fixed.now.carried c.args.weight 0) t.carriers.cost t.carriers.capacity) c.cost_with-floor.ensures)
