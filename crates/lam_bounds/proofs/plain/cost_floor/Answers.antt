use Rattle.std.proofs.Common.{sym, subst, ◌≤◌, arith}
use Rattle.lam_job.specs.Schedule.{cost_of}
use Rattle.lam_bounds.proofs.Facts.{cheapest-few, floor-few, floor-so}
use Rattle.lam_bounds.proofs.PlainSteps.{floor-is}
use Rattle.lam_bounds.proofs.plain.cost_floor.Goals as goal

pub cost_with-requires-clause-each : goal.cost_with-requires-clause-each
cost_with-requires-clause-each c =
    let few = cheapest-few c.args.stock.now c.args.job.now c.args.partial.now c.requires.partial c.kept.ensures.catalogue c.requires.liner c.kept.ensures.thin in
    omega (arith, few, c.cheapest.ensures)

pub returns-clause-value : goal.returns-clause-value
returns-clause-value c = floor-is c.args.stock.now c.args.job.now c.args.partial.now _ _ _ _ c.cost_with.ensures c.fixed_cost-cost.ensures.value c.open_places.ensures.value c.cheapest.ensures

pub returns-clause-so : goal.returns-clause-so
returns-clause-so c = λ listed completes.
    let is = floor-is c.args.stock.now c.args.job.now c.args.partial.now _ _ _ _ c.cost_with.ensures c.fixed_cost-cost.ensures.value c.open_places.ensures.value c.cheapest.ensures in
    subst (λ m. m ≤ cost_of c.args.stock.now c.args.job.now listed) (sym is)
    (floor-so c.args.stock.now c.args.job.now c.args.partial.now c.requires.partial c.kept.ensures.catalogue c.requires.liner c.kept.ensures.thin listed completes)

pub returns-clause-small : goal.returns-clause-small
returns-clause-small c =
    let is = floor-is c.args.stock.now c.args.job.now c.args.partial.now _ _ _ _ c.cost_with.ensures c.fixed_cost-cost.ensures.value c.open_places.ensures.value c.cheapest.ensures in
    let few = floor-few c.args.stock.now c.args.job.now c.args.partial.now c.requires.partial c.kept.ensures.catalogue c.requires.liner c.kept.ensures.thin in
    omega (arith, is, few)
