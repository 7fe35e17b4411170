use Rattle.std.proofs.Common.{ap, ◌∙◌, arith}
use Rattle.lam_job.specs.JobData.{JobData}
use Rattle.lam_bounds.proofs.Facts.{cheapest-few}
use Rattle.lam_bounds.proofs.PlainSteps.{floor-is, plain-net, plain-net_so}
use Rattle.lam_bounds.proofs.plain.cost_by.Goals as goal

pub cost_with-floor-requires-clause-each : goal.cost_with-floor-requires-clause-each
cost_with-floor-requires-clause-each c =
    let few = cheapest-few c.args.stock.now c.args.job.now c.args.partial.now c.requires.partial c.kept.ensures.catalogue c.requires.liner c.kept.ensures.thin in
    omega (arith, few, c.cheapest.ensures)

pub returns-clause-value : goal.returns-clause-value
returns-clause-value c =
    let is = floor-is c.args.stock.now c.args.job.now c.args.partial.now _ _ _ _ c.cost_with-floor.ensures c.fixed_cost-cost.ensures.value c.open_places.ensures.value c.cheapest.ensures in
    plain-net c.requires.partial c.kept.ensures.catalogue c.requires.liner c.kept.ensures.thin
    c.args.w.now c.args.carriers.now c.requires.carriers c.args.case c.index-items-case.result c.items.result.now (c.items.ensures ∙ ap (λ (j : JobData). j.cases) c.job.view_is) c.requires.case c.index-items-case.is
    c.carried-carried.result (c.carried-carried.ensures.value c.args.w.now c.requires.carriers) c.demand-demand.result c.demand-demand.ensures.value
    c.cost_with-floor.result c.fixed_cost-cost.result c.net_floor.result is c.fixed_cost-cost.ensures.value c.net_floor.ensures

pub returns-clause-so : goal.returns-clause-so
returns-clause-so c =
    let is = floor-is c.args.stock.now c.args.job.now c.args.partial.now _ _ _ _ c.cost_with-floor.ensures c.fixed_cost-cost.ensures.value c.open_places.ensures.value c.cheapest.ensures in
    plain-net_so c.requires.partial c.kept.ensures.catalogue c.requires.liner c.kept.ensures.thin
    c.args.w.now c.args.carriers.now c.requires.carriers c.args.case c.index-items-case.result c.items.result.now (c.items.ensures ∙ ap (λ (j : JobData). j.cases) c.job.view_is) c.requires.case c.index-items-case.is
    c.carried-carried.result (c.carried-carried.ensures.value c.args.w.now c.requires.carriers) c.demand-demand.result c.demand-demand.ensures.value
    c.cost_with-floor.result c.fixed_cost-cost.result c.net_floor.result is c.fixed_cost-cost.ensures.value c.net_floor.ensures
