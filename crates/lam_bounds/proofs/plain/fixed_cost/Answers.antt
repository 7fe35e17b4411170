use Rattle.std.proofs.Common.{◌∙◌, arith}
use Rattle.lam_bounds.proofs.Facts.{fixed-cost}
use Rattle.lam_bounds.proofs.RunningSteps.{cost-by-table, known-few}
use Rattle.lam_bounds.proofs.plain.fixed_cost.Goals as goal

pub whole_sum-requires-clause-liner : goal.whole_sum-requires-clause-liner
whole_sum-requires-clause-liner c = known-few c.args.stock.now 64 c.args.job.now.liner c.kept.ensures.catalogue.few c.requires.liner

pub whole_sum-requires-clause-known : goal.whole_sum-requires-clause-known
whole_sum-requires-clause-known c = known-few c.args.stock.now 64 c.args.partial.now.prefix c.kept.ensures.catalogue.few c.requires.partial.known

pub overflow_cast-result : goal.overflow_cast-result
overflow_cast-result c =
    let same = cost-by-table c.args.stock.now c.args.job.now c.args.partial.now c.requires.liner c.requires.partial.known c.costs.result c.costs.ensures in
    let few = fixed-cost c.args.stock.now c.args.job.now c.args.partial.now c.requires.partial c.kept.ensures.catalogue c.requires.liner c.kept.ensures.thin in
    omega (arith, c.whole_sum.ensures.value, same, few)

pub returns-clause-value : goal.returns-clause-value
returns-clause-value c = c.whole_sum.ensures.value ∙ cost-by-table c.args.stock.now c.args.job.now c.args.partial.now c.requires.liner c.requires.partial.known c.costs.result c.costs.ensures

pub returns-clause-small : goal.returns-clause-small
returns-clause-small c =
    let same = cost-by-table c.args.stock.now c.args.job.now c.args.partial.now c.requires.liner c.requires.partial.known c.costs.result c.costs.ensures in
    let few = fixed-cost c.args.stock.now c.args.job.now c.args.partial.now c.requires.partial c.kept.ensures.catalogue c.requires.liner c.kept.ensures.thin in
    omega (arith, c.whole_sum.ensures.value, same, few)
