use Rattle.std.proofs.Common.{◌∙◌, ap}
use Rattle.lam_job.specs.JobData.{JobData}
use Rattle.lam_check.proofs.CostSums.{whole-cost}
use Rattle.lam_check.proofs.costs.schedule_cost.Goals as goal

pub returns : goal.returns
returns c =
    whole-cost c.args.stock.now c.args.job.now c.args.listed.now c.items.result.now c.items-2.result.now c.plies_cost.result c.plies_cost-2.result
    (c.items.ensures.items ∙ ap (λ (j : JobData). j.liner) c.job.view_is) c.items-2.ensures.items c.plies_cost.ensures.value c.plies_cost-2.ensures.value
