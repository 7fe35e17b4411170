use Rattle.std.proofs.Common.{ap, ◌∙◌, if◌then◌else◌, ◌+◌}
use Rattle.lam_job.specs.JobData.{JobData}
use Rattle.lam_bounds.specs.inside.Computed.{capacity_value}
use Rattle.lam_bounds.specs.inside.RunningSums.{table_sum, fixed_sum}
use Rattle.lam_bounds.proofs.RunningSteps.{wall-by-table, known-few}
use Rattle.lam_bounds.proofs.plain.carried.Goals as goal

pub whole_sum-requires-clause-liner : goal.whole_sum-requires-clause-liner
whole_sum-requires-clause-liner c = known-few c.args.stock.now 64 c.args.job.now.liner c.kept.ensures.catalogue.few c.requires.liner

pub whole_sum-requires-clause-known : goal.whole_sum-requires-clause-known
whole_sum-requires-clause-known c = known-few c.args.stock.now 64 c.args.partial.now.prefix c.kept.ensures.catalogue.few c.requires.partial.known

pub returns-clause-value : goal.returns-clause-value
returns-clause-value c = λ w are.
    let values = c.args.carriers.now.capacities in
    c.whole_sum.ensures.value
    ∙ ap (λ (j : JobData). (if j.liner_in_wall then table_sum values c.args.job.now.liner else 0) + fixed_sum values c.args.job.now c.args.partial.now) c.job.view_is
    ∙ wall-by-table c.args.stock.now c.args.job.now c.args.partial.now c.requires.liner c.requires.partial.known (λ i. capacity_value i w) values are.each
