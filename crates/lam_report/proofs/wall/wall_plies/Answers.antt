use Rattle.std.proofs.Common.{◌∙◌, ap, sym, length, ◌+◌, true, false}
use Rattle.lam_job.specs.JobData.{JobData}
use Rattle.lam_report.proofs.WriteLaws.{wall-length}
use Rattle.lam_report.proofs.wall.wall_plies.Goals as goal

pub returns-then-job-clause-value : goal.returns-then-job-clause-value
returns-then-job-clause-value c stock liner listed =
    ap (λ n. n + length c.items-plies.result.now) (ap length (c.items.ensures.items ∙ ap (λ (j : JobData). j.liner) c.job.view_is))
    ∙ ap (λ n. length c.args.job.now.liner + n) (ap length c.items-plies.ensures.items)
    ∙ sym (wall-length stock c.args.job.now c.args.listed.now true (ap (λ (j : JobData). j.liner_in_wall) (sym c.job.view_is) ∙ c.if-job.true) liner listed)

pub returns-else-job-clause-value : goal.returns-else-job-clause-value
returns-else-job-clause-value c stock liner listed =
    ap length c.items-plies.ensures.items
    ∙ sym (wall-length stock c.args.job.now c.args.listed.now false (ap (λ (j : JobData). j.liner_in_wall) (sym c.job.view_is) ∙ c.if-job.false) liner listed)
