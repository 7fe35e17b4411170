use Rattle.std.proofs.Common.{ap, subst, ◌<◌, ◌↔◌, IsTrue, IsSomeAnd}
use Rattle.lam_job.specs.JobData.{JobData}
use Rattle.lam_rules.specs.Growing.{Grown}
use Rattle.lam_rules.proofs.Growth.{run_shown}
use Rattle.lam_rules.proofs.growing.Growing.runs_too_long.Goals as goal

pub returns : goal.returns
returns c =
    let g = c.args.self.now in
    run_shown g.job.rules.run g.partial.prefix c.step.result.runs.longest c.run_is_over.result c.step.ensures.runs.longest
    (subst (λ (j : JobData). IsTrue c.run_is_over.result ↔ IsSomeAnd j.rules.run (λ most. most < c.step.result.runs.longest))
    (ap (λ (h : Grown). h.job) c.self.view_is) c.run_is_over.ensures)
