use Rattle.std.proofs.Common.{sym, ◌∙◌, ◌*◌, ap, length}
use Rattle.lam_job.proofs.Listed.{items_of-length}
use Rattle.lam_job.specs.JobData.{JobData}
use Rattle.lam_judge.proofs.tests.holds.Goals as goal

pub has_ratios-requires-clause-own : goal.has_ratios-requires-clause-own
has_ratios-requires-clause-own c =
    let stock = c.args.stock.now in
    let wall = c.wall_plies.result in
    let known = c.wall_plies.ensures.known stock c.requires.schedule.job_for c.requires.schedule.known in
    c.requires.printed.plies
    ∙ sym (ap length (c.wall_plies.ensures.wall stock))
    ∙ items_of-length stock wall known
    ∙ sym (ap length c.items-plies.ensures.items)

pub has_ratios-requires-clause-many : goal.has_ratios-requires-clause-many
has_ratios-requires-clause-many c =
    let cases = ap length (c.items-cases.ensures ∙ ap (λ (j : JobData). j.cases) c.job.view_is) in
    let own = has_ratios-requires-clause-own c in
    c.requires.printed.number ∙ (λ i. sym cases i * own i)
