use Rattle.std.proofs.Common.{◌≡◌, sym, ◌∙◌, ap, ap₂, ◌+◌, length, Bool, true, false, if◌then◌else◌}
use Rattle.lam_job.specs.JobData.{JobData}
use Rattle.lam_check.proofs.BlockFacts.{wall-long}
use Rattle.lam_check.proofs.blocks.wall_size.Goals as goal

pub returns-then-job-clause-value : goal.returns-then-job-clause-value
returns-then-job-clause-value c = λ stock liner known.
    let job = c.args.job.now in
    let carries : job.liner_in_wall ≡ true = ap (λ (j : JobData). j.liner_in_wall) (sym c.job.view_is) ∙ c.if-job.true in
    ap₂ (λ m n. m + n) (ap length c.items-then-job.ensures.items ∙ ap (λ (j : JobData). length j.liner) c.job.view_is) (ap length c.items.ensures.items)
    ∙ sym (wall-long stock job c.args.listed.now liner known
    ∙ ap (λ (b : Bool). if b then length job.liner + length c.args.listed.now else length c.args.listed.now) carries)

pub returns-clause-value : goal.returns-clause-value
returns-clause-value c = λ stock liner known.
    let job = c.args.job.now in
    let carries : job.liner_in_wall ≡ false = ap (λ (j : JobData). j.liner_in_wall) (sym c.job.view_is) ∙ c.if-job.false in
    ap length c.items.ensures.items
    ∙ sym (wall-long stock job c.args.listed.now liner known
    ∙ ap (λ (b : Bool). if b then length job.liner + length c.args.listed.now else length c.args.listed.now) carries)
