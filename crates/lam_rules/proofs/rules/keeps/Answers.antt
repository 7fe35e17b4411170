use Rattle.std.proofs.Common.{◌≡◌, ◌↔◌, sym, ◌∙◌, ap, subst, IsTrue}
use Rattle.lam_job.specs.JobData.{JobData, RuleData}
use Rattle.lam_job.specs.Rules.{KeepsRule, KeepsCounts}
use Rattle.lam_rules.specs.inside.RuleOf.{rule_of}
use Rattle.lam_rules.proofs.rules.keeps.Goals as goal

pub returns-in-8 : goal.returns-in-8
returns-in-8 c =
    let job = c.args.job.now in
    let plies = c.args.plies.now in
    let r = c.keeps_counts.result in
    let asked : c.items.result.now ≡ job.rules.counts
    = c.items.ensures ∙ ap (λ (rules : RuleData). rules.counts) c.rules.view_is ∙ ap (λ (j : JobData). j.rules.counts) c.job.view_is in
    subst (λ n. IsTrue r ↔ KeepsRule (rule_of n) c.args.stock.now job plies) (sym c.in-8.is)
    (subst (λ counts. IsTrue r ↔ KeepsCounts counts plies) asked c.keeps_counts.ensures)
