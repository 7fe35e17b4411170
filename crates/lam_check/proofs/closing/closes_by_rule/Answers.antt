use Rattle.std.proofs.Common.{◌≡◌, sym, ◌∙◌, subst, true, false}
use Rattle.lam_job.specs.Rules.{Breaks}
use Rattle.lam_check.proofs.Rules.{full_rule, open_rule, found_broken}
use Rattle.lam_check.proofs.closing.closes_by_rule.Goals as goal

pub returns-then-is_full-clause-value : goal.returns-then-is_full-clause-value
returns-then-is_full-clause-value c =
    let rule = full_rule c.args.stock.now c.args.job.now c.args.partial.now c.args.rule c.complete-listed.result c.breaks.result
    (c.is_full.ensures.0 c.if-is_full.true) c.complete-listed.ensures.value c.breaks.ensures.none c.breaks.ensures.least in
    ((λ it. rule.0 (c.is_rule.ensures.0 it)), (λ closes. c.is_rule.ensures.1 (rule.1 closes)))

pub returns-then-is_full-clause-so : goal.returns-then-is_full-clause-so
returns-then-is_full-clause-so c = λ it listed completes.
    subst (Breaks c.args.rule.0 c.args.stock.now c.args.job.now) (sym (c.complete-listed.ensures.only c.args.stock.now listed completes))
    (found_broken c.args.stock.now c.args.job.now c.args.partial.now c.args.rule c.complete-listed.result c.breaks.result (c.is_rule.ensures.0 it) c.breaks.ensures.least)

pub returns-clause-value : goal.returns-clause-value
returns-clause-value c =
    let rule = open_rule c.args.stock.now c.args.job.now c.args.partial.now c.args.rule c.visible.result
    (λ full. (let n : true ≡ false = sym (c.is_full.ensures.1 full) ∙ c.if-is_full.false in cc)) c.visible.ensures.none c.visible.ensures.least in
    ((λ it. rule.0 (c.is_rule-2.ensures.0 it)), (λ closes. c.is_rule-2.ensures.1 (rule.1 closes)))
