use Rattle.std.proofs.Common.{◌≡◌, refl, sym, ◌∙◌, subst, true, false, arith}
use Rattle.lam_job.specs.Rules.{KeepsRule}
use Rattle.lam_rules.specs.inside.RuleOf.{rule_of}
use Rattle.lam_rules.proofs.RuleNumbers.{first_broken, of_each_rule}
use Rattle.lam_rules.proofs.rules.breaks.Goals as goal

pub returns-then-not-keeps-clause-least : goal.returns-then-not-keeps-clause-least
returns-then-not-keeps-clause-least c =
    let stock = c.args.stock.now in
    let job = c.args.job.now in
    first_broken stock job c.args.listed.now c.loop-number.number c.loop-number.auto.number (omega (arith, c.loop-number-test.true)) c.loop-number.invariant
    (λ kept. let e : false ≡ true = sym c.if-not-keeps.true ∙ c.keeps.ensures.1 (subst (λ plies. KeepsRule (rule_of c.loop-number.number) stock job plies) (sym c.items-plies.ensures.items) kept) in cc)

pub returns-clause-none : goal.returns-clause-none
returns-clause-none c = (
  (λ e. of_each_rule (λ rule. KeepsRule rule c.args.stock.now c.args.job.now c.args.listed.now)
      (λ number some less. c.loop-number.invariant number some (omega (arith, less, c.loop-number-test.false)))),
  (λ keeps. refl),
)
