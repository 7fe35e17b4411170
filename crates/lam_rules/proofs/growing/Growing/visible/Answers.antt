use Rattle.std.proofs.Common.{refl, arith}
use Rattle.lam_job.specs.Partial.{VisiblyBreaksRule}
use Rattle.lam_rules.specs.inside.RuleOf.{rule_of}
use Rattle.lam_rules.proofs.RuleNumbers.{number_of_rule, of_each_rule}
use Rattle.lam_rules.proofs.VisibleBreaks.{every_completion_breaks}
use Rattle.lam_rules.proofs.growing.Growing.visible.Goals as goal

pub returns-then-shows-clause-broken : goal.returns-then-shows-clause-broken
returns-then-shows-clause-broken c =
    let self = c.args.self.now in
    let number = c.loop-number.number in
    every_completion_breaks self.stock self.job self.partial number
    (rule_of number, number_of_rule number c.loop-number.auto.number (omega (arith, c.loop-number-test.true)), c.shows.ensures.0 c.if-shows.true)

pub returns-clause-none : goal.returns-clause-none
returns-clause-none c =
    let self = c.args.self.now in (
      (λ e. of_each_rule (λ rule. ¬ VisiblyBreaksRule rule self.stock self.job self.partial)
          (λ number some less. c.loop-number.invariant number some (omega (arith, less, c.loop-number-test.false)))),
      (λ none. refl),
    )
