use Rattle.std.proofs.Common.{ℕ, ◌≤◌, ◌<◌}
use Rattle.lam_job.specs.Rules.{KeepsRule}
use Rattle.lam_rules.specs.inside.RuleOf.{rule_of}
use Rattle.lam_rules.proofs.rules.breaks.Given as goal

abbrev pub invariant-loop-number : goal.invariant-loop-number
invariant-loop-number l = (other : ℕ) → 1 ≤ other → other < l.number → KeepsRule (rule_of other) l.stock l.job l.listed
