use Rattle.std.proofs.Common.{ℕ, ◌≤◌, ◌<◌}
use Rattle.lam_job.specs.Partial.{VisiblyBreaksRule}
use Rattle.lam_rules.specs.inside.RuleOf.{rule_of}
use Rattle.lam_rules.proofs.growing.Growing.visible.Given as goal

abbrev pub invariant-loop-number : goal.invariant-loop-number
invariant-loop-number l = (other : ℕ) → 1 ≤ other → other < l.number → ¬ VisiblyBreaksRule (rule_of other) l.self.stock l.self.job l.self.partial
