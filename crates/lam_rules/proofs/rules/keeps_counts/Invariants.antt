use Rattle.std.proofs.Common.{take}
use Rattle.lam_job.specs.Rules.{KeepsCounts}
use Rattle.lam_rules.proofs.rules.keeps_counts.Given as goal

abbrev pub invariant-loop-count : goal.invariant-loop-count
invariant-loop-count l = KeepsCounts (take l.count-index l.asked) l.plies
