use Rattle.std.proofs.Common.{◌≡◌}
use Rattle.lam_rules.proofs.tests.walked.Given as goal

abbrev pub invariant-loop-ply : goal.invariant-loop-ply
invariant-loop-ply l = record { stock : l.growing.stock ≡ l.stock; job : l.growing.job ≡ l.job }
