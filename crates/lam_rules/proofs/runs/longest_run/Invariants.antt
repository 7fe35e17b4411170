use Rattle.std.proofs.Common.{◌≤◌, take}
use Rattle.lam_rules.specs.inside.RunsOf.{AreRunsOf}
use Rattle.lam_rules.proofs.runs.longest_run.Given as goal

abbrev pub invariant-loop-ply : goal.invariant-loop-ply
invariant-loop-ply l = record { runs : AreRunsOf (take l.ply-index l.plies) l.runs; short : l.runs.at_end ≤ l.ply-index }
