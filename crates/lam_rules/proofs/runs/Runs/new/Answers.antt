use Rattle.std.proofs.Common.{refl}
use Rattle.lam_rules.proofs.RunSteps.{ends_of_none, runs_of_none}
use Rattle.lam_rules.proofs.runs.Runs.new.Goals as goal

pub returns : goal.returns
returns c = record { last = refl; at_end = ends_of_none; longest = runs_of_none }
