use Rattle.std.proofs.Common.{◌≤◌, ◌↔◌, ℕ, subst, arith}
use Rattle.std.proofs.lemmas.List.{take_all}
use Rattle.lam_job.specs.Rules.{HasRun}
use Rattle.lam_rules.proofs.RunSteps.{ends_of_none}
use Rattle.lam_rules.proofs.runs.longest_run.Goals as goal

pub loop-ply-init : goal.loop-ply-init
loop-ply-init c =
    let n = c.new-runs.result.at_end in
    record { runs = c.new-runs.ensures; short = (ends_of_none n).0 ((c.new-runs.ensures.at_end n).1 (omega arith)) }

pub returns : goal.returns
returns c =
    subst (λ plies. (n : ℕ) → HasRun n plies ↔ (n ≤ c.loop-ply.runs.longest)) (take_all c.loop-ply.ply-index c.args.plies.now c.loop-ply-test.false)
    c.loop-ply.invariant.runs.longest
