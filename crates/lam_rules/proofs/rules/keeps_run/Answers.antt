use Rattle.std.proofs.Common.{sym, subst}
use Rattle.std.proofs.lemmas.Bool.{leb-true, le-leb}
use Rattle.lam_job.specs.Rules.{KeepsRun}
use Rattle.lam_rules.proofs.RunSteps.{runs_keep}
use Rattle.lam_rules.proofs.rules.keeps_run.Goals as goal

pub returns-in-Some : goal.returns-in-Some
returns-in-Some c =
    let plies = c.args.plies.now in
    let most = c.in-Some.most in
    let longest = c.longest_run.result in
    let keep = runs_keep most longest plies c.longest_run.ensures in (
      (λ t. subst (λ asked. KeepsRun asked plies) (sym c.in-Some.is) (keep.0 (leb-true longest most t))),
      (λ kept. le-leb longest most (keep.1 (subst (λ asked. KeepsRun asked plies) c.in-Some.is kept))),
    )
