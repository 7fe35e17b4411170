use Rattle.std.proofs.Common.{sym, subst, suc, arith}
use Rattle.std.proofs.lemmas.Bool.Decides.{Decides-ltb}
use Rattle.lam_job.specs.Partial.{RunsTooLong}
use Rattle.lam_rules.proofs.visible_breaks.runs_too_long.Goals as goal

pub returns-in-Some : goal.returns-in-Some
returns-in-Some c =
    let prefix = c.args.prefix.now in
    let most = c.in-Some.most in
    let longest = c.longest_run.result in
    let test = Decides-ltb most longest in (
      (λ t. let h = test.0 t in
          subst (λ asked. RunsTooLong asked prefix) (sym c.in-Some.is) ((c.longest_run.ensures (suc most)).1 (omega (arith, h)))),
      (λ run. let h = (c.longest_run.ensures (suc most)).0 (subst (λ asked. RunsTooLong asked prefix) c.in-Some.is run) in
          test.1 (omega (arith, h))),
    )
