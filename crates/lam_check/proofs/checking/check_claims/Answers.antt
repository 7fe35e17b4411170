use Rattle.std.proofs.Common.{◌≡◌, true, false}
use Rattle.lam_tree.proofs.Promised.{promised}
use Rattle.lam_answers.specs.inside.Computed.{computed}
use Rattle.lam_check.specs.Faults.{fault_is}
use Rattle.lam_check.specs.inside.Claimed.{with_tree}
use Rattle.lam_check.proofs.Excludes.{one_or_other}
use Rattle.lam_check.proofs.Promises.{as_printed}
use Rattle.lam_check.proofs.checking.check_claims.Goals as goal

pub returns-in-Err-clause-accepts : goal.returns-in-Err-clause-accepts
returns-in-Err-clause-accepts g c = (
  (λ it. absurd (let n : false ≡ true = it in cc)),
  (λ accepted. absurd (one_or_other (record { stock = c.args.stock.now; job = c.args.job.now; tests = computed c.args.stock.now c.args.job.now })
      (with_tree c.args.claims.now (g.L.Lines.rest c.args.lines.now)) (fault_is c.in-Err.fault) c.in-Err.ensures.fault accepted)),
)

pub returns-clause-promise : goal.returns-clause-promise
returns-clause-promise g c =
    let stock = c.args.stock.now in
    let job = c.args.job.now in
    let report = with_tree c.args.claims.now (g.L.Lines.rest c.args.lines.now) in
    promised stock job (computed stock job) report c.requires.report c.in_default.ensures.none c.in_default.ensures.leaves
    (as_printed stock job report report.best c.in_default.ensures.printed)
