use Rattle.std.proofs.Common.{subst}
use Rattle.lam_job.specs.Ranges.{IsJob}
use Rattle.lam_report.proofs.FaultLaws.{one_report}
use Rattle.lam_report.proofs.ReadLaws.{given_of}
use Rattle.lam_report.proofs.laws.reports_are_spelled_once.Goals as goal

pub returns : goal.returns
returns c =
    let s = c.items-items.ensures in
    one_report c.args.stock.now c.args.job.now (given_of c.args.stock.now c.args.job.now s.names s.some s.few (subst IsJob c.job.view_is c.job.invariant) c.requires)
