use Rattle.std.proofs.Common.{subst, arith}
use Rattle.lam_job.specs.Ranges.{IsJob}
use Rattle.lam_report.proofs.Lengths.{short_report}
use Rattle.lam_report.proofs.laws.reports_are_short.Goals as goal

pub returns-clause-nodes : goal.returns-clause-nodes
returns-clause-nodes c =
    short_report c.args.stock.now c.items-items.ensures.names c.args.job.now (subst IsJob c.job.view_is c.job.invariant) c.args.report.now c.items-items.ensures.few c.requires

pub returns-clause-most : goal.returns-clause-most
returns-clause-most c =
    let short = short_report c.args.stock.now c.items-items.ensures.names c.args.job.now (subst IsJob c.job.view_is c.job.invariant) c.args.report.now c.items-items.ensures.few c.requires in
    let few = c.requires.few_nodes in
    omega (arith, short, few)
