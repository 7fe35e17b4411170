use Rattle.std.proofs.Common.{ap, length, subst}
use Rattle.lam_job.specs.Ranges.{IsJob}
use Rattle.lam_tree.specs.declared.report.Report.{Report}
use Rattle.lam_report.specs.LineText.{whole_lines}
use Rattle.lam_report.specs.ReportGrammar.{Spells}
use Rattle.lam_report.proofs.ReadLaws.{given_of}
use Rattle.lam_answers.specs.inside.Computed.{computed}
use Rattle.lam_check.specs.Headed.{with_nodes}
use Rattle.lam_stream.specs.inside.TreeNodes.{nodes_in}
use Rattle.lam_stream.proofs.Headed.{agrees_of, fault_is_of, kept_is, nodes_count, report_alone, report_fits, tree_place}
use Rattle.lam_stream.proofs.checking.check_headed.Goals as goal

pub behind-requires : goal.behind-requires
behind-requires c =
    let s = c.items.ensures in
    let given = given_of c.args.stock.now c.args.job.now s.names s.some s.few (subst IsJob c.job.view_is c.job.invariant) c.requires.job_for.liner in
    tree_place c.args.stock.now c.args.job.now given c.args.bytes.now c.args.head.now c.requires.head

pub check_lines-requires : goal.check_lines-requires
check_lines-requires c =
    let s = c.items.ensures in
    let given = given_of c.args.stock.now c.args.job.now s.names s.some s.few (subst IsJob c.job.view_is c.job.invariant) c.requires.job_for.liner in
    record {
      job_for = c.requires.job_for;
      report = report_fits c.args.stock.now c.args.job.now given c.args.bytes.now c.args.head.now (length c.items.result.now) c.behind.result.now
          (ap length s.items) c.behind.ensures c.requires.head;
      nodes = nodes_count c.args.stock.now c.args.job.now given c.args.bytes.now c.args.head.now (length c.items.result.now) c.behind.result.now
          (ap length s.items) c.behind.ensures c.requires.head;
    }

pub returns : goal.returns
returns c =
    let stock = c.args.stock.now in
    let job = c.args.job.now in
    let s = c.items.ensures in
    let given = given_of stock job s.names s.some s.few (subst IsJob c.job.view_is c.job.invariant) c.requires.job_for.liner in
    let one = with_nodes c.args.head.now (nodes_in (length c.items.result.now) (whole_lines c.behind.result.now)) in
    let is = λ (report : Report) (spells : Spells stock job report c.args.bytes.now).
    report_alone stock job given c.args.bytes.now c.args.head.now (length c.items.result.now) c.behind.result.now
    (ap length s.items) c.behind.ensures c.requires.head report spells in
    record {
      kept = λ report spells. kept_is stock job (computed stock job) one report c.check_lines.result (is report spells)
          c.check_lines.ensures.accepts.0 c.check_lines.ensures.says c.check_lines.ensures.promise;
      fault = λ report spells. fault_is_of stock job (computed stock job) one report c.check_lines.result (is report spells) c.check_lines.ensures.fault;
      agrees = λ report spells. agrees_of stock job (computed stock job) one report c.check_lines.result (is report spells) c.check_lines.ensures.accepts;
    }
