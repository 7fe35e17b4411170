use Rattle.std.proofs.Common.{◌≡◌, ◌∙◌, ◌<◌, ◌≤◌, ap, subst, Result, Err}
use Rattle.lam_job.specs.Ranges.{IsJob}
use Rattle.lam_tree.specs.declared.report.Report.{Report}
use Rattle.lam_report.specs.declared.head.ReadError.{ReadError}
use Rattle.lam_report.specs.declared.head.ReadError.TheVariants.{Refused}
use Rattle.lam_report.specs.inside.Gives.{Gives}
use Rattle.lam_report.specs.inside.ReportReading.{report_at}
use Rattle.lam_report.proofs.FaultLaws.{one_report}
use Rattle.lam_report.proofs.ReadLaws.{given_of, read_ok, read_more, read_err}
use Rattle.lam_report.proofs.read.read_report.Goals as goal

pub returns-then-len-gt0-clause-answers : goal.returns-then-len-gt0-clause-answers
returns-then-len-gt0-clause-answers c =
    let s = c.items-items.ensures in
    let given = given_of c.args.stock.now c.args.job.now s.names s.some s.few (subst IsJob c.job.view_is c.job.invariant) c.requires.liner in
    read_more c.args.stock.now c.args.job.now given c.args.bytes.now c.of-lines.result c.of-lines.ensures c.report.new.lines c.in-Ok.report c.fault_at.result.line
    c.in-Ok.ensures (subst (λ n. 0 < n) c.len.ensures c.if-len-gt0.true) c.fault_at.ensures

pub returns-then-len-gt0-clause-only : goal.returns-then-len-gt0-clause-only
returns-then-len-gt0-clause-only c report spells = (returns-then-len-gt0-clause-answers c).no_report report spells

pub returns-else-len-gt0-clause-answers : goal.returns-else-len-gt0-clause-answers
returns-else-len-gt0-clause-answers c =
    let s = c.items-items.ensures in
    let given = given_of c.args.stock.now c.args.job.now s.names s.some s.few (subst IsJob c.job.view_is c.job.invariant) c.requires.liner in
    read_ok c.args.stock.now c.args.job.now given c.args.bytes.now c.of-lines.result c.of-lines.ensures c.report.new.lines c.in-Ok.report
    c.in-Ok.ensures (subst (λ n. n ≤ 0) c.len.ensures c.if-len-gt0.false)

pub returns-else-len-gt0-clause-only : goal.returns-else-len-gt0-clause-only
returns-else-len-gt0-clause-only c report spells =
    let s = c.items-items.ensures in
    let given = given_of c.args.stock.now c.args.job.now s.names s.some s.few (subst IsJob c.job.view_is c.job.invariant) c.requires.liner in
    one_report c.args.stock.now c.args.job.now given c.in-Ok.report report c.args.bytes.now (returns-else-len-gt0-clause-answers c) spells

pub returns-in-Err-Refused-clause-answers : goal.returns-in-Err-Refused-clause-answers
returns-in-Err-Refused-clause-answers c =
    let s = c.items-items.ensures in
    let given = given_of c.args.stock.now c.args.job.now s.names s.some s.few (subst IsJob c.job.view_is c.job.invariant) c.requires.liner in
    let got = report_at c.args.stock.now c.args.job.now c.of-lines.result.lines in
    let is : c.report.result ≡ Err Refused = c.in-Err-Refused.is ∙ ap (λ (e : ReadError). Err e) c.in-Err-Refused.field-0-is in
    let gives = subst (λ (r : Result Report ReadError). Gives r c.of-lines.result c.report.new.lines got) is c.report.ensures in
    read_err c.args.stock.now c.args.job.now given c.args.bytes.now c.of-lines.result c.of-lines.ensures c.report.new.lines c.fault_at-in-Err-Refused.result.line
    gives c.fault_at-in-Err-Refused.ensures

pub returns-in-Err-Refused-clause-only : goal.returns-in-Err-Refused-clause-only
returns-in-Err-Refused-clause-only c report spells = (returns-in-Err-Refused-clause-answers c).no_report report spells
