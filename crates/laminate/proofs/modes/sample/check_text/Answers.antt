use Rattle.std.proofs.Common.{subst}
use Rattle.lam_tree.specs.declared.report.Report.{Report}
use Rattle.lam_check.specs.Says.{Says}
use Rattle.lam_report.specs.ReportGrammar.{Spells}
use Rattle.laminate.proofs.modes.sample.check_text.Goals as goal

pub returns-in-Ok-check_bytes : goal.returns-in-Ok-check_bytes
returns-in-Ok-check_bytes c =
    let read = c.in-Ok-check_bytes.ensures.accepted in
    let own : Spells c.args.input.now.stock c.args.input.now.job c.args.report.now c.args.text.now =
    record { report_is = c.requires.own.spelled; text = c.requires.text } in
    subst (λ (report : Report). Says report c.in-Ok-check_bytes.said)
    (c.reports_are_spelled_once.ensures read.report c.args.report.now c.args.text.now read.spelled own) read.kept.says
