use Rattle.std.proofs.Common.{Some, List, ℕ, arith, refl, subst}
use Rattle.lam_words.specs.Reading.{check}
use Rattle.laminate.specs.declared.status.Status.TheVariants as status
use Rattle.laminate.specs.Orders.{files_of}
use Rattle.laminate.specs.Outside.{files_seen, outside, sink_seen}
use Rattle.laminate.specs.inside.Steps.{WritesText}
use Rattle.laminate.proofs.AnalysisSteps.{files_stop, job_for}
use Rattle.laminate.proofs.CheckSteps.{check_ends, report_stops}
use Rattle.laminate.proofs.ModeSteps.{files_stay_on}
use Rattle.laminate.proofs.modes.check.answer.Goals as goal

pub check_file-requires : goal.check_file-requires
check_file-requires g c =
    job_for (files_seen g.F.Files.contents g.F.Files.faults c.args.files.now)
    (files_of (check c.args.job.now c.args.catalogue.now c.args.report.now)) c.in-Ok.input (c.in-Ok.ensures.takes (Some c.args.report.now))

pub returns-in-Err-clause-does : goal.returns-in-Err-clause-does
returns-in-Err-clause-does g c =
    files_stop (outside g.F.Files.contents g.F.Files.faults g.K.Sink.written g.K.Sink.faults g.K.Sink.stalls g.K.Sink.terms
    c.args.files.now c.take_input.new.files c.args.sink.now c.args.sink.now)
    (check c.args.job.now c.args.catalogue.now c.args.report.now) c.in-Err.stop refl (c.in-Err.ensures.takes (Some c.args.report.now))

pub returns-in-Err-check_file-clause-steady : goal.returns-in-Err-check_file-clause-steady
returns-in-Err-check_file-clause-steady g c = record {
  files = files_stay_on (files_seen g.F.Files.contents g.F.Files.faults c.args.files.now) (files_seen g.F.Files.contents g.F.Files.faults c.take_input.new.files)
      (files_seen g.F.Files.contents g.F.Files.faults c.check_file.new.files) c.in-Ok.ensures.steady c.in-Err-check_file.ensures.steady;
  sink = record { faults = omega arith; stalls = omega arith; terms = refl };
}

pub returns-in-Err-check_file-clause-does : goal.returns-in-Err-check_file-clause-does
returns-in-Err-check_file-clause-does g c =
    report_stops (outside g.F.Files.contents g.F.Files.faults g.K.Sink.written g.K.Sink.faults g.K.Sink.stalls g.K.Sink.terms
    c.args.files.now c.check_file.new.files c.args.sink.now c.args.sink.now)
    (files_seen g.F.Files.contents g.F.Files.faults c.take_input.new.files) c.args.job.now c.args.catalogue.now c.args.report.now c.in-Ok.input
    c.in-Ok.ensures.steady (c.in-Ok.ensures.takes (Some c.args.report.now)) c.in-Err-check_file.stop refl c.in-Err-check_file.ensures.checks

pub returns-clause-steady : goal.returns-clause-steady
returns-clause-steady g c = record {
  files = files_stay_on (files_seen g.F.Files.contents g.F.Files.faults c.args.files.now) (files_seen g.F.Files.contents g.F.Files.faults c.take_input.new.files)
      (files_seen g.F.Files.contents g.F.Files.faults c.check_file.new.files) c.in-Ok.ensures.steady c.in-Ok-check_file.ensures.steady;
  sink = c.write_text.ensures.steady;
}

pub returns-clause-does : goal.returns-clause-does
returns-clause-does g c =
    check_ends (outside g.F.Files.contents g.F.Files.faults g.K.Sink.written g.K.Sink.faults g.K.Sink.stalls g.K.Sink.terms
    c.args.files.now c.check_file.new.files c.args.sink.now c.write_text.new.sink)
    (files_seen g.F.Files.contents g.F.Files.faults c.take_input.new.files) c.args.job.now c.args.catalogue.now c.args.report.now c.in-Ok.input
    c.in-Ok.ensures.steady (c.in-Ok.ensures.takes (Some c.args.report.now)) c.in-Ok-check_file.line c.write_text.result c.in-Ok-check_file.ensures.checks
    (subst (λ (text : List ℕ). WritesText status.Done text c.write_text.result
    (sink_seen g.K.Sink.written g.K.Sink.faults g.K.Sink.stalls g.K.Sink.terms c.args.sink.now) (sink_seen g.K.Sink.written g.K.Sink.faults g.K.Sink.stalls g.K.Sink.terms c.write_text.new.sink))
    c.as_bytes.ensures.value c.write_text.ensures.writes)
