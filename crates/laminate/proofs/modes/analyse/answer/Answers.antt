use Rattle.std.proofs.Common.{None, refl}
use Rattle.lam_words.specs.Reading.{analyse}
use Rattle.laminate.specs.Orders.{files_of}
use Rattle.laminate.specs.Outside.{files_seen, outside}
use Rattle.laminate.proofs.AnalysisSteps.{analysis_ends, files_stop, job_for, schedule_stops}
use Rattle.laminate.proofs.modes.analyse.answer.Goals as goal

pub analysis_of-requires : goal.analysis_of-requires
analysis_of-requires g c =
    job_for (files_seen g.F.Files.contents g.F.Files.faults c.args.files.now)
    (files_of (analyse c.args.job.now c.args.catalogue.now c.args.schedule.now)) c.in-Ok.input (c.in-Ok.ensures.takes None)

pub returns-in-Err-clause-does : goal.returns-in-Err-clause-does
returns-in-Err-clause-does g c =
    files_stop (outside g.F.Files.contents g.F.Files.faults g.K.Sink.written g.K.Sink.faults g.K.Sink.stalls g.K.Sink.terms
    c.args.files.now c.take_input.new.files c.args.sink.now c.args.sink.now)
    (analyse c.args.job.now c.args.catalogue.now c.args.schedule.now) c.in-Err.stop refl (c.in-Err.ensures.takes None)

pub returns-in-Err-analysis_of-clause-does : goal.returns-in-Err-analysis_of-clause-does
returns-in-Err-analysis_of-clause-does g c =
    schedule_stops (outside g.F.Files.contents g.F.Files.faults g.K.Sink.written g.K.Sink.faults g.K.Sink.stalls g.K.Sink.terms
    c.args.files.now c.take_input.new.files c.args.sink.now c.args.sink.now)
    c.args.job.now c.args.catalogue.now c.args.schedule.now c.in-Ok.input c.in-Err-analysis_of.stop refl
    (c.in-Ok.ensures.takes None) c.in-Err-analysis_of.ensures

pub returns-in-Ok-analysis_of-clause-does : goal.returns-in-Ok-analysis_of-clause-does
returns-in-Ok-analysis_of-clause-does g c =
    analysis_ends (outside g.F.Files.contents g.F.Files.faults g.K.Sink.written g.K.Sink.faults g.K.Sink.stalls g.K.Sink.terms
    c.args.files.now c.take_input.new.files c.args.sink.now c.write.new.sink)
    c.args.job.now c.args.catalogue.now c.args.schedule.now c.in-Ok.input c.in-Ok-analysis_of.analysis c.write.result
    (c.in-Ok.ensures.takes None) c.in-Ok-analysis_of.ensures c.write.ensures.writes
