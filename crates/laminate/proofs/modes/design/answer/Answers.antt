use Rattle.std.proofs.Common.{None, refl, subst, sym}
use Rattle.lam_job.specs.Schedule.{IsJobFor}
use Rattle.lam_words.specs.Reading.{design}
use Rattle.laminate.specs.declared.input.Input.{Input}
use Rattle.laminate.specs.Outside.{files_seen, outside}
use Rattle.laminate.proofs.AnalysisSteps.{files_stop, job_for}
use Rattle.laminate.proofs.DesignSteps.{design_ends}
use Rattle.laminate.proofs.ModeSteps.{two_names}
use Rattle.laminate.proofs.modes.design.answer.Goals as goal

pub design_of-requires-clause-job_for : goal.design_of-requires-clause-job_for
design_of-requires-clause-job_for g c =
    job_for (files_seen g.F.Files.contents g.F.Files.faults c.args.files.now)
    (two_names c.args.job.now c.args.catalogue.now None) c.in-Ok.input (c.in-Ok.ensures.takes None)

pub write-requires-clause-job_for : goal.write-requires-clause-job_for
write-requires-clause-job_for g c =
    subst (λ (x : Input). IsJobFor x.stock x.job) (sym c.in-Ok-design_of.ensures.same)
    (job_for (files_seen g.F.Files.contents g.F.Files.faults c.args.files.now)
    (two_names c.args.job.now c.args.catalogue.now None) c.in-Ok.input (c.in-Ok.ensures.takes None))

pub returns-in-Err-clause-does : goal.returns-in-Err-clause-does
returns-in-Err-clause-does g c = λ name.
    files_stop (outside g.F.Files.contents g.F.Files.faults g.K.Sink.written g.K.Sink.faults g.K.Sink.stalls g.K.Sink.terms
    c.args.files.now c.take_input.new.files c.args.sink.now c.args.sink.now)
    (design c.args.job.now c.args.catalogue.now (record { guide = name; nodes = c.args.nodes })) c.in-Err.stop refl (c.in-Err.ensures.takes None)

pub returns-in-Ok-design_of-clause-does : goal.returns-in-Ok-design_of-clause-does
returns-in-Ok-design_of-clause-does g c = λ name.
    design_ends (outside g.F.Files.contents g.F.Files.faults g.K.Sink.written g.K.Sink.faults g.K.Sink.stalls g.K.Sink.terms
    c.args.files.now c.take_input.new.files c.args.sink.now c.write.new.sink)
    name c.args.job.now c.args.catalogue.now c.args.nodes c.in-Ok.input c.in-Ok-design_of.design c.write.result
    (c.in-Ok.ensures.takes None) c.in-Ok-design_of.ensures.same c.in-Ok-design_of.ensures.so c.write.ensures.writes
