use Rattle.laminate.specs.Outside.{files_seen}
use Rattle.laminate.proofs.ModeSteps.{files_stay_on, input_taken, stopped_at_catalogue, stopped_at_job}
use Rattle.laminate.proofs.input.take_input.Goals as goal

pub returns-in-Err-clause-takes : goal.returns-in-Err-clause-takes
returns-in-Err-clause-takes g c =
    stopped_at_job (files_seen g.F.Files.contents g.F.Files.faults c.args.files.now) (files_seen g.F.Files.contents g.F.Files.faults c.take.new.files)
    c.args.job.now c.args.catalogue.now c.in-Err.stop c.in-Err.ensures.takes

pub returns-in-Err-take-clause-steady : goal.returns-in-Err-take-clause-steady
returns-in-Err-take-clause-steady g c =
    files_stay_on (files_seen g.F.Files.contents g.F.Files.faults c.args.files.now) (files_seen g.F.Files.contents g.F.Files.faults c.take.new.files)
    (files_seen g.F.Files.contents g.F.Files.faults c.take-in-Ok.new.files) c.in-Ok.ensures.steady c.in-Err-take.ensures.steady

pub returns-in-Err-take-clause-takes : goal.returns-in-Err-take-clause-takes
returns-in-Err-take-clause-takes g c =
    stopped_at_catalogue (files_seen g.F.Files.contents g.F.Files.faults c.args.files.now) (files_seen g.F.Files.contents g.F.Files.faults c.take.new.files)
    (files_seen g.F.Files.contents g.F.Files.faults c.take-in-Ok.new.files) c.args.job.now c.args.catalogue.now c.in-Ok.job c.in-Err-take.stop
    c.in-Ok.ensures.steady c.in-Ok.ensures.takes c.in-Err-take.ensures.takes

pub returns-clause-steady : goal.returns-clause-steady
returns-clause-steady g c =
    files_stay_on (files_seen g.F.Files.contents g.F.Files.faults c.args.files.now) (files_seen g.F.Files.contents g.F.Files.faults c.take.new.files)
    (files_seen g.F.Files.contents g.F.Files.faults c.take-in-Ok.new.files) c.in-Ok.ensures.steady c.in-Ok-take.ensures.steady

pub returns-clause-takes : goal.returns-clause-takes
returns-clause-takes g c =
    input_taken (files_seen g.F.Files.contents g.F.Files.faults c.args.files.now) (files_seen g.F.Files.contents g.F.Files.faults c.take.new.files)
    (files_seen g.F.Files.contents g.F.Files.faults c.take-in-Ok.new.files) c.args.job.now c.args.catalogue.now c.in-Ok.job c.in-Ok-take.catalogue
    c.read_input.result c.in-Ok.ensures.steady c.in-Ok.ensures.takes c.in-Ok-take.ensures.takes
    (rw (c.items.ensures, c.items-in-Ok-take.ensures) at c.read_input.ensures)
