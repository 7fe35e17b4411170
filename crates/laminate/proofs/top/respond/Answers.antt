use Rattle.std.proofs.Common.{refl}
use Rattle.lam_words.specs.Spelled.{spelled}
use Rattle.laminate.specs.declared.fault.Fault.TheVariants as fault
use Rattle.laminate.specs.Outside.{files_seen, outside}
use Rattle.laminate.proofs.Endings.{line_ends, order_ends, usage_due, usage_read}
use Rattle.laminate.proofs.top.respond.Goals as goal

pub returns-in-Ok-clause-ending : goal.returns-in-Ok-clause-ending
returns-in-Ok-clause-ending g c = λ asked read.
    order_ends (outside g.F.Files.contents g.F.Files.faults g.K.Sink.written g.K.Sink.faults g.K.Sink.stalls g.K.Sink.terms
    c.args.files.now c.obey.new.files c.args.sink.now c.obey.new.sink)
    asked (spelled c.in-Ok.order) c.obey.result (rw c.in-Ok.is at read) c.obey.ensures.ending

pub returns-in-Usage-clause-ending : goal.returns-in-Usage-clause-ending
returns-in-Usage-clause-ending g c = λ asked read.
    line_ends g.F.Files.contents g.F.Files.faults g.K.Sink.written g.K.Sink.faults g.K.Sink.stalls g.K.Sink.terms
    c.args.files.now c.args.files.now c.args.sink.now c.args.sink.now c.write_fault.new.sink
    asked fault.Usage c.write_fault.result refl
    (usage_due (files_seen g.F.Files.contents g.F.Files.faults c.args.files.now) (files_seen g.F.Files.contents g.F.Files.faults c.args.files.now)
    asked (usage_read c.args.order c.in-Err.error asked c.in-Err.is c.in-Usage.is read)) c.write_fault.ensures.writes
