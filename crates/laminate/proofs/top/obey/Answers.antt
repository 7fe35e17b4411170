use Rattle.std.proofs.Common.{Some}
use Rattle.lam_words.specs.Spelled.{spelled}
use Rattle.laminate.specs.Outside.{sink_seen}
use Rattle.laminate.proofs.Endings.{line_ends, stays_on}
use Rattle.laminate.proofs.top.obey.Goals as goal

pub returns-in-Err-Fault-clause-steady : goal.returns-in-Err-Fault-clause-steady
returns-in-Err-Fault-clause-steady g c =
    let first = c.in-Err-Fault.ensures.steady in
    record {
      files = first.files;
      sink = stays_on (sink_seen g.K.Sink.written g.K.Sink.faults g.K.Sink.stalls g.K.Sink.terms c.args.sink.now)
          (sink_seen g.K.Sink.written g.K.Sink.faults g.K.Sink.stalls g.K.Sink.terms c.answer.new.sink)
          (sink_seen g.K.Sink.written g.K.Sink.faults g.K.Sink.stalls g.K.Sink.terms c.write_fault.new.sink)
          first.sink c.write_fault.ensures.steady;
    }

pub returns-in-Err-Fault-clause-ending : goal.returns-in-Err-Fault-clause-ending
returns-in-Err-Fault-clause-ending g c =
    let (same, due) = rw c.in-Err-Fault.field-0-is at c.in-Err-Fault.ensures.does in
    line_ends g.F.Files.contents g.F.Files.faults g.K.Sink.written g.K.Sink.faults g.K.Sink.stalls g.K.Sink.terms
    c.args.files.now c.answer.new.files c.args.sink.now c.answer.new.sink c.write_fault.new.sink
    (Some (spelled c.args.order.now)) c.in-Err-Fault.fault c.write_fault.result same due c.write_fault.ensures.writes
