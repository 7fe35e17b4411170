use Rattle.std.specs.Prelude.{map, string_bytes}
use Rattle.lam_words.specs.Reading.{reading}
use Rattle.laminate.specs.Orders.{order_of}
use Rattle.laminate.specs.Outside.{outside}
use Rattle.laminate.proofs.Budgets.{reads_budget}
use Rattle.laminate.proofs.Endings.{accepts, completes, is_read, refused_ends, unread_ends}
use Rattle.laminate.proofs.top.run.Goals as goal

pub respond-requires-clause-budget : goal.respond-requires-clause-budget
respond-requires-clause-budget g c =
    reads_budget (map string_bytes c.args.words.now) c.read_words-order.result c.read_words-order.ensures.order

pub returns-clause-ending : goal.returns-clause-ending
returns-clause-ending g c =
    c.respond.ensures.ending (reading (map string_bytes c.args.words.now))
    (is_read c.read_words-order.result (reading (map string_bytes c.args.words.now)) c.read_words-order.ensures.order c.read_words-order.ensures.usage.0)

pub returns-clause-usage : goal.returns-clause-usage
returns-clause-usage g c =
    unread_ends (outside g.F.Files.contents g.F.Files.faults g.K.Sink.written g.K.Sink.faults g.K.Sink.stalls g.K.Sink.terms
    c.args.files.now c.respond.new.files c.args.sink.now c.respond.new.sink)
    (order_of c.args.words.now) c.respond.result (returns-clause-ending g c)

pub returns-clause-refused : goal.returns-clause-refused
returns-clause-refused g c = λ o fault.
    refused_ends (outside g.F.Files.contents g.F.Files.faults g.K.Sink.written g.K.Sink.faults g.K.Sink.stalls g.K.Sink.terms
    c.args.files.now c.respond.new.files c.args.sink.now c.respond.new.sink)
    (order_of c.args.words.now) c.respond.result o fault (returns-clause-ending g c)

pub returns-clause-complete : goal.returns-clause-complete
returns-clause-complete g c = λ o.
    completes (outside g.F.Files.contents g.F.Files.faults g.K.Sink.written g.K.Sink.faults g.K.Sink.stalls g.K.Sink.terms
    c.args.files.now c.respond.new.files c.args.sink.now c.respond.new.sink)
    (order_of c.args.words.now) c.respond.result o (returns-clause-ending g c)

pub returns-clause-accepted : goal.returns-clause-accepted
returns-clause-accepted g c = λ o.
    accepts (outside g.F.Files.contents g.F.Files.faults g.K.Sink.written g.K.Sink.faults g.K.Sink.stalls g.K.Sink.terms
    c.args.files.now c.respond.new.files c.args.sink.now c.respond.new.sink)
    (order_of c.args.words.now) c.respond.result o (returns-clause-ending g c)
