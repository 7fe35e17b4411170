use Rattle.std.proofs.Common.{List, ℕ, Some, subst, sym}
use Rattle.std.specs.Prelude.{string_bytes}
use Rattle.lam_words.specs.declared.order.Order.{Order}
use Rattle.lam_words.specs.Reading.{check}
use Rattle.lam_words.specs.Spelled.{spelled}
use Rattle.laminate.specs.Outside.{outside}
use Rattle.laminate.specs.inside.Steps.{Does}
use Rattle.laminate.proofs.SampleSteps.{sample_ends}
use Rattle.laminate.proofs.top.answer.Goals as goal

pub returns-in-Check-clause-does : goal.returns-in-Check-clause-does
returns-in-Check-clause-does g c =
    let out = outside g.F.Files.contents g.F.Files.faults g.K.Sink.written g.K.Sink.faults g.K.Sink.stalls g.K.Sink.terms
    c.args.files.now c.answer-in-Check.new.files c.args.sink.now c.answer-in-Check.new.sink in
    let ended = c.answer-in-Check.result in
    subst (λ (o : Order). Does out (Some (spelled o)) ended) (sym c.in-Check.is)
    (subst (λ (job : List ℕ). Does out (Some (check job (string_bytes c.in-Check.catalogue) (string_bytes c.in-Check.report))) ended)
    c.as_str-in-Check.ensures.value
    (subst (λ (catalogue : List ℕ). Does out (Some (check c.as_str-in-Check.result.now catalogue (string_bytes c.in-Check.report))) ended)
    c.as_str-in-Check-2.ensures.value
    (subst (λ (report : List ℕ). Does out (Some (check c.as_str-in-Check.result.now c.as_str-in-Check-2.result.now report)) ended)
    c.as_str-in-Check-3.ensures.value c.answer-in-Check.ensures.does)))

pub returns-in-Design-clause-does : goal.returns-in-Design-clause-does
returns-in-Design-clause-does g c =
    rw c.in-Design.is (rw (c.as_str.ensures.value, c.as_str-in-Design.ensures.value) at (c.answer.ensures.does c.in-Design.guide))

pub returns-in-Sample-clause-does : goal.returns-in-Sample-clause-does
returns-in-Sample-clause-does g c =
    let out = outside g.F.Files.contents g.F.Files.faults g.K.Sink.written g.K.Sink.faults g.K.Sink.stalls g.K.Sink.terms
    c.args.files.now c.args.files.now c.args.sink.now c.answer-in-Sample.new.sink in
    subst (λ (o : Order). Does out (Some (spelled o)) c.answer-in-Sample.result) (sym c.in-Sample.is)
    (sample_ends out c.in-Sample.guide c.in-Sample.number c.in-Sample.nodes c.answer-in-Sample.result c.answer-in-Sample.ensures.samples)
