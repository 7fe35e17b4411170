use Rattle.std.proofs.Common.{List, ℕ, subst}
use Rattle.std.specs.Prelude.{string_bytes}
use Rattle.laminate.specs.Outside.{sink_seen}
use Rattle.laminate.specs.inside.Steps.{WritesText}
use Rattle.laminate.proofs.SampleSteps.{sampled}
use Rattle.laminate.proofs.modes.sample.answer.Goals as goal

pub returns-clause-samples : goal.returns-clause-samples
returns-clause-samples g c =
    let line = string_bytes c.in-Ok-checked_line.line in (
      c.status_of.result,
      line,
      sampled c.args.number c.args.nodes c.in-Ok.design line c.status_of.result c.in-Ok.ensures.so c.in-Ok-checked_line.ensures c.status_of.ensures,
      subst (λ (text : List ℕ). WritesText c.status_of.result text c.write_text.result
          (sink_seen g.K.Sink.written g.K.Sink.faults g.K.Sink.stalls g.K.Sink.terms c.args.sink.now) (sink_seen g.K.Sink.written g.K.Sink.faults g.K.Sink.stalls g.K.Sink.terms c.write_text.new.sink))
          c.as_bytes.ensures.value c.write_text.ensures.writes,
    )
