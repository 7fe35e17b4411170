use Rattle.std.proofs.Common.{length, take, ◌-◌, ◌≡◌, ◌≤◌}
use Rattle.std.specs.Io.KnownBytes.{Appends}
use Rattle.lam_outside.proofs.writing.put_all.Given as goal

abbrev pub invariant-loop-done : goal.invariant-loop-done
invariant-loop-done g l = record {
  within : l.done ≤ length l.piece;
  faults : g.K.Sink.faults l.initial.sink ≤ g.K.Sink.faults l.sink;
  stalls : g.K.Sink.stalls l.sink ≡ g.K.Sink.stalls l.initial.sink;
  terms : g.K.Sink.terms l.sink ≡ g.K.Sink.terms l.initial.sink;
  written : Appends (g.K.Sink.written l.initial.sink) (g.K.Sink.written l.sink) (take l.done l.piece);
}

abbrev pub decreases-loop-done : goal.decreases-loop-done
decreases-loop-done g l = length l.piece - l.done
