use Rattle.std.proofs.Common.{◌≡◌, ◌≤◌, ℕ, List, ◌++◌}
use Rattle.std.specs.Io.KnownBytes.{Appends}
use Rattle.std.specs.Slice.Iter.{chunks_rest, chunks_size}
use Rattle.lam_outside.proofs.writing.put_text.Given as goal

abbrev pub invariant-loop-piece : goal.invariant-loop-piece
invariant-loop-piece g l = record {
  size : chunks_size l.piece-iterator ≡ 64;
  faults : g.K.Sink.faults l.initial.sink ≤ g.K.Sink.faults l.sink;
  stalls : g.K.Sink.stalls l.sink ≡ g.K.Sink.stalls l.initial.sink;
  terms : g.K.Sink.terms l.sink ≡ g.K.Sink.terms l.initial.sink;
  written : (done : List ℕ) × (l.text ≡ done ++ chunks_rest l.piece-iterator)
      × Appends (g.K.Sink.written l.initial.sink) (g.K.Sink.written l.sink) done;
}
