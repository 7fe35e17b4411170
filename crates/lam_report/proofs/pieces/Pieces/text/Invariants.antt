use Rattle.std.proofs.Common.{◌≡◌, ◌++◌, List, ℕ, length}
use Rattle.lam_report.specs.inside.Pieces.{Hands, seen}
use Rattle.lam_report.proofs.pieces.Pieces.text.Given as goal

-- what was handed on, with what is to come, is the text
abbrev pub invariant-loop-rest : goal.invariant-loop-rest
invariant-loop-rest g l = record {
  passed : (done : List ℕ) × (l.fn.text ≡ done ++ l.rest)
      × Hands (seen g.K.Sink.written g.K.Sink.faults g.K.Sink.stalls g.K.Sink.terms l.initial.sink) l.initial.self
      (seen g.K.Sink.written g.K.Sink.faults g.K.Sink.stalls g.K.Sink.terms l.sink) l.self done;
}

abbrev pub decreases-loop-rest : goal.decreases-loop-rest
decreases-loop-rest g l = length l.rest
