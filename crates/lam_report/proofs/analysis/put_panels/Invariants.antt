use Rattle.lam_judge.specs.Printed.{panel_of}
use Rattle.lam_report.specs.LineText.{text_of}
use Rattle.lam_report.specs.ReportText.{counted, panel_line, panel_value}
use Rattle.lam_report.specs.inside.Pieces.{PutsText}
use Rattle.lam_report.proofs.analysis.put_panels.Given as goal

abbrev pub invariant-loop-k : goal.invariant-loop-k
invariant-loop-k g l =
    PutsText g.K.Sink.written g.K.Sink.faults g.K.Sink.stalls g.K.Sink.terms l.initial.sink l.initial.pieces l.sink l.pieces
    (text_of (counted (λ k. panel_line k (panel_value (panel_of l.room k))) 0 l.k))
