use Rattle.std.specs.Prelude.{take}
use Rattle.lam_report.specs.LineText.{text_of}
use Rattle.lam_report.specs.ReportText.{numbered, panel_line, ratio_text}
use Rattle.lam_report.specs.inside.Pieces.{PutsText}
use Rattle.lam_report.proofs.write.put_panels.Given as goal

abbrev pub invariant-loop-k : goal.invariant-loop-k
invariant-loop-k g l =
    PutsText g.K.Sink.written g.K.Sink.faults g.K.Sink.stalls g.K.Sink.terms l.initial.sink l.initial.pieces l.sink l.pieces
    (text_of (numbered (λ k r. panel_line k (ratio_text r)) 0 (take l.k l.panels)))
