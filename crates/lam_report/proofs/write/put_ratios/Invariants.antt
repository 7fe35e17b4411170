use Rattle.std.specs.Prelude.{◌/◌, ◌%◌, take}
use Rattle.lam_report.specs.LineText.{text_of}
use Rattle.lam_report.specs.ReportText.{numbered, ratio_line}
use Rattle.lam_report.specs.inside.Pieces.{PutsText}
use Rattle.lam_report.proofs.write.put_ratios.Given as goal

abbrev pub invariant-loop-i : goal.invariant-loop-i
invariant-loop-i g l =
    PutsText g.K.Sink.written g.K.Sink.faults g.K.Sink.stalls g.K.Sink.terms l.initial.sink l.initial.pieces l.sink l.pieces
    (text_of (numbered (λ i r. ratio_line (i / l.plies) (i % l.plies) r) 0 (take l.i l.ratios)))
