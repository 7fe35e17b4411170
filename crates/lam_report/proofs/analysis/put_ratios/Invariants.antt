use Rattle.std.specs.Prelude.{◌/◌, ◌%◌}
use Rattle.lam_judge.specs.Printed.{ratio_of}
use Rattle.lam_report.specs.LineText.{text_of}
use Rattle.lam_report.specs.ReportText.{counted, ratio_line}
use Rattle.lam_report.specs.inside.Pieces.{PutsText}
use Rattle.lam_report.proofs.analysis.put_ratios.Given as goal

abbrev pub invariant-loop-i : goal.invariant-loop-i
invariant-loop-i g l =
    PutsText g.K.Sink.written g.K.Sink.faults g.K.Sink.stalls g.K.Sink.terms l.initial.sink l.initial.pieces l.sink l.pieces
    (text_of (counted (λ i. ratio_line (i / l.plies) (i % l.plies) (ratio_of l.room (i / l.plies) (i % l.plies))) 0 l.i))
