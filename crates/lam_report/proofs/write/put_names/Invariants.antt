use Rattle.std.specs.Prelude.{map, take}
use Rattle.lam_tree.specs.Lines.{spaced}
use Rattle.lam_report.specs.ReportText.{name_of}
use Rattle.lam_report.specs.inside.Pieces.{PutsText}
use Rattle.lam_report.proofs.write.put_names.Given as goal

abbrev pub invariant-loop-ply : goal.invariant-loop-ply
invariant-loop-ply g l =
    PutsText g.K.Sink.written g.K.Sink.faults g.K.Sink.stalls g.K.Sink.terms l.initial.sink l.initial.pieces l.sink l.pieces
    (spaced (map (name_of l.stock) (take l.ply-index l.ply-items)))
