use Rattle.std.specs.Prelude.{map, take}
use Rattle.lam_tree.specs.Lines.{node_line}
use Rattle.lam_report.specs.LineText.{text_of}
use Rattle.lam_report.specs.inside.Pieces.{PutsText}
use Rattle.lam_report.proofs.write.put_tree.Given as goal

abbrev pub invariant-loop-node : goal.invariant-loop-node
invariant-loop-node g l =
    PutsText g.K.Sink.written g.K.Sink.faults g.K.Sink.stalls g.K.Sink.terms l.initial.sink l.initial.pieces l.sink l.pieces
    (text_of (map node_line (take l.node-index l.nodes)))
