use Rattle.std.specs.Prelude.{◌≡◌, length}
use Rattle.lam_tree.specs.inside.LineReading.{node_of}
use Rattle.lam_report.proofs.ListLoops.{SoFar}
use Rattle.lam_report.proofs.read.nodes.Given as goal

abbrev pub invariant-loop-place : goal.invariant-loop-place
invariant-loop-place l = record {
  read : SoFar (λ i. node_of l.items) l.count l._place l.tree l.lines.lines l.initial.lines.lines;
  tail : l.lines.tail ≡ l.initial.lines.tail;
  long : length l.tree ≡ l._place;
}
