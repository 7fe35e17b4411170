use Rattle.std.specs.Prelude.{◌≡◌, List}
use Rattle.lam_tree.specs.declared.node.Node.{Node}
use Rattle.lam_tree.specs.inside.LineReading.{node_of}
use Rattle.lam_report.proofs.ListLoops.{SoFar}
use Rattle.lam_report.proofs.read.passes_nodes.Given as goal

-- the nodes that were passed are known here alone
abbrev pub invariant-loop-place : goal.invariant-loop-place
invariant-loop-place l = record {
  read : (front : List Node) × SoFar (λ i. node_of l.items) l.count l._place front l.lines.lines l.initial.lines.lines;
  tail : l.lines.tail ≡ l.initial.lines.tail;
}
