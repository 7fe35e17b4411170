-- What the reader of a node's line answers.
use Rattle.std.proofs.Common.{◌≡◌, ◌∙◌, refl, sym, ap, ℕ, ◌<◌, List, Option, Some, None, Result, Ok, Err}
use Rattle.std.specs.Prelude.{IfOk}
use Rattle.std.specs.Result.{result_ok}
use Rattle.lam_tree.specs.declared.node.Node.{Node}
use Rattle.lam_tree.specs.declared.read.TreeFault.{TreeFault}
use Rattle.lam_tree.specs.Lines.{node_line}
use Rattle.lam_tree.specs.ReportRanges.{IsNode}
use Rattle.lam_tree.specs.inside.LineReading.{node_of}
use Rattle.lam_tree.proofs.NodeLaws.{line_takes, line_of_node_again}

pub node_read : (items : ℕ) (line : List ℕ) (r : Result Node TreeFault) → items < 256 → IfOk r (λ n. IsNode items n) → IfOk r (λ n. line ≡ node_line n)
    → ((n : Node) → IsNode items n → line ≡ node_line n → r ≡ Ok n) → result_ok r ≡ node_of items line
node_read items line (Ok n) few is text only = sym (ap (node_of items) text ∙ line_of_node_again items n few is)
node_read items line (Err e) few is text only = by (node_of items line) refl where
  by : (o : Option Node) → node_of items line ≡ o → None ≡ node_of items line
  by None h = sym h
  by (Some n) h =
      let took = line_takes items line n h in
      let never : ◌≡◌ {A = Result Node TreeFault} (Err e) (Ok n) = only n took.1 took.0 in absurd cc
