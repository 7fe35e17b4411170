-- A report by its head and its tree.
use Rattle.std.specs.Prelude.{List}
use Rattle.lam_tree.specs.declared.node.Node.{Node}
use Rattle.lam_tree.specs.declared.report.Head.{Head}
use Rattle.lam_tree.specs.declared.report.Report.{Report}

-- the report of this head whose tree has these nodes
abbrev pub with_nodes : Head → List Node → Report
with_nodes head nodes = record {
  budget = head.budget;
  answer = head.answer;
  best = head.best;
  ratios = head.ratios;
  panels = head.panels;
  tree = nodes;
}
