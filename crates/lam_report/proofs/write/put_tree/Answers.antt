use Rattle.std.proofs.Common.{◌∙◌, ap, sym, get_or, length, [], ◌∷◌}
use Rattle.std.specs.Prelude.{codes, map, take}
use Rattle.std.proofs.lemmas.List.{take_all}
use Rattle.lam_tree.specs.Lines.{node_line}
use Rattle.lam_report.specs.LineText.{text_of}
use Rattle.lam_report.specs.ReportText.{number_line}
use Rattle.lam_report.proofs.TextLaws.{hands_same, line_is, lines_then, mapped-more}
use Rattle.lam_report.proofs.write.put_tree.Goals as goal

pub loop-node-preserved : goal.loop-node-preserved
loop-node-preserved g c =
    let nodes = c.args.nodes.now in
    let k = c.loop-node.node-index in
    let any = c.node-item.result in
    hands_same (ap text_of (sym (mapped-more node_line nodes k any c.loop-node-test.true)))
    (lines_then (map node_line (take k nodes)) (node_line (get_or nodes k any) ∷ []) c.loop-node.invariant (line_is (ap node_line c.node-item.is) c.put_node.ensures))

pub returns : goal.returns
returns g c =
    let nodes = c.args.nodes.now in
    let count = number_line (codes "nodes") (length nodes) in
    let text = c.bytes.ensures ∙ c.line_of_number-count.ensures ∙ ap (λ w. number_line w (length nodes)) c.as_slice.ensures in
    lines_then (count ∷ map node_line nodes) (codes "end" ∷ [])
    (lines_then (count ∷ []) (map node_line nodes) (line_is text c.line.ensures)
    (hands_same (ap (λ t. text_of (map node_line t)) (take_all c.loop-node.node-index nodes c.loop-node-test.false)) c.loop-node.invariant)) (line_is c.as_slice-2.ensures c.line-2.ensures)
