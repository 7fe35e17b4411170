use Rattle.std.proofs.Common.{refl, sym, ap, subst, length, All, [], ◌∷◌, ◌++◌}
use Rattle.std.specs.Prelude.{codes}
use Rattle.lam_tree.specs.ReportRanges.{IsNode}
use Rattle.lam_report.specs.LineText.{text_of}
use Rattle.lam_report.specs.ReportText.{answer_line, best_lines, near_lines, number_line, report_text, tree_lines}
use Rattle.lam_report.specs.inside.Pieces.{Kept, Handed, seen}
use Rattle.lam_report.proofs.Handing.{began}
use Rattle.lam_report.proofs.TextLaws.{hands_same, lines_then}
use Rattle.lam_report.proofs.WriteLaws.{nodes-wider}
use Rattle.lam_report.proofs.write.write_report.Goals as goal

pub put_tree-requires : goal.put_tree-requires
put_tree-requires g c =
    subst (λ nodes. All (IsNode 64) nodes) (sym c.nodes.ensures)
    (nodes-wider (length c.args.stock.now) 64 c.args.report.now.tree c.items-items.ensures.few c.requires.report.nodes)

pub returns-clause-written : goal.returns-clause-written
returns-clause-written g c =
    let report = c.args.report.now in
    let stock = c.args.stock.now in
    let view = seen g.K.Sink.written g.K.Sink.faults g.K.Sink.stalls g.K.Sink.terms in
    let heading = codes "laminate report 1" ∷ number_line (codes "budget") report.budget ∷ answer_line report.answer ∷ [] in
    let best = best_lines stock c.args.job.now report.best report.ratios report.panels in
    let near = near_lines stock report.answer in
    let tree = tree_lines report.tree in
    let put_tree = hands_same (ap (λ nodes. text_of (tree_lines nodes)) c.nodes.ensures) c.put_tree.ensures in
    let all = lines_then heading (best ++ (near ++ tree)) c.put_heading.ensures (lines_then best (near ++ tree) c.put_block.ensures (lines_then near tree c.put_near.ensures put_tree)) in
    let start = g.K.Sink.written c.args.sink.now in
    let none = subst (λ (k : Kept). Handed start (view c.args.sink.now) k.left k.fault []) (sym c.new-pieces.ensures) (began start (view c.args.sink.now) refl) in
    c.finish.ensures.written start (report_text stock c.args.job.now report) (all.handed start [] none)
