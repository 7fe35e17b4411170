use Rattle.std.proofs.Common.{◌∙◌, ap, sym, ℕ, List, [], ◌∷◌}
use Rattle.lam_judge.specs.Printed.{panel_of}
use Rattle.lam_report.specs.LineText.{text_of}
use Rattle.lam_report.specs.ReportText.{counted, panel_line, panel_value}
use Rattle.lam_report.proofs.TextLaws.{counted-next, hands_same, line_is, lines_then}
use Rattle.lam_report.proofs.analysis.put_panels.Goals as goal

pub loop-k-preserved : goal.loop-k-preserved
loop-k-preserved g c =
    let line : ℕ → List ℕ = λ k. panel_line k (panel_value (panel_of c.args.room.now k)) in
    let k = c.loop-k.k in
    let text = c.bytes.ensures ∙ c.line_of_result-line.ensures ∙ ap (λ o. panel_line k (panel_value o)) c.panel.ensures.value in
    hands_same (ap text_of (sym (counted-next line k))) (lines_then (counted line 0 k) (line k ∷ []) c.loop-k.invariant (line_is text c.line.ensures))
