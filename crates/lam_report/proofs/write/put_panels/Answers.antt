use Rattle.std.proofs.Common.{◌∙◌, ap, sym, get_or, ℕ, List, [], ◌∷◌}
use Rattle.std.specs.Prelude.{take}
use Rattle.lam_report.specs.LineText.{text_of}
use Rattle.lam_report.specs.ReportText.{numbered, panel_line, ratio_text}
use Rattle.lam_report.proofs.TextLaws.{hands_same, line_is, lines_then, numbered-more}
use Rattle.lam_report.proofs.write.put_panels.Goals as goal

pub loop-k-preserved : goal.loop-k-preserved
loop-k-preserved g c =
    let line : ℕ → ℕ → List ℕ = λ k r. panel_line k (ratio_text r) in
    let k = c.loop-k.k in
    let r = get_or c.args.panels.now k 0 in
    let text = c.bytes-in-loop-k.ensures ∙ c.line_of_panel-line.ensures ∙ ap (panel_line k) (c.bytes.ensures ∙ c.ratio_word.ensures.text) in
    hands_same (ap text_of (sym (numbered-more line c.args.panels.now k c.loop-k-test.true)))
    (lines_then (numbered line 0 (take k c.args.panels.now)) (line k r ∷ []) c.loop-k.invariant (line_is text c.line.ensures))
