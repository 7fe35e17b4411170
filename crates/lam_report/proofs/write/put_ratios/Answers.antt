use Rattle.std.proofs.Common.{◌∙◌, sym, get_or, [], ◌∷◌}
use Rattle.std.specs.Prelude.{◌/◌, ◌%◌, take}
use Rattle.lam_report.specs.ReportText.{numbered, ratio_line}
use Rattle.lam_report.specs.LineText.{text_of}
use Rattle.std.proofs.Common.{ap, ℕ, List}
use Rattle.lam_report.proofs.TextLaws.{hands_same, line_is, lines_then, numbered-more}
use Rattle.lam_report.proofs.write.put_ratios.Goals as goal

pub loop-i-preserved : goal.loop-i-preserved
loop-i-preserved g c =
    let line : ℕ → ℕ → List ℕ = λ i r. ratio_line (i / c.args.plies) (i % c.args.plies) r in
    let i = c.loop-i.i in
    hands_same (ap text_of (sym (numbered-more line c.args.ratios.now i c.loop-i-test.true)))
    (lines_then (numbered line 0 (take i c.args.ratios.now)) (line i (get_or c.args.ratios.now i 0) ∷ []) c.loop-i.invariant
    (line_is (c.bytes.ensures ∙ c.line_of_ratio-line.ensures) c.line.ensures))
