use Rattle.std.proofs.Common.{◌∙◌, ap, sym, ℕ, List, [], ◌∷◌}
use Rattle.std.specs.Prelude.{◌/◌, ◌%◌}
use Rattle.lam_judge.specs.Printed.{ratio_of}
use Rattle.lam_report.specs.LineText.{text_of}
use Rattle.lam_report.specs.ReportText.{counted, ratio_line}
use Rattle.lam_report.proofs.TextLaws.{counted-next, hands_same, line_is, lines_then}
use Rattle.lam_report.proofs.analysis.put_ratios.Goals as goal

pub loop-i-preserved : goal.loop-i-preserved
loop-i-preserved g c =
    let plies = c.args.plies in
    let room = c.args.room.now in
    let line : ℕ → List ℕ = λ i. ratio_line (i / plies) (i % plies) (ratio_of room (i / plies) (i % plies)) in
    let i = c.loop-i.i in
    let text = c.bytes.ensures ∙ c.line_of_ratio-line.ensures ∙ ap (ratio_line (i / plies) (i % plies)) c.ratio.ensures.value in
    hands_same (ap text_of (sym (counted-next line i))) (lines_then (counted line 0 i) (line i ∷ []) c.loop-i.invariant (line_is text c.line.ensures))
