use Rattle.std.proofs.Common.{◌∙◌, ap, [], ◌∷◌}
use Rattle.std.specs.Prelude.{codes}
use Rattle.lam_report.specs.ReportText.{answer_line, number_line}
use Rattle.lam_report.proofs.TextLaws.{line_is, lines_then}
use Rattle.lam_report.proofs.write.put_heading.Goals as goal

pub returns : goal.returns
returns g c =
    let one = codes "laminate report 1" in
    let budget = codes "budget" in
    let two = number_line budget c.args.report.now.budget in
    let text = c.bytes.ensures ∙ c.line_of_number-budget.ensures ∙ ap (λ w. number_line w c.from.result) c.as_slice-2.ensures ∙ ap (number_line budget) c.from.ensures in
    lines_then (one ∷ two ∷ []) (answer_line c.args.report.now.answer ∷ [])
    (lines_then (one ∷ []) (two ∷ []) (line_is c.as_slice.ensures c.line.ensures) (line_is text c.line-2.ensures))
    c.put_answer.ensures
