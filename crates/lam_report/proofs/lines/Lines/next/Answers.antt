use Rattle.std.proofs.Common.{◌∙◌, ◌+◌, ◌∷◌, List, ℕ, ap, sym, take, drop}
use Rattle.std.proofs.lemmas.List.{take_rest}
use Rattle.lam_report.specs.LineText.{whole_lines, tail_of}
use Rattle.lam_report.specs.inside.Left.{Left}
use Rattle.lam_report.proofs.CutLaws.{next_found, next_none}
use Rattle.lam_report.proofs.lines.Lines.next.Goals as goal

pub returns-in-Some : goal.returns-in-Some
returns-in-Some c =
    let rest = c.self.inside.rest.now in
    let k = c.in-Some.end in
    let found = next_found rest k (sym c.end_of_line.ensures.place ∙ c.in-Some.is) in
    let cut : List ℕ → Left = λ behind. record { lines = take k rest ∷ whole_lines behind; tail = tail_of behind } in
    sym c.self.view_is ∙ ap (λ ls. record { lines = ls; tail = tail_of rest }) found.0
    ∙ ap (λ t. record { lines = take k rest ∷ whole_lines (drop (k + 1) rest); tail = t }) found.1 ∙ ap cut (sym (take_rest rest (k + 1)))

pub returns-in-None : goal.returns-in-None
returns-in-None c = ap (λ (l : Left). l.lines) (sym c.self.view_is) ∙ next_none c.self.inside.rest.now (sym c.end_of_line.ensures.place ∙ c.in-None.is)
