use Rattle.std.proofs.Common.{◌∙◌, ◌+◌, ◌∷◌, ap, sym, take}
use Rattle.std.proofs.lemmas.List.{take_rest}
use Rattle.lam_report.specs.LineText.{whole_lines}
use Rattle.lam_report.proofs.CutLaws.{next_found, next_none}
use Rattle.lam_stream.proofs.tree_lines.first_line.Goals as goal

pub returns-in-Some : goal.returns-in-Some
returns-in-Some c =
    let bytes = c.args.bytes.now in
    let end = c.in-Some.end in
    (next_found bytes end (sym c.end_of_line.ensures.place ∙ c.in-Some.is)).0
    ∙ ap (λ behind. take end bytes ∷ whole_lines behind) (sym (take_rest bytes (end + 1)))

pub returns-in-None : goal.returns-in-None
returns-in-None c = next_none c.args.bytes.now (sym c.end_of_line.ensures.place ∙ c.in-None.is)
