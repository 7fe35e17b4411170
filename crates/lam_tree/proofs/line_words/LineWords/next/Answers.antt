use Rattle.std.proofs.Common.{◌∙◌, ◌∷◌, ap, sym, take, ◌+◌}
use Rattle.std.proofs.lemmas.List.{take_rest}
use Rattle.lam_tree.specs.inside.Cut.{words_of, words_left}
use Rattle.lam_tree.proofs.WordLaws.{split_found, split_none}
use Rattle.lam_tree.proofs.line_words.LineWords.next.Goals as goal

pub returns-in-Some : goal.returns-in-Some
returns-in-Some c =
    let line = c.in_ok-line.line.now in
    let k = c.in-Some.end in
    sym c.self.view_is ∙ ap words_left c.in_ok-line.was ∙ split_found line k (sym c.blank_in.ensures.place ∙ c.in-Some.is) ∙ ap (λ l. take k line ∷ words_of l) (sym (take_rest line (k + 1)))

pub returns-in-None : goal.returns-in-None
returns-in-None c = sym c.self.view_is ∙ ap words_left c.in_ok-line.was ∙ split_none c.in_ok-line.line.now (sym c.blank_in.ensures.place ∙ c.in-None.is)
