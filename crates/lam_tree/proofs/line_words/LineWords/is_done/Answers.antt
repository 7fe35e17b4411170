use Rattle.std.proofs.Common.{◌∙◌, ap, sym}
use Rattle.lam_tree.specs.inside.Cut.{is_empty, words_left}
use Rattle.lam_tree.proofs.WordLaws.{words_left_some}
use Rattle.lam_tree.proofs.line_words.LineWords.is_done.Goals as goal

pub returns-in-Some : goal.returns-in-Some
returns-in-Some c = sym (ap is_empty (sym c.self.view_is ∙ ap words_left c.in-Some.is) ∙ words_left_some c.in-Some.field-0.now)
