use Rattle.lam_search.proofs.hints.child_hints.Goals as goal

pub returns : goal.returns
returns c = λ item known. record {
  carried = λ it n case is. c.no_child_is_short.ensures it item known n case is;
  cheap = c.cheap_limit.ensures item known;
}
