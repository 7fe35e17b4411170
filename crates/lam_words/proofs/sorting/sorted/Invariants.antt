use Rattle.std.proofs.Common.{◌≡◌, map, string_bytes, drop, Some}
use Rattle.lam_words.specs.Sorting.{after_words}
use Rattle.lam_words.specs.inside.Spelled.{reached_of}
use Rattle.lam_words.proofs.sorting.sorted.Given as goal

-- what was sorted, and then what is left, are all the words
abbrev pub invariant-loop-word : goal.invariant-loop-word
invariant-loop-word l =
    after_words (Some (reached_of l.reached)) (map string_bytes (drop l.word-index l.words))
    ≡ after_words (Some (reached_of l.initial.reached)) (map string_bytes l.words)
