-- A line, cut into its words.
use Rattle.std.specs.Prelude.{◌≡◌, ◌==◌, ℕ, Bool, true, false, List, [], ◌∷◌, Option, Some, None}
use Rattle.std.specs.List.{slice_split}
use Rattle.std.specs.Borrow.{Bor}

abbrev pub Words : Type 0
Words = List (List ℕ)

abbrev pub is_blank : ℕ → Bool
is_blank b = b == 32

-- what stands between the blanks of a line
abbrev pub words_of : List ℕ → Words
words_of line = slice_split is_blank line

abbrev pub words_left : Option (Bor (List ℕ)) → Words
words_left None = []
words_left (Some rest) = words_of rest.now

-- whether no word is left
abbrev pub is_empty : Words → Bool
is_empty [] = true
is_empty (w ∷ words) = false

-- the first word is taken, if there is one
abbrev pub Takes : Words → Option (Bor (List ℕ)) → Words → Type 0
Takes old None new = (old ≡ []) × (new ≡ [])
Takes old (Some word) new = old ≡ word.now ∷ new
