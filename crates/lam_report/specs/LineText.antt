-- A text as lines, and the lines of bytes.
use Rattle.std.specs.Prelude.{ℕ, ◌==◌, Bool, List, [], ◌∷◌, ◌++◌}
use Rattle.std.specs.List.{slice_split}

-- each line with the byte that ends it
abbrev pub text_of : List (List ℕ) → List ℕ
text_of [] = []
text_of (line ∷ rest) = line ++ (10 ∷ text_of rest)

abbrev pub is_end : ℕ → Bool
is_end b = b == 10

abbrev pub but_last : List (List ℕ) → List (List ℕ)
but_last [] = []
but_last (part ∷ []) = []
but_last (part ∷ next ∷ rest) = part ∷ but_last (next ∷ rest)

abbrev pub last_part : List (List ℕ) → List ℕ
last_part [] = []
last_part (part ∷ []) = part
last_part (part ∷ next ∷ rest) = last_part (next ∷ rest)

-- the lines of bytes that end, without the bytes that end them
abbrev pub whole_lines : List ℕ → List (List ℕ)
whole_lines bytes = but_last (slice_split is_end bytes)

-- what stands behind them
abbrev pub tail_of : List ℕ → List ℕ
tail_of bytes = last_part (slice_split is_end bytes)
