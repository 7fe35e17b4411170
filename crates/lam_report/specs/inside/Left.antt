-- What is left of bytes that are read by lines.
use Rattle.std.specs.Prelude.{◌≡◌, ℕ, List, [], ◌∷◌, ◌++◌, Option, Some, None}
use Rattle.std.specs.Borrow.{Bor}
use Rattle.lam_report.specs.LineText.{text_of, whole_lines, tail_of}
use Rattle.lam_report.specs.inside.Reading.{Lines}

-- the whole lines, and what stands behind them
pub record Left : Type 0 where
  pub lines : Lines
  pub tail : List ℕ

abbrev pub left_of : List ℕ → Left
left_of bytes = record { lines = whole_lines bytes; tail = tail_of bytes }

-- the bytes that are left
abbrev pub bytes_of : Left → List ℕ
bytes_of left = text_of left.lines ++ left.tail

-- the next line, and the bytes behind it
abbrev pub IsNext : Left → Option (Bor (List ℕ) × Bor (List ℕ)) → Type 0
IsNext left None = left.lines ≡ []
IsNext left (Some next) = left ≡ record { lines = next.0.now ∷ whole_lines next.1.now; tail = tail_of next.1.now }
