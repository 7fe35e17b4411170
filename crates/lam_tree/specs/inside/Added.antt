-- A line that grows by words.
use Rattle.std.specs.Prelude.{◌≡◌, ℕ, ◌+◌, ◌≤◌, List, ◌++◌, length}
use Rattle.lam_tree.specs.Lines.{spaced}

-- some words are put behind a line, with a blank before each; they take so many bytes at most
pub record IsAdded (old new : List ℕ) (words : List (List ℕ)) (most : ℕ) : Type 0 where
  pub text : new ≡ old ++ spaced words
  pub long : length new ≤ length old + most
