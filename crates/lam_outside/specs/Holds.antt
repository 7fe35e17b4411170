-- What taking a file's contents answers.
use Rattle.std.specs.Prelude.{◌≡◌, ℕ, ◌<◌, ◌≤◌, List, length, ⊤}
use Rattle.lam_outside.specs.declared.reading.Taken.{Taken}
use Rattle.lam_outside.specs.declared.reading.Taken.TheVariants.{Whole, TooLong}

-- all of the contents, or that they are longer than `most`
abbrev pub IsTaken : List ℕ → ℕ → Taken → Type 0
IsTaken contents most (Whole bytes) = (bytes ≡ contents) × (length contents ≤ most)
IsTaken contents most TooLong = most < length contents

-- no more than `most` bytes
abbrev pub TakesAtMost : ℕ → Taken → Type 0
TakesAtMost most (Whole bytes) = length bytes ≤ most
TakesAtMost most TooLong = ⊤
