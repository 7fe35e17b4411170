-- What a sink was given, where it tells that.
use Rattle.std.specs.Prelude.{ℕ, ◌≤◌, List, length, take, Option, Result, MatchResult}
use Rattle.std.specs.Io.KnownBytes.{Appends}

-- what was written grew by a prefix of the text, where that is told
abbrev pub GrowsByPrefix : Option (List ℕ) → Option (List ℕ) → List ℕ → Type 0
GrowsByPrefix old new text = (n : ℕ) × (n ≤ length text) × Appends old new (take n text)

-- what was written grew by just the text at Ok, and by a prefix of it at a fault, where that is told
abbrev pub Delivers : {E : Type 0} → Option (List ℕ) → Option (List ℕ) → Result (Unit {0}) E → List ℕ → Type 0
Delivers old new outcome text = MatchResult outcome (λ _. Appends old new text) (λ _. GrowsByPrefix old new text)
