-- Which calls of an object in memory fail.
use Rattle.std.specs.Prelude.{ℕ, ◌+◌, List, [], ◌∷◌, ◌++◌, Contains}
use Rattle.lam_outside.specs.Counts.{raised}

-- how many calls were made, up to the greatest u64, and the numbers of those that fail, counted from 1
pub record Calls : Type 0 where
  pub made : ℕ
  pub failing : List ℕ

-- no call was made, and none fails
abbrev pub no_calls : Calls
no_calls = record { made = 0; failing = [] }

-- the next call fails
abbrev pub IsDue : Calls → Type 0
IsDue calls = Contains calls.failing (calls.made + 1)

-- one more call was made
abbrev pub after_call : Calls → Calls
after_call calls = record { made = raised calls.made; failing = calls.failing }

-- the call of that number fails too
abbrev pub with_failing : Calls → ℕ → Calls
with_failing calls call = record { made = calls.made; failing = calls.failing ++ call ∷ [] }
