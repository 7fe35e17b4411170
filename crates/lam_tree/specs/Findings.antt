-- What a check finds: nothing, or the first fault with the line at which it stands.
use Rattle.std.specs.Prelude.{◌≡◌, ℕ, ◌⊎◌, Option, Some, None, ⊤}

-- why a report is not accepted
pub data Cause : Type 0 where
  -- a printed cost is not that of its schedule
  WrongCost : Cause
  -- the printed schedule is not judged admissible, or is too long
  NotAdmissible : Cause
  -- a printed ratio is not the computed one
  WrongRatio : Cause
  -- the near schedule is not judged to straddle there, or is too long
  NotNear : Cause
  -- the seat of a line is not due
  OutOfOrder : Cause
  -- a partial may not be split
  UnlawfulSplit : Cause
  -- a word does not close its partial
  WrongLeaf : Cause
  -- the tree does not keep to the budget
  WrongBudget : Cause
  -- the answer is not what the tree gives
  WrongAnswer : Cause

-- lines count from 1
pub record Fault : Type 0 where
  pub line : ℕ
  pub cause : Cause

-- said of None: there is no fault; of a fault: it is the first
abbrev pub Finding : Type 1
Finding = Option Fault → Type 0

-- nothing is looked at
abbrev pub NoFault : Finding
NoFault None = ⊤
NoFault (Some fault) = ⊥

-- one thing is looked at, at a line
abbrev pub Holds : Type 0 → ℕ → Cause → Finding
Holds fact line cause None = fact
Holds fact line cause (Some fault) = (¬ fact) × (fault ≡ record { line = line; cause = cause })

-- one after the other
abbrev pub Then : Finding → Finding → Finding
Then first next None = first None × next None
Then first next (Some fault) = first (Some fault) ⊎ (first None × next (Some fault))
