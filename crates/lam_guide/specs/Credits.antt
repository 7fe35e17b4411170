-- What the learning guide keeps of the events that it was told.
use Rattle.std.specs.Prelude.{ℕ, ◌+◌, List, unwrap_or, slice_get, slice_set, replicate}
use Rattle.lam_guide.specs.declared.guide.Event.{Event}
use Rattle.lam_guide.specs.declared.guide.Event.TheVariants.{Split, Closed, Admissible}

-- how many events it was told; of each item, how often it was told that a schedule which ends with it is admissible
pub record Learned : Type 0 where
  pub heard : ℕ
  pub credits : List ℕ

-- it was told nothing
abbrev pub new_learner : Learned
new_learner = record { heard = 0; credits = replicate 64 0 }

-- the credit of an item: none, where it is not kept
abbrev pub credit_of : ℕ → List ℕ → ℕ
credit_of item credits = unwrap_or (slice_get credits item) 0

-- one more credit for the item
abbrev pub with_credit : ℕ → List ℕ → List ℕ
with_credit item credits = slice_set credits item (credit_of item credits + 1)

-- the credits after an event: one more for the item, where its schedule is admissible
abbrev pub credits_after : Event → ℕ → List ℕ → List ℕ
credits_after Admissible item credits = with_credit item credits
credits_after Split item credits = credits
credits_after Closed item credits = credits

abbrev pub after_event : Event → ℕ → Learned → Learned
after_event event item l =
    record { heard = l.heard + 1; credits = credits_after event item l.credits }
