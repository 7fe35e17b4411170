-- Lines that were sound at their moment are sound for the cost that is found in the end, since the incumbent only falls.
use Rattle.std.proofs.Common.{ℕ, suc, ◌⊎◌, inl, inr, List, [], ◌∷◌, slice_get, Option, Some, None, IsSomeAnd}
use Rattle.lam_stock.specs.declared.item.Item.{Item}
use Rattle.lam_job.specs.JobData.{JobData, CaseData}
use Rattle.lam_job.specs.Partial.{Partial, cost_floor}
use Rattle.lam_tree.specs.declared.node.Word.{Word}
use Rattle.lam_tree.specs.declared.node.Word.TheVariants as word
use Rattle.lam_tree.specs.Reading.{Visit}
use Rattle.lam_tree.specs.Tests.{Tests}
use Rattle.lam_tree.specs.ForceBalance.{IsShort, net_cost}
use Rattle.lam_tree.specs.Closings.{Reaches, IsSound, incumbent_with, incumbent_after}
use Rattle.lam_tree.specs.Checks.{LineChecks}
use Rattle.lam_tree.proofs.Settle.{NotAbove, incumbent-falls}

module _ (stock : List Item) (job : JobData) (tests : Tests) where
  -- a later cost is not above an earlier one
  abbrev pub Falls : Option ℕ → Option ℕ → Type 0
  Falls c later = (cost : ℕ) → NotAbove c cost → NotAbove later cost

  sound_later : (c later now : Option ℕ) (p : Partial) (w : Word) → Falls c later → IsSound stock job tests c now p w → IsSound stock job tests later now p w
  sound_later c later now p word.Split falls sound = sound
  sound_later c later now p word.Cost falls sound = falls (cost_floor stock job p) sound
  sound_later c later now p (word.Rule r) falls sound = sound
  sound_later c later now p (word.NetShort k w) falls sound = sound
  sound_later c later now p (word.NetCost k w) falls sound = by (slice_get job.cases k) sound where
    by : (o : Option CaseData)
        → IsSomeAnd o (λ case. IsShort stock job p case w (λ i. tests.capacity i w) ⊎ Reaches (net_cost stock job p case w (λ i. tests.capacity i w)) c)
        → IsSomeAnd o (λ case. IsShort stock job p case w (λ i. tests.capacity i w) ⊎ Reaches (net_cost stock job p case w (λ i. tests.capacity i w)) later)
    by None is = is
    by (Some case) (inl short) = inl short
    by (Some case) (inr dear) = inr (falls (net_cost stock job p case w (λ i. tests.capacity i w)) dear)
  sound_later c later now p (word.Box at) falls sound = sound
  sound_later c later now p (word.Range k) falls sound = sound
  sound_later c later now p (word.Fails at) falls sound = sound
  sound_later c later now p (word.Buckles k) falls sound = sound
  sound_later c later now p (word.Straddles spot) falls sound = sound
  sound_later c later now p word.Admissible falls sound = sound

  -- each line is sound with the incumbent of its moment as the best cost
  abbrev pub AreSoundNow : Option ℕ → List Visit → Type 0
  AreSoundNow c [] = Unit {0}
  AreSoundNow c (v ∷ rest) = IsSound stock job tests c c v.partial v.word × AreSoundNow (incumbent_with stock job c v.partial v.word) rest

  -- so a check of the whole finds nothing
  pub moment_checks : (line : ℕ) (c : Option ℕ) (visits : List Visit) → AreSoundNow c visits
      → LineChecks stock job tests (incumbent_after stock job c visits) line c visits None
  unfolding LineChecks
  moment_checks line c [] now = tt
  moment_checks line c (v ∷ rest) now =
      let next = incumbent_with stock job c v.partial v.word in
      let final = incumbent_after stock job next rest in (
        sound_later c final c v.partial v.word
            (λ cost h. incumbent-falls stock job c (v ∷ rest) cost h) now.0,
        moment_checks (suc line) next rest now.1,
      )
