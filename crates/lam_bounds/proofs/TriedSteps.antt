-- The tables of the tried weights, weight by weight.
use Rattle.std.proofs.Common.{◌≡◌, ◌≢◌, sym, ◌∙◌, ap, subst, ℕ, ◌+◌, ◌<◌, ◌≤◌, List, length, get_or, set, slice_get, Some, arith}
use Rattle.std.proofs.Math.ListN.{length-set}
use Rattle.std.proofs.lemmas.Bool.{cases_lt}
use Rattle.std.proofs.lemmas.List.{get_or-set_other, get_or-set_same}
use Rattle.std.proofs.lemmas.Option.{get_or_from_slice_get, slice_get-get_or, slice_get_within}
use mathlib.Core.Logic.{⊎_elim}
use Rattle.lam_stock.specs.declared.item.Item.{Item}
use Rattle.lam_job.specs.JobData.{JobData}
use Rattle.lam_support.specs.declared.weight.Weight.{Weight}
use Rattle.lam_tree.specs.TriedWeights.{tried_weights}
use Rattle.lam_bounds.specs.declared.bounds.Tried.{Tried}
use Rattle.lam_bounds.specs.inside.Tables.{IsTried}

-- what is so of the members below a place, and of a new member there, is so of all below the next place
pub set-more : {X : Type 0} (P : ℕ → X → Type 0) (xs : List X) (k : ℕ) (v : X) → ((j : ℕ) (x : X) → j < k → slice_get xs j ≡ Some x → P j x) → P k v
    → (j : ℕ) (x : X) → j < k + 1 → slice_get (set xs k v) j ≡ Some x → P j x
set-more {X} P xs k v old new j x below e =
    let within = slice_get_within (set xs k v) j x e in
    let long : length (set xs k v) ≡ length xs = length-set xs k v in
    let here = get_or_from_slice_get (set xs k v) j x x e in
    ⊎_elim (λ (h : j < k).
    let ne : j ≢ k = λ same. omega (arith, h, same) in
    old j x h (slice_get-get_or xs j x (omega (arith, within, long)) ∙ ap Some (sym (get_or-set_other xs k j v x ne) ∙ here)))
    (λ (h : k ≤ j).
    let same : j ≡ k = omega (arith, h, below) in
    let is : v ≡ x = sym (get_or-set_same xs k v x (subst (λ m. m < length xs) same (omega (arith, within, long)))) ∙ subst (λ m. get_or (set xs k v) m x ≡ x) same here in
    subst (P j) is (subst (λ m. P m v) (sym same) new))
    (cases_lt j k)

pub length-more : {X : Type 0} (xs : List X) (k : ℕ) (v : X) (n : ℕ) → length xs ≡ n → length (set xs k v) ≡ n
length-more xs k v n long = length-set xs k v ∙ long

-- the member at a place is the one that a look-up gives
pub same-member : {X : Type 0} (xs ys : List X) (k : ℕ) (v x : X) → xs ≡ ys → v ≡ get_or xs k v → slice_get ys k ≡ Some x → v ≡ x
same-member xs ys k v x same is e = is ∙ ap (λ l. get_or l k v) same ∙ get_or_from_slice_get ys k x v e

module _ (stock : List Item) (job : JobData) where
  abbrev pub IsTriedAt : ℕ → Tried → Type 0
  IsTriedAt j t = (w : Weight) → slice_get tried_weights j ≡ Some w → IsTried stock job w t

  pub tried-new : (weights : List Weight) (k : ℕ) (v : Weight) (new : Tried) → weights ≡ tried_weights → v ≡ get_or weights k v → IsTried stock job v new → IsTriedAt k new
  tried-new weights k v new same is tried = λ w e. subst (λ (u : Weight). IsTried stock job u new) (same-member weights tried_weights k v w same is e) tried

  pub tried-more : (tried : List Tried) (k : ℕ) (new : Tried) → ((j : ℕ) (w : Weight) (t : Tried) → j < k → slice_get tried_weights j ≡ Some w → slice_get tried j ≡ Some t → IsTried stock job w t) → IsTriedAt k new
      → (j : ℕ) (w : Weight) (t : Tried) → j < k + 1 → slice_get tried_weights j ≡ Some w → slice_get (set tried k new) j ≡ Some t → IsTried stock job w t
  tried-more tried k new old is = λ j w t below at e.
      set-more IsTriedAt tried k new (λ i u h f v g. old i v u h g f) is j t below e w at
