-- What is found of a case, and of a tried weight, is not so of none.
use Rattle.std.proofs.Common.{◌≡◌, sym, ◌∙◌, subst, ℕ, List, slice_get, All, Option, Some, None, IfSome, IsSomeAnd, Bool, true, false, refl, IsTrue, ◌<◌, ◌≤◌, arith}
use Rattle.std.specs.Prelude.{IsSome}
use Rattle.std.proofs.lemmas.List.Elements.{All-get_or}
use Rattle.std.proofs.lemmas.Option.{get_or_from_slice_get, slice_get_within}
use Rattle.lam_job.specs.JobData.{CaseData}
use Rattle.lam_support.specs.declared.weight.Weight.{Weight}
use Rattle.lam_tree.specs.TriedWeights.{tried_weights}
use Rattle.lam_tsai.specs.declared.place.Place.{Place}

at_weight : (P : Weight → Type 0) (k : ℕ) (w : Weight) → All P tried_weights → slice_get tried_weights k ≡ Some w → P w
at_weight P k w all is =
    subst P (get_or_from_slice_get tried_weights k w w is) (All-get_or P tried_weights k w (slice_get_within tried_weights k w is) all)

-- where one is found, it is not so that there is none
pub found_is_one : (cases : List CaseData) (P : CaseData → Weight → Type 0) (found : Option (ℕ × Weight)) → IsSome found
    → IfSome found (λ f. IsSomeAnd (slice_get cases f.0) (λ c. P c f.1))
    → IfSome found (λ f. (k : ℕ) × (slice_get tried_weights k ≡ Some f.1))
    → ((k : ℕ) (c : CaseData) → slice_get cases k ≡ Some c → All (λ w. ¬ P c w) tried_weights) → ⊥
found_is_one cases P None some is tried none = let n : false ≡ true = some in cc
found_is_one cases P (Some f) some is tried none = by (slice_get cases f.0) refl is where
  by : (o : Option CaseData) → slice_get cases f.0 ≡ o → IsSomeAnd o (λ c. P c f.1) → ⊥
  by None e so = so
  by (Some c) e so = at_weight (λ w. ¬ P c w) tried.0 f.1 (none f.0 c e) tried.1 so

-- where the box of a case shows a place, it is not so that each shows none
pub found_box_is_one : (cases : List CaseData) (May : CaseData → Type 0) (shown : ℕ → Option Place) (found : Option Place) → IsSome found
    → IfSome found (λ at. IsSomeAnd (slice_get cases at.case) (λ c. May c × (shown at.case ≡ Some at)))
    → ((k : ℕ) (c : CaseData) → slice_get cases k ≡ Some c → May c → shown k ≡ None) → ⊥
found_box_is_one cases May shown None some is none = let n : false ≡ true = some in cc
found_box_is_one cases May shown (Some at) some is none = by (slice_get cases at.case) refl is where
  by : (o : Option CaseData) → slice_get cases at.case ≡ o → IsSomeAnd o (λ c. May c × (shown at.case ≡ Some at)) → ⊥
  by None e so = so
  by (Some c) e so = let n : None ≡ Some at = sym (none at.case c e so.0) ∙ so.1 in cc

pub never_false : (b : Bool) → (b ≡ false → ⊥) → IsTrue b
never_false true other = refl
never_false false other = absurd (other refl)

-- what is below a limit does not reach it
pub not_below : (limit : ℕ) (n : Weight → ℕ) → All (λ w. n w < limit) tried_weights → All (λ w. ¬ (limit ≤ n w)) tried_weights
not_below limit n all = λ k d within. (λ reaches. (let below = all k d within in omega (arith, below, reaches)))
