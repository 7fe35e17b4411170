-- A list that is walked by number: what is found so far, and what is still to be found.
use Rattle.std.proofs.Common.{◌≡◌, sym, ◌∙◌, ap, subst, ℕ, zero, suc, ◌+◌, ◌≤◌, true, false, List, [], ◌∷◌, drop, length, slice_get, Some, None, add-one}
use Rattle.std.proofs.Math.ListN.{drop_of_length-le}
use Rattle.std.proofs.lemmas.Option.{same_Some}
use Rattle.lam_judge.specs.declared.finding.Finding.{Finding}
use Rattle.lam_judge.specs.declared.finding.Finding.TheVariants.{Clear}
use Rattle.lam_judge.specs.inside.Findings.{and_then, is_clear, is_settled, Settles}
use Rattle.lam_judge.proofs.Found.{then-clear, then-then, settled-then}
use Rattle.lam_judge.proofs.Settled.{clear-all, settles-first}

pub drop-at : {X : Type 0} (xs : List X) (k : ℕ) (x : X) → slice_get xs k ≡ Some x → drop k xs ≡ x ∷ drop (k + 1) xs
drop-at xs k x e = later xs k x e ∙ ap (λ n. x ∷ drop n xs) (sym (add-one k)) where
  later : {X : Type 0} (xs : List X) (k : ℕ) (x : X) → slice_get xs k ≡ Some x → drop k xs ≡ x ∷ drop (suc k) xs
  later [] k x e = absurd (let n : None ≡ Some x = e in cc)
  later (y ∷ xs) zero x e = ap (λ z. z ∷ xs) (same_Some y x e)
  later (y ∷ xs) (suc k) x e = later xs k x e

module _ {X T : Type 0} (of : ℕ → List X → Finding T) (here : ℕ → X → Finding T) (none : (k : ℕ) → of k [] ≡ Clear)
    (one : (k : ℕ) (x : X) (rest : List X) → of k (x ∷ rest) ≡ and_then (here k x) (of (suc k) rest)) (xs : List X) where
  next : (k : ℕ) (x : X) → slice_get xs k ≡ Some x → of k (drop k xs) ≡ and_then (here k x) (of (k + 1) (drop (k + 1) xs))
  next k x e = ap (of k) (drop-at xs k x e) ∙ one k x (drop (k + 1) xs) ∙ ap (λ n. and_then (here k x) (of n (drop (k + 1) xs))) (sym (add-one k))

  -- one more
  pub more : (start so_far new : Finding T) (k : ℕ) (x : X) (this : Finding T) → slice_get xs k ≡ Some x → this ≡ here k x → and_then so_far (of k (drop k xs)) ≡ start → new ≡ and_then so_far this
      → and_then new (of (k + 1) (drop (k + 1) xs)) ≡ start
  more start so_far new k x this e is before made =
      ap (λ f. and_then f (of (k + 1) (drop (k + 1) xs))) made
      ∙ then-then so_far this (of (k + 1) (drop (k + 1) xs))
      ∙ ap (λ f. and_then so_far (and_then f (of (k + 1) (drop (k + 1) xs)))) is
      ∙ ap (and_then so_far) (sym (next k x e))
      ∙ before

  -- one more, and nothing later matters
  pub settled : (start so_far new : Finding T) (k : ℕ) (x : X) (this : Finding T) → slice_get xs k ≡ Some x → this ≡ here k x → and_then so_far (of k (drop k xs)) ≡ start → new ≡ and_then so_far this
      → is_settled new ≡ true → new ≡ start
  settled start so_far new k x this e is before made t = settled-then new (of (k + 1) (drop (k + 1) xs)) t ∙ more start so_far new k x this e is before made

  -- all of them
  pub all : (start so_far : Finding T) (k : ℕ) → length xs ≤ k → and_then so_far (of k (drop k xs)) ≡ start → so_far ≡ start
  all start so_far k past before = sym (then-clear so_far) ∙ ap (and_then so_far) (sym (ap (of k) (drop_of_length-le xs past) ∙ none k)) ∙ before

  -- ---- by what settles

  -- one more that meets what is asked
  pub passed : (start : Finding T) (k : ℕ) (x : X) (this : Finding T) → slice_get xs k ≡ Some x → Settles this (here k x) → is_clear this ≡ true → of k (drop k xs) ≡ start
      → of (k + 1) (drop (k + 1) xs) ≡ start
  passed start k x this e is t before = ap (λ f. and_then f (of (k + 1) (drop (k + 1) xs))) (clear-all this (here k x) is t) ∙ sym (next k x e) ∙ before

  -- one that does not
  pub stopped : (start : Finding T) (k : ℕ) (x : X) (this : Finding T) → slice_get xs k ≡ Some x → Settles this (here k x) → is_clear this ≡ false → of k (drop k xs) ≡ start → Settles this start
  stopped start k x this e is f before = subst (Settles this) (sym (next k x e) ∙ before) (settles-first this (here k x) (of (k + 1) (drop (k + 1) xs)) is f)

  -- all of them meet what is asked
  pub all-passed : (start : Finding T) (k : ℕ) → length xs ≤ k → of k (drop k xs) ≡ start → Clear ≡ start
  all-passed start k past before = sym (ap (of k) (drop_of_length-le xs past) ∙ none k) ∙ before
