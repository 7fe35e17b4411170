-- A table that is filled entry by entry.
use Rattle.std.proofs.Common.{◌≡◌, ◌≢◌, refl, sym, ◌∙◌, ap, subst, ℕ, zero, suc, ◌+◌, ◌<◌, List, [], ◌∷◌, length, set, slice_get, Some, inl, inr, arith}
use Rattle.std.proofs.lemmas.Bool.{cases_lt}

module _ {X : Type 0} where
  pub written : (xs : List X) (k : ℕ) (y : X) → k < length xs → slice_get (set xs k y) k ≡ Some y
  written [] k y h = absurd (omega (arith, h))
  written (x ∷ xs) zero y h = refl
  written (x ∷ xs) (suc k) y h = written xs k y (omega (arith, h))

  pub kept : (xs : List X) (k j : ℕ) (y : X) → j ≢ k → slice_get (set xs k y) j ≡ slice_get xs j
  kept [] k j y h = refl
  kept (x ∷ xs) zero zero y h = absurd (h refl)
  kept (x ∷ xs) zero (suc j) y h = refl
  kept (x ∷ xs) (suc k) zero y h = refl
  kept (x ∷ xs) (suc k) (suc j) y h = kept xs k j y (λ e. h (ap suc e))

  -- what an entry has to be, of all so far and of the one that is written
  pub filled : (So : ℕ → X → Type 0) (xs : List X) (k : ℕ) (y : X) → k < length xs
      → ((j : ℕ) (x : X) → j < k → So j x → slice_get xs j ≡ Some x)
      → ((x : X) → So k x → x ≡ y)
      → (j : ℕ) (x : X) → j < k + 1 → So j x → slice_get (set xs k y) j ≡ Some x
  filled So xs k y within below here j x less is =
      elim (cases_lt j k) [
        | inl before ↦ (kept xs k j y (λ e. let n : k < k = subst (λ i. i < k) e before in omega (arith, n)) ∙ below j x before is)
        | inr last ↦ (let e : k ≡ j = omega (arith, less, last) in
            subst (λ i. slice_get (set xs k y) i ≡ Some x) e (written xs k y within ∙ ap Some (sym (here x (subst (λ i. So i x) (sym e) is)))))
      ]
