-- Sums over the members of a list, in any ring and in any ordered one.
use Rattle.std.proofs.Common.{◌≡◌, refl, sym, ◌∙◌, ap, ap₂, pos, List, [], ◌∷◌, ◌++◌, map, reverse, length, arith}
use Rattle.std.specs.List.{AllByRecursion}
use Rattle.std.proofs.lemmas.List.{reverse-append}
use Rattle.lam_fraction.specs.Sums.{sum_by}
use Rattle.lam_fraction.proofs.Ring.{Ring, Ordered}
use Rattle.lam_fraction.proofs.Expression.{int, ◌⊕◌, ◌⊖◌, ◌⊗◌, minus}
use Rattle.lam_fraction.proofs.Solver.{solve, ◌≐◌}
use Rattle.lam_fraction.proofs.Order as Order

module _ (R : Ring) where
  open R use {Carrier, ◌⊞◌, ◌⊡◌, opposite, image}

  abbrev pub sum_in : {A : Type 0} → (A → Carrier) → List A → Carrier
  sum_in f xs = sum_by (image (pos 0)) ◌⊞◌ f xs

  -- ---- the list
  pub sum-append : {A : Type 0} (f : A → Carrier) (xs ys : List A) → sum_in f (xs ++ ys) ≡ sum_in f xs ⊞ sum_in f ys
  sum-append f [] ys = solve R 1 (λ s. s ≐ int (pos 0) ⊕ s) refl (sum_in f ys)
  sum-append f (x ∷ xs) ys = ap (λ s. f x ⊞ s) (sum-append f xs ys) ∙ sym (R.sum_assoc (f x) (sum_in f xs) (sum_in f ys))

  pub sum-single : {A : Type 0} (f : A → Carrier) (x : A) → sum_in f (x ∷ []) ≡ f x
  sum-single f x = R.sum_zero (f x)

  pub sum-map : {A B : Type 0} (f : B → Carrier) (g : A → B) (xs : List A) → sum_in f (map g xs) ≡ sum_in (λ x. f (g x)) xs
  sum-map f g [] = refl
  sum-map f g (x ∷ xs) = ap (λ s. f (g x) ⊞ s) (sum-map f g xs)

  pub sum-reverse : {A : Type 0} (f : A → Carrier) (xs : List A) → sum_in f (reverse xs) ≡ sum_in f xs
  sum-reverse f [] = refl
  sum-reverse f (x ∷ xs) =
      ap (sum_in f) (reverse-append (x ∷ []) xs) ∙ sum-append f (reverse xs) (x ∷ []) ∙ ap₂ ◌⊞◌ (sum-reverse f xs) (sum-single f x)
      ∙ R.sum_comm (sum_in f xs) (f x)

  -- ---- what is summed
  pub sum-same : {A : Type 0} (f g : A → Carrier) (xs : List A) → AllByRecursion (λ x. f x ≡ g x) xs → sum_in f xs ≡ sum_in g xs
  sum-same f g [] h = refl
  sum-same f g (x ∷ xs) h = ap₂ ◌⊞◌ h.0 (sum-same f g xs h.1)

  pub sum-zero : {A : Type 0} (xs : List A) → sum_in (λ x. image (pos 0)) xs ≡ image (pos 0)
  sum-zero [] = refl
  sum-zero (x ∷ xs) = ap (λ s. image (pos 0) ⊞ s) (sum-zero xs) ∙ R.sum_zero (image (pos 0))

  pub sum-constant : {A : Type 0} (c : Carrier) (xs : List A) → sum_in (λ x. c) xs ≡ image (pos (length xs)) ⊡ c
  sum-constant c [] = solve R 1 (λ c. int (pos 0) ≐ int (pos 0) ⊗ c) refl c
  sum-constant c (x ∷ xs) =
      ap (λ s. c ⊞ s) (sum-constant c xs) ∙ solve R 2 (λ n c. c ⊕ n ⊗ c ≐ (int (pos 1) ⊕ n) ⊗ c) refl (image (pos (length xs))) c
      ∙ ap (λ n. n ⊡ c) (sym (R.image_sum (pos 1) (pos (length xs))) ∙ ap (λ n. image (pos n)) (omega arith))

  pub sum-plus : {A : Type 0} (f g : A → Carrier) (xs : List A) → sum_in (λ x. f x ⊞ g x) xs ≡ sum_in f xs ⊞ sum_in g xs
  sum-plus f g [] = sym (R.sum_zero (image (pos 0)))
  sum-plus f g (x ∷ xs) =
      ap (λ s. (f x ⊞ g x) ⊞ s) (sum-plus f g xs) ∙ solve R 4 (λ a b s t. (a ⊕ b) ⊕ (s ⊕ t) ≐ (a ⊕ s) ⊕ (b ⊕ t)) refl (f x) (g x) (sum_in f xs) (sum_in g xs)

  pub sum-opposite : {A : Type 0} (f : A → Carrier) (xs : List A) → sum_in (λ x. opposite (f x)) xs ≡ opposite (sum_in f xs)
  sum-opposite f [] = solve R 0 (int (pos 0) ≐ minus (int (pos 0))) refl
  sum-opposite f (x ∷ xs) = ap (λ s. opposite (f x) ⊞ s) (sum-opposite f xs) ∙ solve R 2 (λ a s. minus a ⊕ minus s ≐ minus (a ⊕ s)) refl (f x) (sum_in f xs)

  pub sum-minus : {A : Type 0} (f g : A → Carrier) (xs : List A) → sum_in (λ x. f x ⊞ opposite (g x)) xs ≡ sum_in f xs ⊞ opposite (sum_in g xs)
  sum-minus f g xs = sum-plus f (λ x. opposite (g x)) xs ∙ ap (λ s. sum_in f xs ⊞ s) (sum-opposite g xs)

  pub sum-times_left : {A : Type 0} (k : Carrier) (f : A → Carrier) (xs : List A) → sum_in (λ x. k ⊡ f x) xs ≡ k ⊡ sum_in f xs
  sum-times_left k f [] = solve R 1 (λ k. int (pos 0) ≐ k ⊗ int (pos 0)) refl k
  sum-times_left k f (x ∷ xs) = ap (λ s. (k ⊡ f x) ⊞ s) (sum-times_left k f xs) ∙ sym (R.distributes k (f x) (sum_in f xs))

  pub sum-times_right : {A : Type 0} (k : Carrier) (f : A → Carrier) (xs : List A) → sum_in (λ x. f x ⊡ k) xs ≡ sum_in f xs ⊡ k
  sum-times_right k f [] = solve R 1 (λ k. int (pos 0) ≐ int (pos 0) ⊗ k) refl k
  sum-times_right k f (x ∷ xs) = ap (λ s. (f x ⊡ k) ⊞ s) (sum-times_right k f xs) ∙ solve R 3 (λ k a s. a ⊗ k ⊕ s ⊗ k ≐ (a ⊕ s) ⊗ k) refl k (f x) (sum_in f xs)

  -- a sum of sums, in either order
  pub sum-exchange : {A B : Type 0} (f : A → B → Carrier) (xs : List A) (ys : List B)
      → sum_in (λ x. sum_in (λ y. f x y) ys) xs ≡ sum_in (λ y. sum_in (λ x. f x y) xs) ys
  sum-exchange f [] ys = sym (sum-zero ys)
  sum-exchange f (x ∷ xs) ys = ap (λ s. sum_in (f x) ys ⊞ s) (sum-exchange f xs ys) ∙ sym (sum-plus (f x) (λ y. sum_in (λ z. f z y) xs) ys)

module _ (O : Ordered) where
  open O use {ring, ◌⊴◌, ◌◁◌, ring.{Carrier, ◌⊞◌, ◌⊡◌, opposite, image}}

  -- ---- signs and order
  pub sum_not_negative : {A : Type 0} (f : A → Carrier) (xs : List A) → AllByRecursion (λ x. image (pos 0) ⊴ f x) xs → image (pos 0) ⊴ sum_in ring f xs
  sum_not_negative f [] h = Order.reflexive O (image (pos 0))
  sum_not_negative f (x ∷ xs) h = Order.sum_not_negative O h.0 (sum_not_negative f xs h.1)

  pub sum_positive : {A : Type 0} (f : A → Carrier) (x : A) (xs : List A) → image (pos 0) ◁ f x → AllByRecursion (λ x. image (pos 0) ⊴ f x) xs → image (pos 0) ◁ sum_in ring f (x ∷ xs)
  sum_positive f x xs h k = Order.sum_positive O h (sum_not_negative f xs k)

  pub sum_monotone : {A : Type 0} (f g : A → Carrier) (xs : List A) → AllByRecursion (λ x. f x ⊴ g x) xs → sum_in ring f xs ⊴ sum_in ring g xs
  sum_monotone f g [] h = Order.reflexive O (image (pos 0))
  sum_monotone f g (x ∷ xs) h = Order.at_most O (Order.sum_not_negative O (Order.above O h.0) (Order.above O (sum_monotone f g xs h.1)))
      (solve ring 4 (λ a b s t. (b ⊕ t) ⊖ (a ⊕ s) ≐ (b ⊖ a) ⊕ (t ⊖ s)) refl (f x) (g x) (sum_in ring f xs) (sum_in ring g xs))

  -- a sum of what is not negative is zero only where each part is
  pub sum_zero_each : {A : Type 0} (f : A → Carrier) (xs : List A) → AllByRecursion (λ x. image (pos 0) ⊴ f x) xs → sum_in ring f xs ≡ image (pos 0) → AllByRecursion (λ x. f x ≡ image (pos 0)) xs
  sum_zero_each f [] h e = tt
  sum_zero_each f (x ∷ xs) h e =
      (Order.zero_sum_first O h.0 (sum_not_negative f xs h.1) e, sum_zero_each f xs h.1 (Order.zero_sum_second O h.0 (sum_not_negative f xs h.1) e))
