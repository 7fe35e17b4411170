-- Inequalities in any ordered commutative ring by certificates: b - a is an expression that is plainly not negative.
use Rattle.std.proofs.Common.{◌≡◌, refl, sym, ◌∙◌, ap, subst, subst₂, ℕ, zero, suc, pos, ◌⊎◌, inl, inr, arith}
use Rattle.lam_fraction.proofs.Ring.{Ordered, Field}
use Rattle.lam_fraction.proofs.Expression.{int, ◌⊕◌, ◌⊖◌, ◌⊗◌, minus}
use Rattle.lam_fraction.proofs.Solver.{solve, ◌≐◌, from₁, from₂}

module _ (O : Ordered) where
  open O use {ring, ◌⊴◌, ◌◁◌, either, exclusive, weaken, antisymmetric, transitive, shifted, positive_product, ring.{Carrier, ◌⊞◌, ◌⊡◌, opposite, image}}

  pub reflexive : (a : Carrier) → a ⊴ a
  reflexive a = go (either a a)
    where
      go : (a ⊴ a) ⊎ (a ◁ a) → a ⊴ a
      go (inl h) = h
      go (inr h) = weaken a a h

  -- by cases: a is at most b, or b is below a
  pub decide : {X : Type 0} (a b : Carrier) → (a ⊴ b → X) → (b ◁ a → X) → X
  decide {X} a b f g = go (either a b)
    where
      go : (a ⊴ b) ⊎ (b ◁ a) → X
      go (inl h) = f h
      go (inr h) = g h

  pub irreflexive : {X : Type 0} (a : Carrier) → a ◁ a → X
  irreflexive a h = absurd (exclusive a a (reflexive a) h)

  -- ---- b - a
  pub above : {a b : Carrier} → a ⊴ b → image (pos 0) ⊴ (b ⊞ opposite a)
  above {a} {b} h = subst (λ s. s ⊴ (b ⊞ opposite a)) (ring.sum_opposite a) (shifted a b (opposite a) h)

  pub from_above : {a b : Carrier} → image (pos 0) ⊴ (b ⊞ opposite a) → a ⊴ b
  from_above {a} {b} h = subst₂ (λ s t. s ⊴ t) (solve ring 1 (λ a. int (pos 0) ⊕ a ≐ a) refl a) (solve ring 2 (λ a b. (b ⊖ a) ⊕ a ≐ b) refl a b) (shifted (image (pos 0)) (b ⊞ opposite a) a h)

  pub strictly_above : {a b : Carrier} → a ◁ b → image (pos 0) ◁ (b ⊞ opposite a)
  strictly_above {a} {b} h = decide (b ⊞ opposite a) (image (pos 0))
      (λ k. absurd (exclusive b a (from_above (subst (λ s. image (pos 0) ⊴ s) (solve ring 2 (λ a b. int (pos 0) ⊖ (b ⊖ a) ≐ a ⊖ b) refl a b) (above k))) h)) (λ k. k)

  pub from_strictly_above : {a b : Carrier} → image (pos 0) ◁ (b ⊞ opposite a) → a ◁ b
  from_strictly_above {a} {b} h = decide b a
      (λ k. absurd (exclusive (b ⊞ opposite a) (image (pos 0)) (subst (λ s. (b ⊞ opposite a) ⊴ s) (ring.sum_opposite a) (shifted b a (opposite a) k)) h)) (λ k. k)

  -- ---- chains
  pub below_then_at_most : (a b c : Carrier) → a ◁ b → b ⊴ c → a ◁ c
  below_then_at_most a b c h k = decide c a (λ l. absurd (exclusive b a (transitive b c a k l) h)) (λ l. l)

  pub at_most_then_below : (a b c : Carrier) → a ⊴ b → b ◁ c → a ◁ c
  at_most_then_below a b c h k = decide c a (λ l. absurd (exclusive c b (transitive c a b l h) k)) (λ l. l)

  -- ---- certificates
  pub sum_not_negative : {a b : Carrier} → image (pos 0) ⊴ a → image (pos 0) ⊴ b → image (pos 0) ⊴ (a ⊞ b)
  sum_not_negative {a} {b} h k = transitive (image (pos 0)) a (a ⊞ b) h
      (subst₂ (λ s t. s ⊴ t) (solve ring 1 (λ a. int (pos 0) ⊕ a ≐ a) refl a) (ring.sum_comm b a) (shifted (image (pos 0)) b a k))

  pub sum_positive : {a b : Carrier} → image (pos 0) ◁ a → image (pos 0) ⊴ b → image (pos 0) ◁ (a ⊞ b)
  sum_positive {a} {b} h k = below_then_at_most (image (pos 0)) a (a ⊞ b) h
      (subst₂ (λ s t. s ⊴ t) (solve ring 1 (λ a. int (pos 0) ⊕ a ≐ a) refl a) (ring.sum_comm b a) (shifted (image (pos 0)) b a k))

  pub product_not_negative : {a b : Carrier} → image (pos 0) ⊴ a → image (pos 0) ⊴ b → image (pos 0) ⊴ (a ⊡ b)
  product_not_negative {a} {b} h k = decide a (image (pos 0))
      (λ l. subst (λ s. image (pos 0) ⊴ (s ⊡ b)) (antisymmetric (image (pos 0)) a h l) (zero_times b))
      (λ l. decide b (image (pos 0))
      (λ m. subst (λ s. image (pos 0) ⊴ (a ⊡ s)) (antisymmetric (image (pos 0)) b k m) (times_zero a))
      (λ m. weaken (image (pos 0)) (a ⊡ b) (positive_product a b l m)))
    where
      zero_times : (b : Carrier) → image (pos 0) ⊴ (image (pos 0) ⊡ b)
      zero_times b = subst (λ s. image (pos 0) ⊴ s) (solve ring 1 (λ b. int (pos 0) ≐ int (pos 0) ⊗ b) refl b) (reflexive (image (pos 0)))

      times_zero : (a : Carrier) → image (pos 0) ⊴ (a ⊡ image (pos 0))
      times_zero a = subst (λ s. image (pos 0) ⊴ s) (solve ring 1 (λ a. int (pos 0) ≐ a ⊗ int (pos 0)) refl a) (reflexive (image (pos 0)))

  pub product_positive : {a b : Carrier} → image (pos 0) ◁ a → image (pos 0) ◁ b → image (pos 0) ◁ (a ⊡ b)
  product_positive {a} {b} h k = positive_product a b h k

  pub square : (x : Carrier) → image (pos 0) ⊴ (x ⊡ x)
  square x = decide (image (pos 0)) x (λ h. product_not_negative h h)
      (λ h. let k : image (pos 0) ⊴ (image (pos 0) ⊞ opposite x) = above (weaken x (image (pos 0)) h) in
      subst (λ s. image (pos 0) ⊴ s) (solve ring 1 (λ x. (int (pos 0) ⊖ x) ⊗ (int (pos 0) ⊖ x) ≐ x ⊗ x) refl x) (product_not_negative k k))

  -- a natural number's image
  pub number : (n : ℕ) → image (pos 0) ⊴ image (pos n)
  number zero = reflexive (image (pos 0))
  number (suc n) = subst (λ s. image (pos 0) ⊴ s) (sym (ring.image_sum (pos 1) (pos n)) ∙ ap (λ k. image (pos k)) (omega arith))
      (sum_not_negative (subst (λ s. image (pos 0) ⊴ s) (ring.product_one (image (pos 1))) (square (image (pos 1)))) (number n))

  pub positive_number : image (pos 0) ◁ image (pos 1) → (n : ℕ) → image (pos 0) ◁ image (pos (suc n))
  positive_number h n = subst (λ s. image (pos 0) ◁ s) (sym (ring.image_sum (pos 1) (pos n)) ∙ ap (λ k. image (pos k)) (omega arith)) (sum_positive h (number n))

  -- ---- conclusions
  pub at_most : {a b c : Carrier} → image (pos 0) ⊴ c → b ⊞ opposite a ≡ c → a ⊴ b
  at_most h e = from_above (subst (λ s. image (pos 0) ⊴ s) (sym e) h)

  pub below : {a b c : Carrier} → image (pos 0) ◁ c → b ⊞ opposite a ≡ c → a ◁ b
  below h e = from_strictly_above (subst (λ s. image (pos 0) ◁ s) (sym e) h)

  -- nothing positive, with something that is not negative added, is zero
  no_zero_sum : {X : Type 0} {a b : Carrier} → image (pos 0) ◁ a → image (pos 0) ⊴ b → a ⊞ b ≡ image (pos 0) → X
  no_zero_sum {a = a} {b = b} h k e = irreflexive (image (pos 0)) (subst (λ s. image (pos 0) ◁ s) e (sum_positive h k))

  pub at_most_over : {a b c k : Carrier} → image (pos 0) ◁ k → image (pos 0) ⊴ c → k ⊡ (b ⊞ opposite a) ≡ c → a ⊴ b
  at_most_over {a} {b} {c} {k} p h e = decide a b (λ l. l)
      (λ l. no_zero_sum (positive_product k (a ⊞ opposite b) p (strictly_above l)) h
      (from₁ ring (image (pos 0) ⊞ opposite (image (pos 1))) e (solve ring 4 (λ a b c k. k ⊗ (a ⊖ b) ⊕ c ≐ int (pos 0) ⊕ (int (pos 0) ⊖ int (pos 1)) ⊗ (k ⊗ (b ⊖ a) ⊖ c)) refl a b c k)))

  pub below_over : {a b c k : Carrier} → image (pos 0) ◁ k → image (pos 0) ◁ c → k ⊡ (b ⊞ opposite a) ≡ c → a ◁ b
  below_over {a} {b} {c} {k} p h e = decide b a
      (λ l. no_zero_sum h (product_not_negative (weaken (image (pos 0)) k p) (above l))
      (from₁ ring (image (pos 0) ⊞ opposite (image (pos 1))) e (solve ring 4 (λ a b c k. c ⊕ k ⊗ (a ⊖ b) ≐ int (pos 0) ⊕ (int (pos 0) ⊖ int (pos 1)) ⊗ (k ⊗ (b ⊖ a) ⊖ c)) refl a b c k)))
      (λ l. l)

  -- ---- a factor that is positive
  pub without_factor : {a b : Carrier} (k : Carrier) → image (pos 0) ◁ k → (k ⊡ a) ⊴ (k ⊡ b) → a ⊴ b
  without_factor {a} {b} k p h = at_most_over p (above h) (solve ring 3 (λ a b k. k ⊗ (b ⊖ a) ≐ k ⊗ b ⊖ k ⊗ a) refl a b k)

  pub without_factor_below : {a b : Carrier} (k : Carrier) → image (pos 0) ◁ k → (k ⊡ a) ◁ (k ⊡ b) → a ◁ b
  without_factor_below {a} {b} k p h = below_over p (strictly_above h) (solve ring 3 (λ a b k. k ⊗ (b ⊖ a) ≐ k ⊗ b ⊖ k ⊗ a) refl a b k)

  pub with_factor : {a b : Carrier} (k : Carrier) → image (pos 0) ⊴ k → a ⊴ b → (k ⊡ a) ⊴ (k ⊡ b)
  with_factor {a} {b} k p h = at_most (product_not_negative p (above h)) (solve ring 3 (λ a b k. k ⊗ b ⊖ k ⊗ a ≐ k ⊗ (b ⊖ a)) refl a b k)

  pub same_without_factor : {a b : Carrier} (k : Carrier) → image (pos 0) ◁ k → k ⊡ a ≡ k ⊡ b → a ≡ b
  same_without_factor {a} {b} k p e = antisymmetric a b
      (without_factor k p (subst (λ s. (k ⊡ a) ⊴ s) e (reflexive (k ⊡ a)))) (without_factor k p (subst (λ s. s ⊴ (k ⊡ a)) e (reflexive (k ⊡ a))))

  pub zero_factor : {a : Carrier} (k : Carrier) → image (pos 0) ◁ k → k ⊡ a ≡ image (pos 0) → a ≡ image (pos 0)
  zero_factor k p e = same_without_factor k p (e ∙ solve ring 1 (λ k. int (pos 0) ≐ k ⊗ int (pos 0)) refl k)

  -- ---- what is zero
  pub zero_square : (x : Carrier) → x ⊡ x ≡ image (pos 0) → x ≡ image (pos 0)
  zero_square x e = antisymmetric x (image (pos 0))
      (decide x (image (pos 0)) (λ h. h) (λ h. irreflexive (image (pos 0)) (subst (λ s. image (pos 0) ◁ s) e (positive_product x x h h))))
      (decide (image (pos 0)) x (λ h. h) (λ h.
      let k : image (pos 0) ◁ (image (pos 0) ⊞ opposite x) = strictly_above h in
      irreflexive (image (pos 0)) (subst (λ s. image (pos 0) ◁ s) (solve ring 1 (λ x. (int (pos 0) ⊖ x) ⊗ (int (pos 0) ⊖ x) ≐ x ⊗ x) refl x ∙ e) (positive_product (image (pos 0) ⊞ opposite x) (image (pos 0) ⊞ opposite x) k k))))

  -- a sum of two that are not negative is zero only where the first is
  pub zero_sum_first : {a b : Carrier} → image (pos 0) ⊴ a → image (pos 0) ⊴ b → a ⊞ b ≡ image (pos 0) → a ≡ image (pos 0)
  zero_sum_first {a} {b} h k e = antisymmetric a (image (pos 0)) (decide a (image (pos 0)) (λ l. l) (λ l. no_zero_sum l k e)) h

  pub zero_sum_second : {a b : Carrier} → image (pos 0) ⊴ a → image (pos 0) ⊴ b → a ⊞ b ≡ image (pos 0) → b ≡ image (pos 0)
  zero_sum_second {a} {b} h k e = zero_sum_first k h (ring.sum_comm b a ∙ e)

  -- ---- what lies between -a and a, times what lies between -b and b
  not_negative_bound : {a x : Carrier} → opposite a ⊴ x → x ⊴ a → image (pos 0) ⊴ a
  not_negative_bound {a} {x} h k = decide (image (pos 0)) a (λ l. l)
      (λ l. irreflexive (image (pos 0)) (transported l (below_then_at_most (image (pos 0)) x a (below_then_at_most (image (pos 0)) (opposite a) x (flipped l) h) k)))
    where
      flipped : a ◁ image (pos 0) → image (pos 0) ◁ opposite a
      flipped l = subst (λ s. image (pos 0) ◁ s) (solve ring 1 (λ a. int (pos 0) ⊖ a ≐ minus a) refl a) (strictly_above l)

      transported : a ◁ image (pos 0) → image (pos 0) ◁ a → image (pos 0) ◁ image (pos 0)
      transported l m = below_then_at_most (image (pos 0)) a (image (pos 0)) m (weaken a (image (pos 0)) l)

  product_at_most : {a b x y : Carrier} → opposite a ⊴ x → x ⊴ a → opposite b ⊴ y → y ⊴ b → (x ⊡ y) ⊴ (a ⊡ b)
  product_at_most {a} {b} {x} {y} h k l m = decide (image (pos 0)) x
      (λ n. at_most (sum_not_negative (product_not_negative (not_negative_bound l m) (above k)) (product_not_negative n (above m)))
      (solve ring 4 (λ a b x y. a ⊗ b ⊖ x ⊗ y ≐ b ⊗ (a ⊖ x) ⊕ x ⊗ (b ⊖ y)) refl a b x y))
      (λ n. at_most (sum_not_negative (product_not_negative (not_negative_bound l m) (above h)) (product_not_negative (above (weaken x (image (pos 0)) n)) (above l)))
      (solve ring 4 (λ a b x y. a ⊗ b ⊖ x ⊗ y ≐ b ⊗ (x ⊖ minus a) ⊕ (int (pos 0) ⊖ x) ⊗ (y ⊖ minus b)) refl a b x y))

  pub product_within : {a b x y : Carrier} → opposite a ⊴ x → x ⊴ a → opposite b ⊴ y → y ⊴ b → (opposite (a ⊡ b) ⊴ (x ⊡ y)) × ((x ⊡ y) ⊴ (a ⊡ b))
  product_within {a} {b} {x} {y} h k l m = (
    at_most (above (product_at_most
        (at_most (above k) (solve ring 2 (λ a x. minus x ⊖ minus a ≐ a ⊖ x) refl a x))
        (at_most (above h) (solve ring 2 (λ a x. a ⊖ minus x ≐ x ⊖ minus a) refl a x)) l m))
        (solve ring 4 (λ a b x y. x ⊗ y ⊖ minus (a ⊗ b) ≐ a ⊗ b ⊖ minus x ⊗ y) refl a b x y),
    product_at_most h k l m,
  )

  -- ---- the inequality of Cauchy and Schwarz
  pub cauchy_schwarz₂ : (a b x y : Carrier) → ((a ⊡ x ⊞ b ⊡ y) ⊡ (a ⊡ x ⊞ b ⊡ y)) ⊴ ((a ⊡ a ⊞ b ⊡ b) ⊡ (x ⊡ x ⊞ y ⊡ y))
  cauchy_schwarz₂ a b x y = at_most (square (a ⊡ y ⊞ opposite (b ⊡ x)))
      (solve ring 4 (λ a b x y. (a ⊗ a ⊕ b ⊗ b) ⊗ (x ⊗ x ⊕ y ⊗ y) ⊖ (a ⊗ x ⊕ b ⊗ y) ⊗ (a ⊗ x ⊕ b ⊗ y) ≐ (a ⊗ y ⊖ b ⊗ x) ⊗ (a ⊗ y ⊖ b ⊗ x)) refl a b x y)

  pub cauchy_schwarz₃ : (a b c x y z : Carrier)
      → ((a ⊡ x ⊞ b ⊡ y ⊞ c ⊡ z) ⊡ (a ⊡ x ⊞ b ⊡ y ⊞ c ⊡ z)) ⊴ ((a ⊡ a ⊞ b ⊡ b ⊞ c ⊡ c) ⊡ (x ⊡ x ⊞ y ⊡ y ⊞ z ⊡ z))
  cauchy_schwarz₃ a b c x y z =
      at_most (sum_not_negative (sum_not_negative (square (a ⊡ y ⊞ opposite (b ⊡ x))) (square (a ⊡ z ⊞ opposite (c ⊡ x)))) (square (b ⊡ z ⊞ opposite (c ⊡ y))))
      (solve ring 6 (λ a b c x y z. (a ⊗ a ⊕ b ⊗ b ⊕ c ⊗ c) ⊗ (x ⊗ x ⊕ y ⊗ y ⊕ z ⊗ z) ⊖ (a ⊗ x ⊕ b ⊗ y ⊕ c ⊗ z) ⊗ (a ⊗ x ⊕ b ⊗ y ⊕ c ⊗ z)
      ≐ (a ⊗ y ⊖ b ⊗ x) ⊗ (a ⊗ y ⊖ b ⊗ x) ⊕ (a ⊗ z ⊖ c ⊗ x) ⊗ (a ⊗ z ⊖ c ⊗ x) ⊕ (b ⊗ z ⊖ c ⊗ y) ⊗ (b ⊗ z ⊖ c ⊗ y)) refl a b c x y z)

module _ (F : Field) where
  open F use {ring, inverse, product_inverse, ring.{Carrier, ◌⊞◌, ◌⊡◌, opposite, image}}

  -- a factor other than zero may be left out
  pub cancel : {x y : Carrier} (a : Carrier) → ¬ (a ≡ image (pos 0)) → a ⊡ x ≡ a ⊡ y → x ≡ y
  cancel {x} {y} a n e = from₂ ring (inverse a) e (y ⊞ opposite x) (product_inverse a n)
      (solve ring 4 (λ a i x y. x ≐ y ⊕ i ⊗ (a ⊗ x ⊖ a ⊗ y) ⊕ (y ⊖ x) ⊗ (a ⊗ i ⊖ int (pos 1))) refl a (inverse a) x y)

  -- an equation of degree one has one solution and only one
  pub solution_is : (a b : Carrier) → ¬ (a ≡ image (pos 0)) → a ⊡ (inverse a ⊡ b) ≡ b
  solution_is a b n = from₁ ring b (product_inverse a n) (solve ring 3 (λ a i b. a ⊗ (i ⊗ b) ≐ b ⊕ b ⊗ (a ⊗ i ⊖ int (pos 1))) refl a (inverse a) b)

  pub solution_only : (a b x : Carrier) → ¬ (a ≡ image (pos 0)) → a ⊡ x ≡ b → x ≡ inverse a ⊡ b
  solution_only a b x n e = cancel a n (e ∙ sym (solution_is a b n))
