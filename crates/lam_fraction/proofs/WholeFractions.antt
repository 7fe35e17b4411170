-- Whole numbers as fractions: their order, opposites, differences, sums and products, and fractions of them.
use Rattle.std.proofs.Common.{◌≡◌, refl, sym, ◌∙◌, ap, ap₂, subst, subst₂, ℕ, ◌+◌, ◌*◌, ℤ, pos, ◌+ℤ◌, ◌-ℤ◌, ◌*ℤ◌, neg_ℤ, ◌≤ℤ◌, ◌<ℤ◌, unsigned_abs, [], ◌∷◌, arith}
use Rattle.std.proofs.lemmas.Int.{ints}
use Rattle.lam_fraction.specs.inside.WholeNumbers.{neg-times}
use Rattle.lam_fraction.specs.Fraction.{ℚ, whole, fraction, ◌+ℚ◌, ◌-ℚ◌, ◌*ℚ◌, ◌/ℚ◌, opposite, inverse, ◌≤ℚ◌, ◌<ℚ◌}
use Rattle.lam_fraction.proofs.FractionPairs.{whole-le, whole-lt}
use Rattle.lam_fraction.proofs.FractionRing.{whole-sum, whole-product}
use Rattle.lam_fraction.proofs.Expression.{int, ◌⊕◌, ◌⊖◌, ◌⊗◌, minus}
use Rattle.lam_fraction.proofs.Solver.{◌≐◌}
use Rattle.lam_fraction.proofs.Rationals.{quotes, by_ring, solve, from₁, from₂, not_zero, inverse_positive, same_without_factor, ◌*ₚ◌}
use Rattle.lam_fraction.proofs.FractionBounds.{whole_positive, times-inverse, fraction-times}

-- ---- the order
pub whole_at_most : {m n : ℤ} → m ≤ℤ n → whole m ≤ℚ whole n
whole_at_most {m} {n} h = (whole-le m n).1 h

pub whole_below : {m n : ℤ} → m <ℤ n → whole m <ℚ whole n
whole_below {m} {n} h = (whole-lt m n).1 h

pub whole_not_zero : (k : ℤ) → pos 0 <ℤ k → ¬ (whole k ≡ whole (pos 0))
whole_not_zero k h = not_zero (whole_positive h)

-- ---- opposites and differences
pub whole-opposite : (n : ℤ) → whole (neg_ℤ n) ≡ opposite (whole n)
unfolding ◌-ℚ◌
whole-opposite n =
    let none : whole (neg_ℤ n) +ℚ whole n ≡ whole (pos 0) = sym (whole-sum (neg_ℤ n) n) ∙ ap whole (omega (arith, ints)) in
    from₁ (whole (pos 1)) none (solve 2 (λ a b. a ≐ minus b ⊕ int (pos 1) ⊗ (a ⊕ b ⊖ int (pos 0))) refl (whole (neg_ℤ n)) (whole n))

pub whole-difference : (m n : ℤ) → whole (m -ℤ n) ≡ whole m -ℚ whole n
unfolding ◌-ℚ◌
whole-difference m n = whole-sum m (neg_ℤ n) ∙ ap (λ z. whole m +ℚ z) (whole-opposite n)

-- a whole number lies within its size
pub size_below : (n : ℤ) → opposite (whole (pos (unsigned_abs n))) ≤ℚ whole n
size_below n = subst (λ z. z ≤ℚ whole n) (whole-opposite (pos (unsigned_abs n))) (whole_at_most (omega (arith, ints)))

pub size_above : (n : ℤ) → whole n ≤ℚ whole (pos (unsigned_abs n))
size_above n = whole_at_most (omega (arith, ints))

-- ---- sums and products
pub whole-product₃ : (a b c : ℤ) → whole (a *ℤ (b *ℤ c)) ≡ whole a *ℚ (whole b *ℚ whole c)
whole-product₃ a b c = whole-product a (b *ℤ c) ∙ ap (λ s. whole a *ℚ s) (whole-product b c)

pub whole-product₄ : (a b c d : ℤ) → whole (a *ℤ (b *ℤ (c *ℤ d))) ≡ whole a *ℚ (whole b *ℚ (whole c *ℚ whole d))
whole-product₄ a b c d = whole-product a (b *ℤ (c *ℤ d)) ∙ ap (λ s. whole a *ℚ s) (whole-product₃ b c d)

-- of naturals
pub pos-product : (m n : ℕ) → pos m *ℤ pos n ≡ pos (m * n)
pos-product m n = omega (arith, ints)

pub neg-product : (m n : ℕ) → neg_ℤ (pos m) *ℤ pos n ≡ neg_ℤ (pos (m * n))
neg-product m n = neg-times (pos m) (pos n) ∙ ap neg_ℤ (pos-product m n)

pub natural-sum : (m n : ℕ) → whole (pos (m + n)) ≡ whole (pos m) +ℚ whole (pos n)
natural-sum m n = ap whole together ∙ whole-sum (pos m) (pos n)
  where
    together : pos (m + n) ≡ pos m +ℤ pos n
    together = omega (arith, ints)

pub natural-product : (m n : ℕ) → whole (pos (m * n)) ≡ whole (pos m) *ℚ whole (pos n)
natural-product m n = ap whole (sym (pos-product m n)) ∙ whole-product (pos m) (pos n)

-- ---- the same of numbers that are known to be those of x and y
pub at_most_images : {m n : ℤ} {x y : ℚ} → m ≤ℤ n → whole m ≡ x → whole n ≡ y → x ≤ℚ y
at_most_images h p q = subst₂ (λ s t. s ≤ℚ t) p q (whole_at_most h)

pub sum_image : (m n : ℤ) {x y : ℚ} → whole m ≡ x → whole n ≡ y → whole (m +ℤ n) ≡ x +ℚ y
sum_image m n p q = whole-sum m n ∙ ap₂ (λ s t. s +ℚ t) p q

pub difference_image : (m n : ℤ) {x y : ℚ} → whole m ≡ x → whole n ≡ y → whole (m -ℤ n) ≡ x -ℚ y
difference_image m n p q = whole-difference m n ∙ ap₂ (λ s t. s -ℚ t) p q

pub product_image : (m n : ℤ) {x y : ℚ} → whole m ≡ x → whole n ≡ y → whole (m *ℤ n) ≡ x *ℚ y
product_image m n p q = whole-product m n ∙ ap₂ (λ s t. s *ℚ t) p q

pub fraction_image : (n d : ℤ) {x : ℚ} → whole n ≡ x → fraction n d ≡ x *ℚ inverse (whole d)
unfolding fraction ◌/ℚ◌
fraction_image n d p = ap (λ x. x *ℚ inverse (whole d)) p

-- ---- fractions
pub fraction_positive : (n d : ℤ) → pos 0 <ℤ n → pos 0 <ℤ d → whole (pos 0) <ℚ fraction n d
unfolding fraction ◌/ℚ◌
fraction_positive n d p q = whole_positive p *ₚ inverse_positive (whole_positive q)

-- a whole number is twice its half
pub twice_half : (z : ℤ) → whole z ≡ whole (pos 2) *ℚ fraction z (pos 2)
twice_half z = sym (fraction-times z (pos 2) (omega (arith, ints))) ∙ solve 1 (λ f. f ⊗ int (pos 2) ≐ int (pos 2) ⊗ f) refl (fraction z (pos 2))

pub inverse-whole : (a : ℤ) → pos 0 <ℤ a → whole a *ℚ inverse (whole a) ≡ whole (pos 1)
inverse-whole a h = times-inverse (whole_positive h)

pub inverse-product : (a b : ℤ) → pos 0 <ℤ a → pos 0 <ℤ b → pos 0 <ℤ (a *ℤ b) → inverse (whole (a *ℤ b)) ≡ inverse (whole a) *ℚ inverse (whole b)
inverse-product a b p q pq =
    same_without_factor (whole (a *ℤ b)) (whole_positive pq)
    (inverse-whole (a *ℤ b) pq ∙ sym (ap (λ z. z *ℚ (inverse (whole a) *ℚ inverse (whole b))) (whole-product a b)
    ∙ both_one (whole a) (whole b) (inverse (whole a)) (inverse (whole b)) (inverse-whole a p) (inverse-whole b q)))
  where
    both_one : (a b i j : ℚ) → a *ℚ i ≡ whole (pos 1) → b *ℚ j ≡ whole (pos 1) → (a *ℚ b) *ℚ (i *ℚ j) ≡ whole (pos 1)
    both_one a b i j e f = from₂ (b *ℚ j) e (whole (pos 1)) f (by_ring (a ∷ b ∷ i ∷ j ∷ []) (search quotes depth 30) refl)

-- ---- differences that are 0
pub same_is_zero : {x y z : ℚ} → x ≡ z → y ≡ z → x -ℚ y ≡ whole (pos 0)
unfolding ◌-ℚ◌
same_is_zero {x} {y} {z} p q = ap₂ ◌-ℚ◌ p q ∙ solve 1 (λ z. z ⊖ z ≐ int (pos 0)) refl z

pub same_of_zero : {x y : ℚ} → x -ℚ y ≡ whole (pos 0) → x ≡ y
unfolding ◌-ℚ◌
same_of_zero {x} {y} e = from₁ (whole (pos 1)) e (solve 2 (λ x y. x ≐ y ⊕ int (pos 1) ⊗ (x ⊖ y ⊖ int (pos 0))) refl x y)
