-- Whole numbers of a wall, and as fractions.
use Rattle.std.proofs.Common.{◌≡◌, ◌∙◌, ap, ap₂, ℤ, pos, ◌+ℤ◌, ◌*ℤ◌, ◌<ℤ◌, arith}
use Rattle.std.proofs.lemmas.Int.{ints}
use Rattle.lam_fraction.specs.inside.WholeNumbers.{product_positive}
use Rattle.lam_fraction.specs.Fraction.{whole, ◌+ℚ◌, ◌*ℚ◌}
use Rattle.lam_fraction.proofs.FractionRing.{whole-sum, whole-product}

-- ---- what is above 0
pub twice_square : (h : ℤ) → pos 0 <ℤ h → pos 0 <ℤ (pos 2 *ℤ (h *ℤ h))
twice_square h above = product_positive (pos 2) (h *ℤ h) (omega (arith, ints)) (product_positive h h above above)

pub three_cubes : (h : ℤ) → pos 0 <ℤ h → pos 0 <ℤ (pos 3 *ℤ (h *ℤ (h *ℤ h)))
three_cubes h above = product_positive (pos 3) (h *ℤ (h *ℤ h)) (omega (arith, ints)) (product_positive h (h *ℤ h) above (product_positive h h above above))

-- ---- sums and products
pub whole-times_sum : (t a b : ℤ) → whole (t *ℤ (a +ℤ b)) ≡ whole t *ℚ (whole a +ℚ whole b)
whole-times_sum t a b = whole-product t (a +ℤ b) ∙ ap (λ s. whole t *ℚ s) (whole-sum a b)

-- the sum of the squares and the product
pub whole-squares : (a b : ℤ) → whole (a *ℤ a +ℤ a *ℤ b +ℤ b *ℤ b) ≡ whole a *ℚ whole a +ℚ whole a *ℚ whole b +ℚ whole b *ℚ whole b
whole-squares a b =
    whole-sum (a *ℤ a +ℤ a *ℤ b) (b *ℤ b)
    ∙ ap₂ ◌+ℚ◌ (whole-sum (a *ℤ a) (a *ℤ b) ∙ ap₂ ◌+ℚ◌ (whole-product a a) (whole-product a b)) (whole-product b b)

pub whole-times_squares : (t a b : ℤ) → whole (t *ℤ (a *ℤ a +ℤ a *ℤ b +ℤ b *ℤ b))
    ≡ whole t *ℚ (whole a *ℚ whole a +ℚ whole a *ℚ whole b +ℚ whole b *ℚ whole b)
whole-times_squares t a b = whole-product t (a *ℤ a +ℤ a *ℤ b +ℤ b *ℤ b) ∙ ap (λ s. whole t *ℚ s) (whole-squares a b)

pub whole-twice_and_one : (a b : ℤ) → whole (pos 2 *ℤ a +ℤ b) ≡ whole (pos 2) *ℚ whole a +ℚ whole b
whole-twice_and_one a b = whole-sum (pos 2 *ℤ a) b ∙ ap (λ s. s +ℚ whole b) (whole-product (pos 2) a)

pub whole-one_and_twice : (a b : ℤ) → whole (a +ℤ pos 2 *ℤ b) ≡ whole a +ℚ whole (pos 2) *ℚ whole b
whole-one_and_twice a b = whole-sum a (pos 2 *ℤ b) ∙ ap (λ s. whole a +ℚ s) (whole-product (pos 2) b)
