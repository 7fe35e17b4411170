-- The powers of a direction's cosine and sine: the fractions from which they come, and their sizes.
use Rattle.std.proofs.Common.{◌≡◌, refl, sym, ◌∙◌, subst, ◌*◌, ◌≤◌, ℤ, pos, ◌*ℤ◌, arith}
use Rattle.std.specs.Prelude.{unsigned_abs}
use Rattle.std.proofs.Math.Nat.{mul-le-mul}
use Rattle.std.proofs.lemmas.Int.{unsigned_abs-mul}
use Rattle.lam_fraction.specs.Fraction.{ℚ, whole, ◌+ℚ◌, ◌-ℚ◌, ◌*ℚ◌, opposite, fraction, ◌/ℚ◌}
use Rattle.lam_fraction.proofs.FractionPairs.{fraction-product}
use Rattle.lam_fraction.proofs.Expression.{int, ◌⊕◌, ◌⊖◌, ◌⊗◌, minus}
use Rattle.lam_fraction.proofs.Solver.{◌≐◌}
use Rattle.lam_fraction.proofs.Rationals.{solve, from₁, at_most, number, square, ◌+ₙ◌, ◌*ₙ◌}
use Rattle.lam_direction.specs.Circle.{CirclePoint, IsDirection}
use Rattle.lam_stock.specs.PlyLaw.{cosine, sine}
use Rattle.lam_fraction.proofs.numbers.Steps.{Parts}
use Rattle.lam_stock.proofs.Angles.{IsAngle, size_positive}

-- ---- whole numbers

-- the size of a product of two numbers, neither of which exceeds z
pub power-size : (a b z : ℤ) → unsigned_abs a ≤ unsigned_abs z → unsigned_abs b ≤ unsigned_abs z → unsigned_abs (a *ℤ b) ≤ unsigned_abs (z *ℤ z)
power-size a b z h k =
    let product : unsigned_abs a * unsigned_abs b ≤ unsigned_abs z * unsigned_abs z = mul-le-mul h k in
    omega (arith, unsigned_abs-mul a b, unsigned_abs-mul z z, product)

-- ---- fractions
module _ {d : CirclePoint} (h : IsDirection d) where
  pub cosine-square : fraction (d.p *ℤ d.p) (d.h *ℤ d.h) ≡ cosine d *ℚ cosine d
  unfolding cosine
  cosine-square = sym (fraction-product d.p d.h d.p d.h (size_positive h) (size_positive h))

  pub sine-square : fraction (d.q *ℤ d.q) (d.h *ℤ d.h) ≡ sine d *ℚ sine d
  unfolding sine
  sine-square = sym (fraction-product d.q d.h d.q d.h (size_positive h) (size_positive h))

  pub both-product : fraction (d.q *ℤ d.p) (d.h *ℤ d.h) ≡ sine d *ℚ cosine d
  unfolding sine cosine
  both-product = sym (fraction-product d.q d.h d.p d.h (size_positive h) (size_positive h))

-- ---- sizes
module _ (c s : ℚ) (angle : IsAngle c s) where
  pub fourth-size : Parts 4 4 ((c *ℚ c) *ℚ (c *ℚ c))
  unfolding ◌-ℚ◌ ◌/ℚ◌
  fourth-size = (
    at_most (number 4 +ₙ number 4 *ₙ (square c *ₙ square c)) (solve 1 (λ c. int (pos 4) ⊗ (c ⊗ c ⊗ (c ⊗ c)) ⊖ minus (int (pos 4)) ≐ int (pos 4) ⊕ int (pos 4) ⊗ (c ⊗ c ⊗ (c ⊗ c))) refl c),
    at_most (number 4 *ₙ (square s *ₙ (number 1 +ₙ square c)))
        (from₁ (opposite (whole (pos 4) *ℚ (c *ℚ c +ℚ whole (pos 1)))) angle
        (solve 2 (λ c s.
        let four = int (pos 4) in
        let one = int (pos 1) in
        four ⊖ four ⊗ (c ⊗ c ⊗ (c ⊗ c)) ≐ four ⊗ (s ⊗ s ⊗ (one ⊕ c ⊗ c)) ⊕ minus (four ⊗ (c ⊗ c ⊕ one)) ⊗ ((c ⊗ c ⊕ s ⊗ s) ⊖ one)) refl c s)),
  )

  pub squares-size : Parts 4 1 ((s *ℚ s) *ℚ (c *ℚ c))
  unfolding ◌-ℚ◌ ◌/ℚ◌
  squares-size = (
    at_most (number 1 +ₙ number 4 *ₙ (square s *ₙ square c)) (solve 2 (λ c s. int (pos 4) ⊗ (s ⊗ s ⊗ (c ⊗ c)) ⊖ minus (int (pos 1)) ≐ int (pos 1) ⊕ int (pos 4) ⊗ (s ⊗ s ⊗ (c ⊗ c))) refl c s),
    at_most (square (c *ℚ c -ℚ s *ℚ s))
        (from₁ (opposite (c *ℚ c +ℚ s *ℚ s +ℚ whole (pos 1))) angle
        (solve 2 (λ c s.
        let one = int (pos 1) in
        one ⊖ int (pos 4) ⊗ (s ⊗ s ⊗ (c ⊗ c)) ≐ (c ⊗ c ⊖ s ⊗ s) ⊗ (c ⊗ c ⊖ s ⊗ s) ⊕ minus (c ⊗ c ⊕ s ⊗ s ⊕ one) ⊗ ((c ⊗ c ⊕ s ⊗ s) ⊖ one)) refl c s)),
  )

  pub third-size : Parts 4 2 ((s *ℚ c) *ℚ (c *ℚ c))
  unfolding ◌-ℚ◌ ◌/ℚ◌
  third-size = (
    at_most (number 2 *ₙ square s +ₙ number 2 *ₙ (square c *ₙ square (c +ℚ s)))
        (from₁ (opposite (whole (pos 2) *ℚ (c *ℚ c +ℚ whole (pos 1)))) angle
        (solve 2 (λ c s.
        let one = int (pos 1) in
        let two = int (pos 2) in
        int (pos 4) ⊗ (s ⊗ c ⊗ (c ⊗ c)) ⊖ minus two
        ≐ two ⊗ (s ⊗ s) ⊕ two ⊗ (c ⊗ c ⊗ ((c ⊕ s) ⊗ (c ⊕ s))) ⊕ minus (two ⊗ (c ⊗ c ⊕ one)) ⊗ ((c ⊗ c ⊕ s ⊗ s) ⊖ one)) refl c s)),
    at_most (number 2 *ₙ square s +ₙ number 2 *ₙ (square c *ₙ square (c -ℚ s)))
        (from₁ (opposite (whole (pos 2) *ℚ (c *ℚ c +ℚ whole (pos 1)))) angle
        (solve 2 (λ c s.
        let one = int (pos 1) in
        let two = int (pos 2) in
        two ⊖ int (pos 4) ⊗ (s ⊗ c ⊗ (c ⊗ c))
        ≐ two ⊗ (s ⊗ s) ⊕ two ⊗ (c ⊗ c ⊗ ((c ⊖ s) ⊗ (c ⊖ s))) ⊕ minus (two ⊗ (c ⊗ c ⊕ one)) ⊗ ((c ⊗ c ⊕ s ⊗ s) ⊖ one)) refl c s)),
  )

swapped : (c s : ℚ) → IsAngle c s → IsAngle s c
unfolding ◌-ℚ◌ ◌/ℚ◌
swapped c s angle = solve 2 (λ c s. s ⊗ s ⊕ c ⊗ c ≐ c ⊗ c ⊕ s ⊗ s) refl c s ∙ angle

pub sine-fourth-size : (c s : ℚ) → IsAngle c s → Parts 4 4 ((s *ℚ s) *ℚ (s *ℚ s))
sine-fourth-size c s angle = fourth-size s c (swapped c s angle)

pub sine-third-size : (c s : ℚ) → IsAngle c s → Parts 4 2 ((s *ℚ c) *ℚ (s *ℚ s))
unfolding ◌-ℚ◌ ◌/ℚ◌
sine-third-size c s angle = subst (Parts 4 2) (solve 2 (λ c s. c ⊗ s ⊗ (s ⊗ s) ≐ s ⊗ c ⊗ (s ⊗ s)) refl c s) (third-size s c (swapped c s angle))
