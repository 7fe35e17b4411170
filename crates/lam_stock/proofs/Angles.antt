-- Cosines and sines of directions and of their mirror images.
use Rattle.std.proofs.Common.{◌≡◌, refl, sym, subst₂, ◌∙◌, ap, ap₂, pos, ◌*ℤ◌, ◌<ℤ◌, arith}
use Rattle.std.proofs.lemmas.Int.{ints}
use Rattle.lam_fraction.specs.Fraction.{ℚ, whole, ◌+ℚ◌, ◌*ℚ◌, opposite, inverse, fraction, ◌<ℚ◌, ◌-ℚ◌, ◌/ℚ◌}
use Rattle.lam_fraction.proofs.FractionPairs.{whole-lt}
use Rattle.lam_fraction.proofs.FractionRing.{whole-sum, whole-product}
use Rattle.lam_fraction.proofs.Expression.{int, ◌⊕◌, ◌⊗◌, minus}
use Rattle.lam_fraction.proofs.Solver.{◌≐◌}
use Rattle.lam_fraction.proofs.Rationals.{solve, same_without_factor, ◌*ₚ◌}
use Rattle.lam_fraction.proofs.FractionBounds.{fraction-times}
use Rattle.lam_fraction.proofs.WholeFractions.{whole-opposite}
use Rattle.lam_direction.specs.Circle.{CirclePoint, IsDirection}
use Rattle.lam_stock.specs.PlyLaw.{two, cosine, sine, Side, Plus, Minus, side_point}

pub two_halves : fraction (pos 1) (pos 2) *ℚ two ≡ whole (pos 1)
two_halves = fraction-times (pos 1) (pos 2) (omega (arith, ints))

-- ---- the mirror image

pub cosine-mirrored : (d : CirclePoint) → cosine (side_point Minus d) ≡ cosine d
unfolding cosine
cosine-mirrored d = refl

pub sine-mirrored : (d : CirclePoint) → sine (side_point Minus d) ≡ opposite (sine d)
unfolding sine fraction ◌-ℚ◌ ◌/ℚ◌
sine-mirrored d = ap (λ w. w *ℚ inverse (whole d.h)) (whole-opposite d.q) ∙ solve 2 (λ w i. minus w ⊗ i ≐ minus (w ⊗ i)) refl (whole d.q) (inverse (whole d.h))

-- ---- the circle

-- a cosine and a sine of one angle: the squares add up to 1
abbrev pub IsAngle : ℚ → ℚ → Type 0
IsAngle c s = c *ℚ c +ℚ s *ℚ s ≡ whole (pos 1)

pub mirrored-angle : (c s : ℚ) → IsAngle c s → IsAngle c (opposite s)
unfolding ◌-ℚ◌ ◌/ℚ◌
mirrored-angle c s h = solve 2 (λ c s. c ⊗ c ⊕ minus s ⊗ minus s ≐ c ⊗ c ⊕ s ⊗ s) refl c s ∙ h

pub size_positive : {d : CirclePoint} → IsDirection d → pos 0 <ℤ d.h
size_positive h = omega (arith, ints, h.least_size)

pub direction-angle : {d : CirclePoint} → IsDirection d → IsAngle (cosine d) (sine d)
unfolding cosine sine ◌-ℚ◌ ◌/ℚ◌
direction-angle {d} h =
    let positive : whole (pos 0) <ℚ whole d.h = (whole-lt (pos 0) d.h).1 (size_positive h) in
    same_without_factor (whole d.h *ℚ whole d.h) (positive *ₚ positive)
    (solve 3 (λ c s h. h ⊗ h ⊗ (c ⊗ c ⊕ s ⊗ s) ≐ c ⊗ h ⊗ (c ⊗ h) ⊕ s ⊗ h ⊗ (s ⊗ h)) refl (fraction d.p d.h) (fraction d.q d.h) (whole d.h)
    ∙ ap₂ (λ p q. p *ℚ p +ℚ q *ℚ q) (fraction-times d.p d.h (size_positive h)) (fraction-times d.q d.h (size_positive h))
    ∙ sym (ap₂ (λ x y. x +ℚ y) (whole-product d.p d.p) (whole-product d.q d.q)) ∙ sym (whole-sum (d.p *ℤ d.p) (d.q *ℤ d.q))
    ∙ ap whole h.on_circle ∙ whole-product d.h d.h ∙ solve 1 (λ h. h ⊗ h ≐ h ⊗ h ⊗ int (pos 1)) refl (whole d.h))

-- a side of an item has an angle too
pub side-angle : {d : CirclePoint} (side : Side) → IsDirection d → IsAngle (cosine (side_point side d)) (sine (side_point side d))
side-angle Plus h = direction-angle h
side-angle {d} Minus h = subst₂ IsAngle (sym (cosine-mirrored d)) (sym (sine-mirrored d)) (mirrored-angle (cosine d) (sine d) (direction-angle h))
