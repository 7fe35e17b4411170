-- The mean squares of strains: they are not negative, bound each strain, and are 0 only where all strains are.
use Rattle.std.proofs.Common.{◌≡◌, refl, sym, pos}
use Rattle.lam_fraction.specs.Fraction.{ℚ, whole, fraction, inverse, ◌*ℚ◌, ◌≤ℚ◌, ◌-ℚ◌, ◌/ℚ◌}
use Rattle.lam_fraction.proofs.Expression.{int, ◌⊕◌, ◌⊖◌, ◌⊗◌}
use Rattle.lam_fraction.proofs.Solver.{◌≐◌}
use Rattle.lam_fraction.proofs.Rationals.{solve, from₁, above, square, number, positive_number, weaken, at_most, antisym, transitive, zero_square, inverse_positive, at_most_over, ◌+ₙ◌, ◌*ₙ◌}
use Rattle.lam_fraction.proofs.FractionBounds.{times-inverse}
use Rattle.lam_stock.specs.PlyLaw.{OffAxis}
use Rattle.lam_stock.specs.Energy.{strain_squares}
use Rattle.lam_stock.proofs.EnergyTransformed.{same_off_axis}
use Rattle.lam_wall.specs.Energy.{mean_squares}
use Rattle.lam_fraction.proofs.WholeFractions.{twice_half}
use Rattle.lam_wall.proofs.OffAxes.{none}

abbrev half : ℚ
half = fraction (pos 1) (pos 2)

abbrev third : ℚ
third = inverse (whole (pos 3))

two_halves : whole (pos 2) *ℚ half ≡ whole (pos 1)
two_halves = sym (twice_half (pos 1))

three_thirds : whole (pos 3) *ℚ third ≡ whole (pos 1)
three_thirds = times-inverse (positive_number 2)

half_above : whole (pos 0) ≤ℚ half
unfolding ◌-ℚ◌ ◌/ℚ◌
half_above = at_most_over (positive_number 1) (number 1)
    (from₁ (whole (pos 1)) two_halves (solve 1 (λ h. int (pos 2) ⊗ (h ⊖ int (pos 0)) ≐ int (pos 1) ⊕ int (pos 1) ⊗ (int (pos 2) ⊗ h ⊖ int (pos 1))) refl half))

third_above : whole (pos 0) ≤ℚ third
third_above = weaken (inverse_positive (positive_number 2))

-- ---- the squares of one strain

pub squares_above : (e : OffAxis) → whole (pos 0) ≤ℚ strain_squares e
squares_above e = square e.x +ₙ square e.y +ₙ half_above *ₙ square e.s

pub x_at_most_squares : (e : OffAxis) → e.x *ℚ e.x ≤ℚ strain_squares e
unfolding ◌-ℚ◌ ◌/ℚ◌
x_at_most_squares e = at_most (square e.y +ₙ half_above *ₙ square e.s)
    (solve 4 (λ x y s h. (x ⊗ x ⊕ y ⊗ y ⊕ h ⊗ (s ⊗ s)) ⊖ x ⊗ x ≐ y ⊗ y ⊕ h ⊗ (s ⊗ s)) refl e.x e.y e.s half)

pub y_at_most_squares : (e : OffAxis) → e.y *ℚ e.y ≤ℚ strain_squares e
unfolding ◌-ℚ◌ ◌/ℚ◌
y_at_most_squares e = at_most (square e.x +ₙ half_above *ₙ square e.s)
    (solve 4 (λ x y s h. (x ⊗ x ⊕ y ⊗ y ⊕ h ⊗ (s ⊗ s)) ⊖ y ⊗ y ≐ x ⊗ x ⊕ h ⊗ (s ⊗ s)) refl e.x e.y e.s half)

pub s_at_most_squares : (e : OffAxis) → e.s *ℚ e.s ≤ℚ whole (pos 2) *ℚ strain_squares e
unfolding ◌-ℚ◌ ◌/ℚ◌
s_at_most_squares e = at_most (number 2 *ₙ (square e.x +ₙ square e.y))
    (from₁ (e.s *ℚ e.s) two_halves
    (solve 4 (λ x y s h. int (pos 2) ⊗ (x ⊗ x ⊕ y ⊗ y ⊕ h ⊗ (s ⊗ s)) ⊖ s ⊗ s ≐ int (pos 2) ⊗ (x ⊗ x ⊕ y ⊗ y) ⊕ s ⊗ s ⊗ (int (pos 2) ⊗ h ⊖ int (pos 1))) refl e.x e.y e.s half))

-- ---- through the wall

pub mean_squares_above : (e k : OffAxis) → whole (pos 0) ≤ℚ mean_squares e k
unfolding ◌-ℚ◌ ◌/ℚ◌
mean_squares_above e k = squares_above e +ₙ squares_above k *ₙ third_above

pub strain_at_most : (e k : OffAxis) → strain_squares e ≤ℚ mean_squares e k
unfolding ◌-ℚ◌ ◌/ℚ◌
strain_at_most e k = at_most (squares_above k *ₙ third_above) (solve 3 (λ n m i. (n ⊕ m ⊗ i) ⊖ n ≐ m ⊗ i) refl (strain_squares e) (strain_squares k) third)

pub bending_at_most : (e k : OffAxis) → strain_squares k ≤ℚ whole (pos 3) *ℚ mean_squares e k
unfolding ◌-ℚ◌ ◌/ℚ◌
bending_at_most e k = at_most (number 3 *ₙ squares_above e)
    (from₁ (strain_squares k) three_thirds
    (solve 3 (λ n m i. int (pos 3) ⊗ (n ⊕ m ⊗ i) ⊖ m ≐ int (pos 3) ⊗ n ⊕ m ⊗ (int (pos 3) ⊗ i ⊖ int (pos 1))) refl (strain_squares e) (strain_squares k) third))

-- ---- what is zero

not_above_zero : {x n : ℚ} → x *ℚ x ≤ℚ n → n ≤ℚ whole (pos 0) → x ≡ whole (pos 0)
not_above_zero {x} h l = zero_square x (antisym (transitive h l) (square x))

times_zero : (k : ℚ) {n : ℚ} → whole (pos 0) ≤ℚ k → n ≤ℚ whole (pos 0) → k *ℚ n ≤ℚ whole (pos 0)
unfolding ◌-ℚ◌ ◌/ℚ◌
times_zero k {n} h l = at_most (h *ₙ above l) (solve 2 (λ k n. int (pos 0) ⊖ k ⊗ n ≐ k ⊗ (int (pos 0) ⊖ n)) refl k n)

pub no_squares : (e : OffAxis) → strain_squares e ≤ℚ whole (pos 0) → e ≡ none
no_squares e l =
    same_off_axis (not_above_zero (x_at_most_squares e) l) (not_above_zero (y_at_most_squares e) l)
    (not_above_zero (s_at_most_squares e) (times_zero (whole (pos 2)) (number 2) l))

pub no_strain : (e k : OffAxis) → mean_squares e k ≤ℚ whole (pos 0) → e ≡ none
no_strain e k l = no_squares e (transitive (strain_at_most e k) l)

pub no_bending : (e k : OffAxis) → mean_squares e k ≤ℚ whole (pos 0) → k ≡ none
no_bending e k l = no_squares k (transitive (bending_at_most e k) (times_zero (whole (pos 3)) (number 3) l))
