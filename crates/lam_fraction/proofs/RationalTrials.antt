-- The definitions of fractions tried on numbers, and the solver where a quotient is an unknown.
use Rattle.std.proofs.Common.{◌≡◌, ◌≢◌, refl, pos, negsuc, [], ◌∷◌}
use mathlib.Core.Quot.{sound}
use Rattle.lam_fraction.specs.Fraction.{ℚ, class_of, whole, ◌+ℚ◌, ◌-ℚ◌, ◌*ℚ◌, ◌/ℚ◌, opposite, inverse, fraction, is_at_most, ◌≤ℚ◌, ◌<ℚ◌}
use Rattle.lam_fraction.specs.inside.Quotient.{of_two, on_one, on_two}
use Rattle.lam_fraction.specs.Sums.{total}
use Rattle.lam_fraction.proofs.FractionRing.{product_inverse}
use Rattle.lam_fraction.proofs.Rationals.{quotes, by_ring, from₁}

lowest_terms : fraction (pos 2) (pos 4) ≡ fraction (pos 1) (pos 2)
unfolding fraction whole class_of ◌/ℚ◌ ◌*ℚ◌ inverse on_one on_two of_two
lowest_terms = sound refl

half_and_third : fraction (pos 1) (pos 2) +ℚ fraction (pos 1) (pos 3) ≡ fraction (pos 5) (pos 6)
unfolding fraction whole class_of ◌+ℚ◌ ◌/ℚ◌ ◌*ℚ◌ inverse on_one on_two of_two
half_and_third = sound refl

third_less_half : fraction (pos 1) (pos 3) -ℚ fraction (pos 1) (pos 2) ≡ fraction (negsuc 0) (pos 6)
unfolding fraction whole class_of ◌+ℚ◌ ◌-ℚ◌ ◌/ℚ◌ ◌*ℚ◌ opposite inverse on_one on_two of_two
third_less_half = sound refl

-- the inverse of -2/3 is -3/2, and that of 0 is 0
inverse_below_zero : inverse (fraction (negsuc 1) (pos 3)) ≡ fraction (negsuc 2) (pos 2)
unfolding fraction whole class_of ◌/ℚ◌ ◌*ℚ◌ inverse on_one on_two of_two
inverse_below_zero = sound refl

inverse_of_zero : inverse (whole (pos 0)) ≡ whole (pos 0)
unfolding whole class_of inverse on_one
inverse_of_zero = refl

-- two bounds of the circle's number
below_twenty_two_sevenths : fraction (pos 333) (pos 106) <ℚ fraction (pos 22) (pos 7)
unfolding fraction whole class_of ◌/ℚ◌ ◌*ℚ◌ inverse is_at_most on_one on_two of_two
below_twenty_two_sevenths = record { lt = refl }

less_below_zero : fraction (negsuc 0) (pos 3) ≤ℚ fraction (negsuc 0) (pos 4)
unfolding fraction whole class_of ◌/ℚ◌ ◌*ℚ◌ inverse is_at_most on_one on_two of_two
less_below_zero = record { le = refl }

three_parts : total (fraction (pos 1) (pos 2) ∷ fraction (pos 1) (pos 3) ∷ fraction (pos 1) (pos 6) ∷ []) ≡ whole (pos 1)
unfolding fraction whole class_of ◌+ℚ◌ ◌/ℚ◌ ◌*ℚ◌ inverse on_one on_two of_two
three_parts = sound refl

-- a quotient is an unknown with an equation
quotient_of_squares : (a b : ℚ) → a -ℚ b ≢ whole (pos 0) → (a *ℚ a -ℚ b *ℚ b) /ℚ (a -ℚ b) ≡ a +ℚ b
quotient_of_squares a b h = from₁ (a +ℚ b) (product_inverse (a -ℚ b) h) (by_ring (a ∷ b ∷ inverse (a -ℚ b) ∷ []) (search quotes depth 20) refl)
