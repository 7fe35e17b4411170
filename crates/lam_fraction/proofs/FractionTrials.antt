-- What the solver can do at the fractions: each fact here is checked, and shows a form to write.
use Rattle.std.proofs.Common.{◌≡◌, refl, pos, [], ◌∷◌}
use Rattle.lam_fraction.specs.Fraction.{ℚ, whole, ◌+ℚ◌, ◌-ℚ◌, ◌*ℚ◌, ◌/ℚ◌, inverse, opposite, ◌≤ℚ◌, ◌<ℚ◌}
use Rattle.lam_fraction.proofs.Expression.{◌⊕◌, ◌⊖◌, ◌⊗◌}
use Rattle.lam_fraction.proofs.Solver.{◌≐◌}
use Rattle.lam_fraction.proofs.Rationals.{by_ring, solve, quotes, from₁, from₃, at_most, at_most_over, below, strictly_above, square, number, inverse_positive, ◌+ₙ◌, ◌*ₙ◌, ◌*ₚ◌}

square_of_a_sum : (a b : ℚ) → (a +ℚ b) *ℚ (a +ℚ b) ≡ a *ℚ a +ℚ whole (pos 2) *ℚ a *ℚ b +ℚ b *ℚ b
square_of_a_sum a b = by_ring (a ∷ b ∷ []) (search quotes depth 20) refl

-- the inverse of a divisor is one more unknown
difference_of_quotients : (a b c : ℚ) → a /ℚ c -ℚ b /ℚ c ≡ (a -ℚ b) /ℚ c
difference_of_quotients a b c = by_ring (a ∷ b ∷ inverse c ∷ []) (search quotes depth 20) refl

-- a formula with a difference wants it unfolded
difference_of_squares : (a b : ℚ) → (a -ℚ b) *ℚ (a +ℚ b) ≡ a *ℚ a -ℚ b *ℚ b
unfolding ◌-ℚ◌
difference_of_squares = solve 2 (λ a b. (a ⊖ b) ⊗ (a ⊕ b) ≐ a ⊗ a ⊖ b ⊗ b) refl

-- a strain turned by the cosine and the sine c and s, and back
turned_back : (c s ex ey g : ℚ) → c *ℚ c +ℚ s *ℚ s ≡ whole (pos 1)
    → c *ℚ c *ℚ (c *ℚ c *ℚ ex +ℚ s *ℚ s *ℚ ey +ℚ c *ℚ s *ℚ g) +ℚ s *ℚ s *ℚ (s *ℚ s *ℚ ex +ℚ c *ℚ c *ℚ ey -ℚ c *ℚ s *ℚ g) -ℚ c *ℚ s *ℚ (whole (pos 2) *ℚ c *ℚ s *ℚ (ey -ℚ ex) +ℚ (c *ℚ c -ℚ s *ℚ s) *ℚ g)
    ≡ ex
turned_back c s ex ey g e = from₁ ((c *ℚ c +ℚ s *ℚ s +ℚ whole (pos 1)) *ℚ ex) e (by_ring (c ∷ s ∷ ex ∷ ey ∷ g ∷ []) (search quotes depth 40 fits 9000) refl)

-- a system of two equations whose determinant has the inverse i
first_unknown : (a b c d x y u v i : ℚ) → a *ℚ x +ℚ b *ℚ y ≡ u → c *ℚ x +ℚ d *ℚ y ≡ v → (a *ℚ d -ℚ b *ℚ c) *ℚ i ≡ whole (pos 1) → x ≡ (d *ℚ u -ℚ b *ℚ v) *ℚ i
first_unknown a b c d x y u v i e f k = from₃ (d *ℚ i) e (opposite (b *ℚ i)) f (opposite x) k (by_ring (a ∷ b ∷ c ∷ d ∷ x ∷ y ∷ u ∷ v ∷ i ∷ []) (search quotes depth 30) refl)

square_of_a_mean : (x y : ℚ) → (whole (pos 2) *ℚ ((x +ℚ y) *ℚ (x +ℚ y))) ≤ℚ (whole (pos 4) *ℚ (x *ℚ x +ℚ y *ℚ y))
square_of_a_mean x y = at_most (number 2 *ₙ square (x -ℚ y)) (by_ring (x ∷ y ∷ []) (search quotes depth 20) refl)

-- a quotient by a positive number keeps the order
quotients_keep_order : (a b c : ℚ) → whole (pos 0) <ℚ c → a <ℚ b → (a /ℚ c) <ℚ (b /ℚ c)
quotients_keep_order a b c h k = below (strictly_above k *ₚ inverse_positive h) (by_ring (a ∷ b ∷ inverse c ∷ []) (search quotes depth 20) refl)

form_not_negative : (a b c x y : ℚ) → whole (pos 0) <ℚ a → whole (pos 0) ≤ℚ (a *ℚ c -ℚ b *ℚ b) → whole (pos 0) ≤ℚ (a *ℚ x *ℚ x +ℚ whole (pos 2) *ℚ b *ℚ x *ℚ y +ℚ c *ℚ y *ℚ y)
form_not_negative a b c x y h k = at_most_over {k = a} h (square (a *ℚ x +ℚ b *ℚ y) +ₙ k *ₙ square y) (by_ring (a ∷ b ∷ c ∷ x ∷ y ∷ []) (search quotes depth 30) refl)
