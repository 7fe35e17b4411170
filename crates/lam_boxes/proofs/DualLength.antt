-- How small strains are by the length of what they leave: where floor times the squares of the strains is at most the work of
-- what they leave, floor squared times the squares is at most the square of its length. The shear counts twice in that
-- length, since the shear strain counts half.
use Rattle.std.proofs.Common.{refl, sym, pos, arith}
use Rattle.std.proofs.lemmas.Int.{ints}
use Rattle.lam_fraction.specs.Fraction.{ℚ, whole, fraction, ◌+ℚ◌, ◌-ℚ◌, ◌*ℚ◌, ◌≤ℚ◌}
use Rattle.lam_fraction.proofs.Expression.{int, ◌⊕◌, ◌⊖◌, ◌⊗◌}
use Rattle.lam_fraction.proofs.Solver.{◌≐◌}
use Rattle.lam_fraction.proofs.Rationals.{solve, from₁, above, at_most, number, square, weaken, transitive, ◌+ₙ◌, ◌*ₙ◌}
use Rattle.lam_fraction.proofs.WholeFractions.{fraction_positive, twice_half}
use Rattle.lam_stock.specs.PlyLaw.{OffAxis}
use Rattle.lam_stock.specs.Energy.{strain_squares, twice_energy}

-- the square of the length of what is left
abbrev pub length_square : OffAxis → ℚ
length_square r = r.x *ℚ r.x +ℚ r.y *ℚ r.y +ℚ r.s *ℚ r.s *ℚ whole (pos 2)

abbrev half : ℚ
half = fraction (pos 1) (pos 2)

half-above : whole (pos 0) ≤ℚ half
half-above = weaken (fraction_positive (pos 1) (pos 2) (omega (arith, ints)) (omega (arith, ints)))

module _ (f w : ℚ) (f-above : whole (pos 0) ≤ℚ f) (y r : OffAxis) (work : f *ℚ strain_squares y ≤ℚ w *ℚ twice_energy r y) where
  -- a difference of strains and of what is left
  abbrev gap : ℚ → ℚ → ℚ
  gap a b = f *ℚ a -ℚ w *ℚ b

  pub squares-small : f *ℚ f *ℚ strain_squares y ≤ℚ w *ℚ w *ℚ length_square r
  unfolding ◌-ℚ◌
  squares-small = at_most
      ((square (gap y.x r.x) +ₙ square (gap y.y r.y) +ₙ half-above *ₙ square (gap y.s (whole (pos 2) *ℚ r.s))) +ₙ (number 2 *ₙ f-above) *ₙ above work)
      (from₁ (whole (pos 2) *ℚ f *ℚ w *ℚ y.s *ℚ r.s -ℚ whole (pos 2) *ℚ w *ℚ w *ℚ r.s *ℚ r.s) (sym (twice_half (pos 1)))
      (solve 9 (λ f w h a b c p q r.
      w ⊗ w ⊗ (p ⊗ p ⊕ q ⊗ q ⊕ r ⊗ r ⊗ int (pos 2)) ⊖ f ⊗ f ⊗ (a ⊗ a ⊕ b ⊗ b ⊕ h ⊗ (c ⊗ c))
      ≐ ((f ⊗ a ⊖ w ⊗ p) ⊗ (f ⊗ a ⊖ w ⊗ p) ⊕ (f ⊗ b ⊖ w ⊗ q) ⊗ (f ⊗ b ⊖ w ⊗ q)
      ⊕ h ⊗ ((f ⊗ c ⊖ w ⊗ (int (pos 2) ⊗ r)) ⊗ (f ⊗ c ⊖ w ⊗ (int (pos 2) ⊗ r)))
      ⊕ int (pos 2) ⊗ f ⊗ (w ⊗ (p ⊗ a ⊕ q ⊗ b ⊕ r ⊗ c) ⊖ f ⊗ (a ⊗ a ⊕ b ⊗ b ⊕ h ⊗ (c ⊗ c))))
      ⊕ (int (pos 2) ⊗ f ⊗ w ⊗ c ⊗ r ⊖ int (pos 2) ⊗ w ⊗ w ⊗ r ⊗ r) ⊗ (int (pos 2) ⊗ h ⊖ int (pos 1))) refl
      f w half y.x y.y y.s r.x r.y r.s))

  -- strain by strain; that of the shear with a factor of two thirds
  pub x-small : f *ℚ y.x *ℚ (f *ℚ y.x) ≤ℚ w *ℚ w *ℚ length_square r
  unfolding ◌-ℚ◌
  x-small = transitive
      (at_most (square (f *ℚ y.y) +ₙ half-above *ₙ square (f *ℚ y.s))
      (solve 5 (λ f h a b c. f ⊗ f ⊗ (a ⊗ a ⊕ b ⊗ b ⊕ h ⊗ (c ⊗ c)) ⊖ f ⊗ a ⊗ (f ⊗ a) ≐ f ⊗ b ⊗ (f ⊗ b) ⊕ h ⊗ (f ⊗ c ⊗ (f ⊗ c))) refl f half y.x y.y y.s))
      squares-small

  pub y-small : f *ℚ y.y *ℚ (f *ℚ y.y) ≤ℚ w *ℚ w *ℚ length_square r
  unfolding ◌-ℚ◌
  y-small = transitive
      (at_most (square (f *ℚ y.x) +ₙ half-above *ₙ square (f *ℚ y.s))
      (solve 5 (λ f h a b c. f ⊗ f ⊗ (a ⊗ a ⊕ b ⊗ b ⊕ h ⊗ (c ⊗ c)) ⊖ f ⊗ b ⊗ (f ⊗ b) ≐ f ⊗ a ⊗ (f ⊗ a) ⊕ h ⊗ (f ⊗ c ⊗ (f ⊗ c))) refl f half y.x y.y y.s))
      squares-small

  pub s-small : whole (pos 2) *ℚ f *ℚ y.s *ℚ (whole (pos 2) *ℚ f *ℚ y.s) ≤ℚ whole (pos 3) *ℚ w *ℚ (whole (pos 3) *ℚ w) *ℚ length_square r
  unfolding ◌-ℚ◌
  s-small = at_most
      (number 8 *ₙ (square (f *ℚ y.x) +ₙ square (f *ℚ y.y)) +ₙ (number 8 *ₙ above squares-small +ₙ square w *ₙ ((square r.x +ₙ square r.y) +ₙ square r.s *ₙ number 2)))
      (from₁ (whole (pos 4) *ℚ f *ℚ f *ℚ y.s *ℚ y.s) (sym (twice_half (pos 1)))
      (solve 9 (λ f w h a b c p q r.
      int (pos 3) ⊗ w ⊗ (int (pos 3) ⊗ w) ⊗ (p ⊗ p ⊕ q ⊗ q ⊕ r ⊗ r ⊗ int (pos 2)) ⊖ int (pos 2) ⊗ f ⊗ c ⊗ (int (pos 2) ⊗ f ⊗ c)
      ≐ (int (pos 8) ⊗ (f ⊗ a ⊗ (f ⊗ a) ⊕ f ⊗ b ⊗ (f ⊗ b))
      ⊕ (int (pos 8) ⊗ (w ⊗ w ⊗ (p ⊗ p ⊕ q ⊗ q ⊕ r ⊗ r ⊗ int (pos 2)) ⊖ f ⊗ f ⊗ (a ⊗ a ⊕ b ⊗ b ⊕ h ⊗ (c ⊗ c)))
      ⊕ w ⊗ w ⊗ (p ⊗ p ⊕ q ⊗ q ⊕ r ⊗ r ⊗ int (pos 2))))
      ⊕ int (pos 4) ⊗ f ⊗ f ⊗ c ⊗ c ⊗ (int (pos 2) ⊗ h ⊖ int (pos 1))) refl
      f w half y.x y.y y.s r.x r.y r.s))
