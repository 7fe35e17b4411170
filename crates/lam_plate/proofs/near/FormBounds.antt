-- The form of D at two shares of one: between 1/12288 and 1/12, since D lies between the 512th part of a third and a third.
use Rattle.std.proofs.Common.{◌≡◌, refl, pos, arith}
use Rattle.std.proofs.lemmas.Int.{ints}
use Rattle.lam_fraction.specs.Fraction.{ℚ, whole, inverse, ◌+ℚ◌, ◌*ℚ◌, ◌/ℚ◌, ◌≤ℚ◌, ◌-ℚ◌, opposite}
use Rattle.lam_fraction.proofs.Expression.{int, ◌⊕◌, ◌⊖◌, ◌⊗◌, minus}
use Rattle.lam_fraction.proofs.Solver.{◌≐◌}
use Rattle.lam_fraction.proofs.Rationals.{solve, from₂, from₃, above, square, number, at_most, ◌+ₙ◌, ◌*ₙ◌}
use Rattle.lam_fraction.proofs.WholeFractions.{inverse-whole}

-- four times the form: the form of D11, D12 and D22, and four times D66 by the product of the shares
pub four_times : (d e f n s t : ℚ)
    → whole (pos 4) *ℚ (d /ℚ whole (pos 4) *ℚ (s *ℚ s) +ℚ (e /ℚ whole (pos 2) +ℚ n) *ℚ (s *ℚ t) +ℚ f /ℚ whole (pos 4) *ℚ (t *ℚ t))
    ≡ (d *ℚ (s *ℚ s) +ℚ whole (pos 2) *ℚ e *ℚ (s *ℚ t) +ℚ f *ℚ (t *ℚ t)) +ℚ whole (pos 4) *ℚ (n *ℚ (s *ℚ t))
unfolding ◌-ℚ◌ ◌/ℚ◌
four_times d e f n s t =
    from₂ (d *ℚ (s *ℚ s) +ℚ f *ℚ (t *ℚ t)) (inverse-whole (pos 4) (omega (arith, ints))) (whole (pos 2) *ℚ e *ℚ (s *ℚ t)) (inverse-whole (pos 2) (omega (arith, ints)))
    (solve 8 (λ d e f n s t i j. int (pos 4) ⊗ (d ⊗ i ⊗ (s ⊗ s) ⊕ (e ⊗ j ⊕ n) ⊗ (s ⊗ t) ⊕ f ⊗ i ⊗ (t ⊗ t))
    ≐ (d ⊗ (s ⊗ s) ⊕ int (pos 2) ⊗ e ⊗ (s ⊗ t) ⊕ f ⊗ (t ⊗ t)) ⊕ int (pos 4) ⊗ (n ⊗ (s ⊗ t))
    ⊕ (d ⊗ (s ⊗ s) ⊕ f ⊗ (t ⊗ t)) ⊗ (int (pos 4) ⊗ i ⊖ int (pos 1)) ⊕ (int (pos 2) ⊗ e ⊗ (s ⊗ t)) ⊗ (int (pos 2) ⊗ j ⊖ int (pos 1))) refl
    d e f n s t (inverse (whole (pos 4))) (inverse (whole (pos 2))))

-- q is the form of D11, D12 and D22, n is D66, p the floor over q0, and i a third
module _ (g q n p i s t : ℚ) (four : whole (pos 4) *ℚ g ≡ q +ℚ whole (pos 4) *ℚ (n *ℚ (s *ℚ t))) (three : whole (pos 3) *ℚ i ≡ whole (pos 1)) (one : s +ℚ t ≡ whole (pos 1))
    (shares : whole (pos 0) ≤ℚ s *ℚ t) where
  pub form_at_least : p *ℚ ((s *ℚ s +ℚ t *ℚ t) *ℚ i) ≤ℚ q → whole (pos 1) ≤ℚ whole (pos 512) *ℚ p → whole (pos 0) ≤ℚ i → whole (pos 0) ≤ℚ n → whole (pos 1) ≤ℚ whole (pos 12288) *ℚ g
  unfolding ◌-ℚ◌
  form_at_least plane part third twist =
      at_most (number 3072 *ₙ above plane +ₙ number 6 *ₙ above part *ₙ ((square s +ₙ square t) *ₙ third) +ₙ square (s -ℚ t) +ₙ number 12288 *ₙ (twist *ₙ shares))
      (from₃ (whole (pos 3072)) four (whole (pos 2) *ℚ (s *ℚ s +ℚ t *ℚ t)) three (s +ℚ t +ℚ whole (pos 1)) one
      (solve 7 (λ g q n p i s t. int (pos 12288) ⊗ g ⊖ int (pos 1)
      ≐ int (pos 3072) ⊗ (q ⊖ p ⊗ ((s ⊗ s ⊕ t ⊗ t) ⊗ i)) ⊕ int (pos 6) ⊗ (int (pos 512) ⊗ p ⊖ int (pos 1)) ⊗ ((s ⊗ s ⊕ t ⊗ t) ⊗ i) ⊕ (s ⊖ t) ⊗ (s ⊖ t) ⊕ int (pos 12288) ⊗ (n ⊗ (s ⊗ t))
      ⊕ int (pos 3072) ⊗ (int (pos 4) ⊗ g ⊖ (q ⊕ int (pos 4) ⊗ (n ⊗ (s ⊗ t)))) ⊕ (int (pos 2) ⊗ (s ⊗ s ⊕ t ⊗ t)) ⊗ (int (pos 3) ⊗ i ⊖ int (pos 1)) ⊕ (s ⊕ t ⊕ int (pos 1)) ⊗ ((s ⊕ t) ⊖ int (pos 1))) refl
      g q n p i s t))

  pub form_at_most : q ≤ℚ (s *ℚ s +ℚ t *ℚ t) *ℚ i → whole (pos 6) *ℚ n ≤ℚ whole (pos 1) → whole (pos 12) *ℚ g ≤ℚ whole (pos 1)
  unfolding ◌-ℚ◌
  form_at_most plane twist =
      at_most (number 3 *ₙ above plane +ₙ number 2 *ₙ shares *ₙ above twist)
      (from₃ (opposite (whole (pos 3))) four (opposite (s *ℚ s +ℚ t *ℚ t)) three (opposite (s +ℚ t +ℚ whole (pos 1))) one
      (solve 6 (λ g q n i s t. int (pos 1) ⊖ int (pos 12) ⊗ g
      ≐ int (pos 3) ⊗ ((s ⊗ s ⊕ t ⊗ t) ⊗ i ⊖ q) ⊕ int (pos 2) ⊗ (s ⊗ t) ⊗ (int (pos 1) ⊖ int (pos 6) ⊗ n)
      ⊕ minus (int (pos 3)) ⊗ (int (pos 4) ⊗ g ⊖ (q ⊕ int (pos 4) ⊗ (n ⊗ (s ⊗ t)))) ⊕ minus (s ⊗ s ⊕ t ⊗ t) ⊗ (int (pos 3) ⊗ i ⊖ int (pos 1)) ⊕ minus (s ⊕ t ⊕ int (pos 1)) ⊗ ((s ⊕ t) ⊖ int (pos 1))) refl
      g q n i s t))
