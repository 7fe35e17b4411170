-- A value near 1, and the value at a little more and at a little less of the load.
use Rattle.std.proofs.Common.{◌≡◌, refl, sym, ◌∙◌, ap, ap₂, subst, subst₂, ℤ, pos, negsuc, ◌+ℤ◌, ◌*ℤ◌, ◌≤ℤ◌, arith}
use mathlib.Core.Quot.{sound}
use Rattle.std.proofs.lemmas.Int.{ints}
use Rattle.lam_fraction.specs.Fraction.{ℚ, whole, fraction, class_of, ◌+ℚ◌, ◌-ℚ◌, ◌*ℚ◌, ◌/ℚ◌, opposite, inverse, is_at_most, ◌≤ℚ◌, ◌<ℚ◌}
use Rattle.lam_fraction.specs.inside.Quotient.{of_two, on_one, on_two}
use Rattle.lam_fraction.proofs.Expression.{int, ◌⊕◌, ◌⊖◌, ◌⊗◌}
use Rattle.lam_fraction.proofs.Solver.{◌≐◌}
use Rattle.lam_fraction.proofs.Rationals.{solve, from₁, from₂, from₃, above, weaken, at_most, square, below_over, number, positive_number, fraction_times, ◌+ₙ◌, ◌*ₙ◌, ◌+ₚ◌, ◌*ₚ◌}
use Rattle.lam_fraction.proofs.FractionBounds.{whole_positive}
use Rattle.lam_fraction.proofs.FractionPairs.{fraction-times_whole, whole-le}
use Rattle.lam_fraction.proofs.FractionRing.{whole-sum, whole-product}
use Rattle.lam_stock.specs.declared.item.Lamina.{Lamina}
use Rattle.lam_stock.specs.Limits.{KeepsStrengths}
use Rattle.lam_stock.specs.PlyLaw.{OnAxis}
use Rattle.lam_stock.specs.TsaiWu.{tsai_wu, RatioAtLeast}
use Rattle.lam_stock.proofs.StrengthBounds.{strengths_kept}
use Rattle.lam_job.specs.Near.{just_below, just_above}
use Rattle.lam_sharp.specs.NearOne.{nearly_one, hardly_above_one, IsNearOne, IsHardlyAbove, IsNearFactor, past_ratio, NearOneIsNear, NearlyOneBounds}
use Rattle.lam_sharp.proofs.Multiples.{square_part, linear_part, at_multiple, square_part_positive}

-- ---- numbers

abbrev more : ℚ
more = fraction (pos 201) (pos 200)

abbrev less : ℚ
less = fraction (pos 199) (pos 200)

more_of_nearly : more *ℚ nearly_one ≡ whole (pos 1)
unfolding whole fraction class_of ◌*ℚ◌ ◌/ℚ◌ inverse on_one on_two of_two
more_of_nearly = sound refl

less_of_hardly : less *ℚ hardly_above_one ≡ whole (pos 1)
unfolding whole fraction class_of ◌*ℚ◌ ◌/ℚ◌ inverse on_one on_two of_two
less_of_hardly = sound refl

more_positive : whole (pos 0) ≤ℚ more
unfolding whole fraction class_of ◌*ℚ◌ ◌/ℚ◌ inverse is_at_most on_one on_two of_two
more_positive = record { le = refl }

more_above : whole (pos 1) ≤ℚ more
unfolding whole fraction class_of ◌*ℚ◌ ◌/ℚ◌ inverse is_at_most on_one on_two of_two
more_above = record { le = refl }

less_positive : whole (pos 0) ≤ℚ less
unfolding whole fraction class_of ◌*ℚ◌ ◌/ℚ◌ inverse is_at_most on_one on_two of_two
less_positive = record { le = refl }

less_below : less ≤ℚ whole (pos 1)
unfolding whole fraction class_of ◌*ℚ◌ ◌/ℚ◌ inverse is_at_most on_one on_two of_two
less_below = record { le = refl }

-- ---- a square part a, not negative, and a linear part b

abbrev at : (a b r : ℚ) → ℚ
at a b r = a *ℚ (r *ℚ r) +ℚ b *ℚ r

-- k times the load, with k w just 1
grows : (a b r k w : ℚ) → whole (pos 0) ≤ℚ a → whole (pos 0) ≤ℚ k → whole (pos 1) ≤ℚ k → k *ℚ w ≡ whole (pos 1) → w ≤ℚ at a b r → whole (pos 1) ≤ℚ at a b (k *ℚ r)
unfolding ◌-ℚ◌
grows a b r k w pa pk p e h =
    at_most (pk *ₙ above h +ₙ pk *ₙ above p *ₙ (pa *ₙ square r))
    (from₁ (whole (pos 1)) e
    (solve 5 (λ a b r k w.
    (a ⊗ ((k ⊗ r) ⊗ (k ⊗ r)) ⊕ b ⊗ (k ⊗ r)) ⊖ int (pos 1)
    ≐ (k ⊗ ((a ⊗ (r ⊗ r) ⊕ b ⊗ r) ⊖ w) ⊕ (k ⊗ (k ⊖ int (pos 1))) ⊗ (a ⊗ (r ⊗ r))) ⊕ int (pos 1) ⊗ (k ⊗ w ⊖ int (pos 1))) refl a b r k w))

shrinks : (a b r k w : ℚ) → whole (pos 0) ≤ℚ a → whole (pos 0) ≤ℚ k → k ≤ℚ whole (pos 1) → k *ℚ w ≡ whole (pos 1) → at a b r ≤ℚ w → at a b (k *ℚ r) ≤ℚ whole (pos 1)
unfolding ◌-ℚ◌
shrinks a b r k w pa pk p e h =
    at_most (pk *ₙ above h +ₙ pk *ₙ above p *ₙ (pa *ₙ square r))
    (from₁ (whole (negsuc 0)) e
    (solve 5 (λ a b r k w.
    int (pos 1) ⊖ (a ⊗ ((k ⊗ r) ⊗ (k ⊗ r)) ⊕ b ⊗ (k ⊗ r))
    ≐ (k ⊗ (w ⊖ (a ⊗ (r ⊗ r) ⊕ b ⊗ r)) ⊕ (k ⊗ (int (pos 1) ⊖ k)) ⊗ (a ⊗ (r ⊗ r))) ⊕ int (negsuc 0) ⊗ (k ⊗ w ⊖ int (pos 1))) refl a b r k w))

-- r thousandths printed, x past it, and w nearly 1: x is 201/200 of r + 1, and 199/200 more
past : (a b r x w : ℚ) → whole (pos 0) ≤ℚ a → whole (pos 0) ≤ℚ r → whole (pos 200) *ℚ x ≡ whole (pos 201) *ℚ r +ℚ whole (pos 400) → whole (pos 201) *ℚ w ≡ whole (pos 200)
    → w ≤ℚ at a b (r +ℚ whole (pos 1)) → whole (pos 1) <ℚ at a b x
unfolding ◌-ℚ◌
past a b r x w pa pr e d h =
    let next : whole (pos 0) <ℚ whole (pos 1) +ℚ r = positive_number 0 +ₚ pr in
    let far : whole (pos 0) ≤ℚ whole (pos 201) *ℚ r +ℚ whole (pos 400) = number 201 *ₙ pr +ₙ number 400 in
    below_over {k = whole (pos 8040000) *ℚ (whole (pos 1) +ℚ r)} (positive_number 8039999 *ₚ next)
    (positive_number 7959999 +ₚ (number 40200 *ₙ far *ₙ above h +ₙ number 201 *ₙ pa *ₙ (weaken next *ₙ far *ₙ (pr +ₙ number 200))))
    (past_is a b r x w e d)
  where
    past_is : (a b r x w : ℚ) → whole (pos 200) *ℚ x ≡ whole (pos 201) *ℚ r +ℚ whole (pos 400) → whole (pos 201) *ℚ w ≡ whole (pos 200)
        → (whole (pos 8040000) *ℚ (whole (pos 1) +ℚ r)) *ℚ (at a b x -ℚ whole (pos 1))
        ≡ whole (pos 7960000) +ℚ (whole (pos 40200) *ℚ (whole (pos 201) *ℚ r +ℚ whole (pos 400)) *ℚ (at a b (r +ℚ whole (pos 1)) -ℚ w)
        +ℚ whole (pos 201) *ℚ a *ℚ ((whole (pos 1) +ℚ r) *ℚ (whole (pos 201) *ℚ r +ℚ whole (pos 400)) *ℚ (r +ℚ whole (pos 200))))
    past_is a b r x w e d =
        from₂ (whole (pos 201) *ℚ (a *ℚ (whole (pos 1) +ℚ r)) *ℚ (whole (pos 200) *ℚ x +ℚ (whole (pos 201) *ℚ r +ℚ whole (pos 400))) +ℚ whole (pos 40200) *ℚ (b *ℚ (whole (pos 1) +ℚ r))) e
        (whole (pos 200) *ℚ (whole (pos 201) *ℚ r +ℚ whole (pos 400))) d
        (solve 5 (λ a b r x w.
        let y = int (pos 201) ⊗ r ⊕ int (pos 400) in
        let s = int (pos 1) ⊕ r in
        (int (pos 8040000) ⊗ s) ⊗ ((a ⊗ (x ⊗ x) ⊕ b ⊗ x) ⊖ int (pos 1))
        ≐ int (pos 7960000) ⊕ (int (pos 40200) ⊗ y ⊗ ((a ⊗ ((r ⊕ int (pos 1)) ⊗ (r ⊕ int (pos 1))) ⊕ b ⊗ (r ⊕ int (pos 1))) ⊖ w)
        ⊕ int (pos 201) ⊗ a ⊗ (s ⊗ y ⊗ (r ⊕ int (pos 200))))
        ⊕ (int (pos 201) ⊗ (a ⊗ s) ⊗ (int (pos 200) ⊗ x ⊕ y) ⊕ int (pos 40200) ⊗ (b ⊗ s)) ⊗ (int (pos 200) ⊗ x ⊖ y)
        ⊕ (int (pos 200) ⊗ y) ⊗ (int (pos 201) ⊗ w ⊖ int (pos 200))) refl a b r x w)

-- ---- of a lamina

nearly_times : whole (pos 201) *ℚ nearly_one ≡ whole (pos 200)
nearly_times = fraction_times (pos 200) (pos 201) (omega (arith, ints))

past_times : (r : ℤ) → whole (pos 200) *ℚ past_ratio r ≡ whole (pos 201) *ℚ whole r +ℚ whole (pos 400)
past_times r =
    fraction_times (pos 201 *ℤ r +ℤ pos 400) (pos 200) (omega (arith, ints))
    ∙ whole-sum (pos 201 *ℤ r) (pos 400) ∙ ap (λ z. z +ℚ whole (pos 400)) (whole-product (pos 201) r)

module _ {l : Lamina} (h : KeepsStrengths l) (t : OnAxis) where
  pub stands_below : (factor : ℤ) → IsHardlyAbove l t factor → RatioAtLeast l t (just_below factor)
  stands_below factor k =
      subst (λ z. tsai_wu l t z ≤ℚ whole (pos 1)) (sym (fraction-times_whole (pos 199) (pos 200) factor (omega (arith, ints))))
      (subst (λ z. z ≤ℚ whole (pos 1)) (sym (at_multiple l t (less *ℚ whole factor)))
      (shrinks (square_part l t) (linear_part l t) (whole factor) less hardly_above_one (square_part_positive h t) less_positive less_below less_of_hardly
      (subst (λ z. z ≤ℚ hardly_above_one) (at_multiple l t (whole factor)) k)))

  pub fails_above : (factor : ℤ) → nearly_one ≤ℚ tsai_wu l t (whole factor) → whole (pos 1) ≤ℚ tsai_wu l t (just_above factor)
  fails_above factor k =
      subst (λ z. whole (pos 1) ≤ℚ tsai_wu l t z) (sym (fraction-times_whole (pos 201) (pos 200) factor (omega (arith, ints))))
      (subst (λ z. whole (pos 1) ≤ℚ z) (sym (at_multiple l t (more *ℚ whole factor)))
      (grows (square_part l t) (linear_part l t) (whole factor) more nearly_one (square_part_positive h t) more_positive more_above more_of_nearly
      (subst (λ z. nearly_one ≤ℚ z) (at_multiple l t (whole factor)) k)))

  pub above_past : (r : ℤ) → pos 0 ≤ℤ r → nearly_one ≤ℚ tsai_wu l t (whole (r +ℤ pos 1)) → whole (pos 1) <ℚ tsai_wu l t (past_ratio r)
  above_past r p k =
      subst (λ z. whole (pos 1) <ℚ z) (sym (at_multiple l t (past_ratio r)))
      (past (square_part l t) (linear_part l t) (whole r) (past_ratio r) nearly_one (square_part_positive h t) ((whole-le (pos 0) r).1 p) (past_times r) nearly_times
      (subst (λ z. nearly_one ≤ℚ z) (at_multiple l t (whole r +ℚ whole (pos 1))) (subst (λ z. nearly_one ≤ℚ tsai_wu l t z) (whole-sum r (pos 1)) k)))

-- ---- the laws

pub near_one_is_near : NearOneIsNear
near_one_is_near i t factor is k =
    let h = strengths_kept is.limits in
    record { stands = stands_below h t factor k.to; fails = fails_above h t factor k.from }

pub nearly_one_bounds : NearlyOneBounds
nearly_one_bounds i t r is = above_past (strengths_kept is.limits) t r
