-- How large the reduced stiffness of a lamina on a scale is, and that its numerators do not exceed the denominator.
use Rattle.std.proofs.Common.{◌≡◌, refl, sym, ◌∙◌, ap, subst, ℕ, ◌≤◌, ℤ, pos, ◌*ℤ◌, ◌<ℤ◌, arith}
use Rattle.std.specs.Prelude.{unsigned_abs}
use Rattle.std.proofs.lemmas.Int.{ints, clamps}
use Rattle.lam_fraction.specs.Fraction.{ℚ, whole, ◌-ℚ◌, ◌*ℚ◌, ◌/ℚ◌, opposite, inverse, fraction, ◌≤ℚ◌, ◌<ℚ◌}
use Rattle.lam_fraction.proofs.FractionPairs.{whole-le}
use Rattle.lam_fraction.proofs.FractionRing.{whole-product}
use Rattle.lam_fraction.proofs.Expression.{int, ◌⊕◌, ◌⊖◌, ◌⊗◌, minus}
use Rattle.lam_fraction.proofs.Solver.{◌≐◌}
use Rattle.lam_fraction.proofs.Integers as Z
use Rattle.lam_fraction.proofs.Rationals.{solve, from₁, transitive, above, weaken, at_most, at_most_over, number, positive_number, inverse_positive, not_zero, same_without_factor, ◌+ₙ◌, ◌*ₙ◌}
use Rattle.lam_fraction.proofs.FractionBounds.{whole_positive, times-inverse, quotient_at_most, at_most_quotient, quotient_only, fraction-times}
use Rattle.lam_stock.specs.declared.item.Lamina.{Lamina}
use Rattle.lam_stock.specs.PlyLaw.{reduced_11, reduced_12, reduced_22, reduced_66}
use Rattle.lam_lamina.specs.Covered.{IsCovered}
use Rattle.lam_lamina.specs.Stiffness.{moduli_over}
use Rattle.lam_lamina.proofs.Moduli.{IsElastic, Spans, along_stiff, across_stiff, trace_at_most, shear_at_most, coupled_not_negative, coupled_at_most}
use Rattle.lam_fraction.proofs.numbers.Steps.{Parts}

-- ---- what a scale that covers a lamina says of it

pub elastic : {q0 : ℤ} {l : Lamina} → IsCovered q0 l → IsElastic l
elastic h = record { along = omega (arith, ints, h.range.least_e1); across = omega (arith, ints, h.range.least_e2); poisson = h.poisson.kept }

pub spans : {q0 : ℤ} {l : Lamina} → IsCovered q0 l → Spans q0 l
spans h = record { normal = omega (arith, ints, clamps, h.covered); shear = omega (arith, ints, clamps, h.covered) }

pub scale_positive : {q0 : ℤ} {l : Lamina} → IsCovered q0 l → pos 0 <ℤ q0
scale_positive {q0} {l} h = omega (arith, ints, (spans h).shear, h.range.least_g12)

-- ---- the moduli, over the scale

quarters-over : (b : ℕ) (x k : ℚ) → whole (pos 0) <ℚ k → whole (pos 0) ≤ℚ x → whole (pos 4) *ℚ x ≤ℚ whole (pos b) *ℚ k → Parts 4 b (x /ℚ k)
unfolding ◌-ℚ◌ ◌/ℚ◌
quarters-over b x k positive least most =
    let share = weaken (inverse_positive positive) in (
      at_most (number 4 *ₙ (least *ₙ share) +ₙ number b) (solve 3 (λ x i b. int (pos 4) ⊗ (x ⊗ i) ⊖ minus b ≐ int (pos 4) ⊗ (x ⊗ i) ⊕ b) refl x (inverse k) (whole (pos b))),
      at_most (share *ₙ above most) (from₁ (opposite (whole (pos b))) (times-inverse positive)
          (solve 4 (λ x k i b. b ⊖ int (pos 4) ⊗ (x ⊗ i) ≐ i ⊗ (b ⊗ k ⊖ int (pos 4) ⊗ x) ⊕ minus b ⊗ (k ⊗ i ⊖ int (pos 1))) refl x k (inverse k) (whole (pos b)))),
    )

module _ {q0 : ℤ} {l : Lamina} (h : IsCovered q0 l) where
  pub q11-at_most : reduced_11 l ≤ℚ whole q0
  unfolding ◌-ℚ◌ ◌/ℚ◌
  q11-at_most = transitive (at_most (weaken (across_stiff l (elastic h))) (solve 2 (λ a d. (a ⊕ d) ⊖ a ≐ d) refl (reduced_11 l) (reduced_22 l))) (trace_at_most l (elastic h) (spans h))

  pub q22-at_most : reduced_22 l ≤ℚ whole q0
  unfolding ◌-ℚ◌ ◌/ℚ◌
  q22-at_most = transitive (at_most (weaken (along_stiff l (elastic h))) (solve 2 (λ a d. (a ⊕ d) ⊖ d ≐ a) refl (reduced_11 l) (reduced_22 l))) (trace_at_most l (elastic h) (spans h))

  pub q12-at_most : whole (pos 2) *ℚ reduced_12 l ≤ℚ whole q0
  q12-at_most = transitive (coupled_at_most l (elastic h) h.range.least_n12) (trace_at_most l (elastic h) (spans h))

  pub q12-within : reduced_12 l ≤ℚ whole q0
  unfolding ◌-ℚ◌ ◌/ℚ◌
  q12-within = at_most_over (positive_number 1) (above q12-at_most +ₙ weaken (whole_positive (scale_positive h)))
      (solve 2 (λ x k. int (pos 2) ⊗ (k ⊖ x) ≐ (k ⊖ int (pos 2) ⊗ x) ⊕ k) refl (reduced_12 l) (whole q0))

  q66-least : whole (pos 0) ≤ℚ reduced_66 l
  unfolding reduced_66
  q66-least = (whole-le (pos 0) l.g12).1 (omega (arith, ints, h.range.least_g12))

  four-times : (x k : ℚ) → x ≤ℚ k → whole (pos 4) *ℚ x ≤ℚ whole (pos 4) *ℚ k
  unfolding ◌-ℚ◌ ◌/ℚ◌
  four-times x k m = at_most (number 4 *ₙ above m) (solve 2 (λ x k. int (pos 4) ⊗ k ⊖ int (pos 4) ⊗ x ≐ int (pos 4) ⊗ (k ⊖ x)) refl x k)

  twice-twice : (x k : ℚ) → whole (pos 2) *ℚ x ≤ℚ k → whole (pos 4) *ℚ x ≤ℚ whole (pos 2) *ℚ k
  unfolding ◌-ℚ◌ ◌/ℚ◌
  twice-twice x k m = at_most (number 2 *ₙ above m) (solve 2 (λ x k. int (pos 2) ⊗ k ⊖ int (pos 4) ⊗ x ≐ int (pos 2) ⊗ (k ⊖ int (pos 2) ⊗ x)) refl x k)

  scale : whole (pos 0) <ℚ whole q0
  scale = whole_positive (scale_positive h)

  -- the sizes of the four, in quarters
  pub q11-size : Parts 4 4 (moduli_over q0 l).q11
  unfolding moduli_over
  q11-size = quarters-over 4 (reduced_11 l) (whole q0) scale (weaken (along_stiff l (elastic h))) (four-times (reduced_11 l) (whole q0) q11-at_most)

  pub q12-size : Parts 4 2 (moduli_over q0 l).q12
  unfolding moduli_over
  q12-size = quarters-over 2 (reduced_12 l) (whole q0) scale (coupled_not_negative l (elastic h) h.range.least_n12) (twice-twice (reduced_12 l) (whole q0) q12-at_most)

  pub q22-size : Parts 4 4 (moduli_over q0 l).q22
  unfolding moduli_over
  q22-size = quarters-over 4 (reduced_22 l) (whole q0) scale (weaken (across_stiff l (elastic h))) (four-times (reduced_22 l) (whole q0) q22-at_most)

  pub q66-size : Parts 4 2 (moduli_over q0 l).q66
  unfolding moduli_over
  q66-size = quarters-over 2 (reduced_66 l) (whole q0) scale q66-least (twice-twice (reduced_66 l) (whole q0) (shear_at_most l (elastic h) (spans h)))

-- ---- fractions over a scale

-- a fraction over a number has that factor in its denominator
pub fraction-over : (n d q0 : ℤ) → pos 0 <ℤ d → pos 0 <ℤ q0 → fraction n (d *ℤ q0) ≡ fraction n d /ℚ whole q0
unfolding ◌-ℚ◌ ◌/ℚ◌
fraction-over n d q0 p q =
    quotient_only (fraction n d) (whole q0) (fraction n (d *ℤ q0)) (not_zero (whole_positive q))
    (same_without_factor (whole d) (whole_positive p)
    (solve 3 (λ d f q. d ⊗ (f ⊗ q) ≐ f ⊗ (d ⊗ q)) refl (whole d) (fraction n (d *ℤ q0)) (whole q0)
    ∙ ap (λ x. fraction n (d *ℤ q0) *ℚ x) (sym (whole-product d q0)) ∙ fraction-times n (d *ℤ q0) (Z.◌*ₚ◌ p q)
    ∙ sym (solve 2 (λ d f. d ⊗ f ≐ f ⊗ d) refl (whole d) (fraction n d) ∙ fraction-times n d p)))

-- a fraction of no more than the scale, over the scale: its numerator does not exceed its denominator
pub fraction-room : (n d q0 : ℤ) → pos 0 <ℤ d → whole (pos 0) ≤ℚ fraction n d → fraction n d ≤ℚ whole q0 → unsigned_abs n ≤ unsigned_abs (d *ℤ q0)
unfolding fraction ◌-ℚ◌ ◌/ℚ◌
fraction-room n d q0 p least most =
    let from = (whole-le (pos 0) n).0 (subst (λ x. x ≤ℚ whole n) (solve 1 (λ d. int (pos 0) ⊗ d ≐ int (pos 0)) refl (whole d)) ((at_most_quotient (whole n) (whole d) (whole (pos 0)) (whole_positive p)).0 least)) in
    let to = (whole-le n (q0 *ℤ d)).0 (subst (λ x. whole n ≤ℚ x) (sym (whole-product q0 d)) ((quotient_at_most (whole n) (whole d) (whole q0) (whole_positive p)).0 most)) in
    omega (arith, ints, from, to)

pub zero-fraction : fraction (pos 0) (pos 1) ≡ whole (pos 0)
unfolding fraction ◌-ℚ◌ ◌/ℚ◌
zero-fraction = solve 1 (λ i. int (pos 0) ⊗ i ≐ int (pos 0)) refl (inverse (whole (pos 1)))
