-- How far the value moves where it is near 1, at distances that are small beside the least strengths of their axes.
use Rattle.std.proofs.Common.{refl, sym, subst, pos, arith}
use Rattle.std.proofs.lemmas.Int.{ints}
use Rattle.lam_fraction.specs.Fraction.{ℚ, whole, fraction, ◌+ℚ◌, ◌-ℚ◌, ◌*ℚ◌, opposite, ◌≤ℚ◌, ◌<ℚ◌}
use Rattle.lam_fraction.proofs.Expression.{int, ◌⊕◌, ◌⊖◌, ◌⊗◌, minus}
use Rattle.lam_fraction.proofs.Solver.{◌≐◌}
use Rattle.lam_fraction.proofs.Rationals.{solve, from₁, above, strictly_above, weaken, at_most, at_most_over, below_over, decide, transitive, square, number, positive_number, fraction_times, ◌+ₙ◌, ◌*ₙ◌, ◌+ₚ◌}
use Rattle.lam_narrow.specs.Close.{AreApart, IsSteep, band}
use Rattle.lam_narrow.proofs.Quadratic.{form, value, tilt, AreTerms, moved, mixed_most, form_least, tilt_small}

-- of an axis: its part of the square of the lesser strength is s, and j of the linear coefficient is at most 15 (1 - s)
pub record IsAxis (s j : ℚ) : Type 0 where
  pub least : whole (pos 0) ≤ℚ s
  pub most : s ≤ℚ whole (pos 1)
  pub spread : j +ℚ whole (pos 15) *ℚ s ≤ℚ whole (pos 15)

-- the greatest square of a slope, in parts of which 64 make one, whatever both axes are
product_small : (s t : ℚ) → whole (pos 0) ≤ℚ s → t +ℚ whole (pos 15) *ℚ s ≤ℚ whole (pos 30)
    → (whole (pos 8) +ℚ whole (pos 15) *ℚ s) *ℚ (whole (pos 8) +ℚ whole (pos 15) *ℚ t) ≤ℚ whole (pos 5632)
unfolding ◌-ℚ◌
product_small s t ss h =
    at_most_over {k = whole (pos 13500)} (positive_number 13499)
    (square (whole (pos 6750) *ℚ s -ℚ whole (pos 5070)) +ₙ number 863100 +ₙ number 202500 *ₙ ((number 8 +ₙ number 15 *ₙ ss) *ₙ above h))
    (solve 2 (λ s t.
    int (pos 13500) ⊗ (int (pos 5632) ⊖ (int (pos 8) ⊕ int (pos 15) ⊗ s) ⊗ (int (pos 8) ⊕ int (pos 15) ⊗ t))
    ≐ (int (pos 6750) ⊗ s ⊖ int (pos 5070)) ⊗ (int (pos 6750) ⊗ s ⊖ int (pos 5070)) ⊕ int (pos 863100)
    ⊕ int (pos 202500) ⊗ ((int (pos 8) ⊕ int (pos 15) ⊗ s) ⊗ (int (pos 30) ⊖ (t ⊕ int (pos 15) ⊗ s)))) refl s t)

sum_positive : (x y : ℚ) → whole (pos 0) ≤ℚ y → y <ℚ x → whole (pos 0) <ℚ x +ℚ y
unfolding ◌-ℚ◌
sum_positive x y yy k = below_over {k = whole (pos 1)} (positive_number 0) (strictly_above k +ₚ number 2 *ₙ yy)
    (solve 2 (λ x y. int (pos 1) ⊗ ((x ⊕ y) ⊖ int (pos 0)) ≐ (x ⊖ y) ⊕ int (pos 2) ⊗ y) refl x y)

-- a number is no greater than one of at least 0 whose square is no less
pub below_root : (x y : ℚ) → whole (pos 0) ≤ℚ y → x *ℚ x ≤ℚ y *ℚ y → x ≤ℚ y
unfolding ◌-ℚ◌
below_root x y yy h = decide x y (λ k. k) (λ k.
    at_most_over {k = x +ℚ y} (sum_positive x y yy k) (above h) (solve 2 (λ x y. (x ⊕ y) ⊗ (y ⊖ x) ≐ y ⊗ y ⊖ x ⊗ x) refl x y))

-- the square of the slopes times the distances, from what is known of the value, the squares and both axes
joined : (l f g s t d e : ℚ) → whole (pos 2) *ℚ (l *ℚ l) ≤ℚ f *ℚ (whole (pos 8) *ℚ g +ℚ whole (pos 15) *ℚ t) → whole (pos 0) ≤ℚ f
    → whole (pos 8) *ℚ f ≤ℚ (whole (pos 8) +ℚ whole (pos 15) *ℚ s) *ℚ d → g ≤ℚ whole (pos 1) +ℚ e
    → (whole (pos 8) +ℚ whole (pos 15) *ℚ s) *ℚ (whole (pos 8) +ℚ whole (pos 15) *ℚ t) ≤ℚ whole (pos 5632) → s ≤ℚ whole (pos 2)
    → whole (pos 0) ≤ℚ t → whole (pos 0) ≤ℚ d → whole (pos 0) ≤ℚ e → l *ℚ l ≤ℚ d *ℚ (whole (pos 352) +ℚ whole (pos 19) *ℚ e)
unfolding ◌-ℚ◌
joined l f g s t d e small ff bend near product most tt dd ee =
    at_most_over {k = whole (pos 16)} (positive_number 15)
    (number 8 *ₙ above small +ₙ number 64 *ₙ (ff *ₙ above near) +ₙ above bend *ₙ (number 8 +ₙ number 15 *ₙ tt +ₙ number 8 *ₙ ee) +ₙ above product *ₙ dd +ₙ number 120 *ₙ (above most *ₙ ee *ₙ dd))
    (solve 7 (λ l f g s t d e.
    int (pos 16) ⊗ (d ⊗ (int (pos 352) ⊕ int (pos 19) ⊗ e) ⊖ l ⊗ l)
    ≐ int (pos 8) ⊗ (f ⊗ (int (pos 8) ⊗ g ⊕ int (pos 15) ⊗ t) ⊖ int (pos 2) ⊗ (l ⊗ l)) ⊕ int (pos 64) ⊗ (f ⊗ ((int (pos 1) ⊕ e) ⊖ g))
    ⊕ ((int (pos 8) ⊕ int (pos 15) ⊗ s) ⊗ d ⊖ int (pos 8) ⊗ f) ⊗ (int (pos 8) ⊕ int (pos 15) ⊗ t ⊕ int (pos 8) ⊗ e)
    ⊕ (int (pos 5632) ⊖ (int (pos 8) ⊕ int (pos 15) ⊗ s) ⊗ (int (pos 8) ⊕ int (pos 15) ⊗ t)) ⊗ d
    ⊕ int (pos 120) ⊗ ((int (pos 2) ⊖ s) ⊗ e ⊗ d)) refl l f g s t d e)

quarters : (f s d : ℚ) → whole (pos 8) *ℚ f ≤ℚ (whole (pos 8) +ℚ whole (pos 15) *ℚ s) *ℚ d → s ≤ℚ whole (pos 2) → whole (pos 0) ≤ℚ d → f ≤ℚ fraction (pos 19) (pos 4) *ℚ d
unfolding ◌-ℚ◌
quarters f s d small most dd =
    at_most_over {k = whole (pos 8)} (positive_number 7) (above small +ₙ number 15 *ₙ (above most *ₙ dd))
    (from₁ (whole (pos 2) *ℚ d) (fraction_times (pos 19) (pos 4) (omega (arith, ints)))
    (solve 4 (λ f g s d.
    int (pos 8) ⊗ (g ⊗ d ⊖ f)
    ≐ (((int (pos 8) ⊕ int (pos 15) ⊗ s) ⊗ d ⊖ int (pos 8) ⊗ f) ⊕ int (pos 15) ⊗ ((int (pos 2) ⊖ s) ⊗ d)) ⊕ (int (pos 2) ⊗ d) ⊗ (int (pos 4) ⊗ g ⊖ int (pos 19))) refl f (fraction (pos 19) (pos 4)) s d))

-- a number between two opposite ones, by its square
within_root : (x y : ℚ) → whole (pos 0) ≤ℚ y → x *ℚ x ≤ℚ y *ℚ y → (x ≤ℚ y) × (opposite y ≤ℚ x)
unfolding ◌-ℚ◌
within_root x y yy h = (
  below_root x y yy h,
  at_most (above (below_root (opposite x) y yy (subst (λ z. z ≤ℚ y *ℚ y) (solve 1 (λ x. x ⊗ x ≐ minus x ⊗ minus x) refl x) h))) (solve 2 (λ x y. x ⊖ minus y ≐ y ⊖ minus x) refl x y),
)

steeper : (d e f : ℚ) → IsSteep e f → (d *ℚ d) *ℚ (whole (pos 352) +ℚ whole (pos 19) *ℚ e) ≤ℚ (f *ℚ d) *ℚ (f *ℚ d)
unfolding ◌-ℚ◌
steeper d e f h = at_most (square d *ₙ above h.square) (solve 3 (λ d e f. (f ⊗ d) ⊗ (f ⊗ d) ⊖ (d ⊗ d) ⊗ (int (pos 352) ⊕ int (pos 19) ⊗ e) ≐ (d ⊗ d) ⊗ (f ⊗ f ⊖ (int (pos 352) ⊕ int (pos 19) ⊗ e))) refl d e f)

gathered : (g l f b c : ℚ) → l ≤ℚ b → opposite b ≤ℚ l → whole (pos 0) ≤ℚ f → f ≤ℚ c → AreApart (b +ℚ c) (g +ℚ (l +ℚ f)) g
unfolding ◌-ℚ◌
gathered g l f b c lb ub ff fc = record {
  from = at_most (above lb +ₙ above fc) (solve 5 (λ g l f b c. (b ⊕ c) ⊖ ((g ⊕ (l ⊕ f)) ⊖ g) ≐ (b ⊖ l) ⊕ (c ⊖ f)) refl g l f b c);
  to = at_most (above ub +ₙ above fc +ₙ (ff +ₙ ff)) (solve 5 (λ g l f b c. (b ⊕ c) ⊖ (g ⊖ (g ⊕ (l ⊕ f))) ≐ (l ⊖ minus b) ⊕ (c ⊖ f) ⊕ (f ⊕ f)) refl g l f b c);
}

-- what both axes say together
sum_most : {s t j k : ℚ} → IsAxis s j → IsAxis t k → s +ℚ t ≤ℚ whole (pos 2)
unfolding ◌-ℚ◌
sum_most {s} {t} h k = at_most (above h.most +ₙ above k.most) (solve 2 (λ s t. int (pos 2) ⊖ (s ⊕ t) ≐ (int (pos 1) ⊖ s) ⊕ (int (pos 1) ⊖ t)) refl s t)

sum_spread : {s t j k : ℚ} → IsAxis s j → IsAxis t k → (j +ℚ k) +ℚ whole (pos 15) *ℚ (s +ℚ t) ≤ℚ whole (pos 30)
unfolding ◌-ℚ◌
sum_spread {s} {t} {j} {k} h g = at_most (above h.spread +ₙ above g.spread)
    (solve 4 (λ s t j k. int (pos 30) ⊖ ((j ⊕ k) ⊕ int (pos 15) ⊗ (s ⊕ t)) ≐ (int (pos 15) ⊖ (j ⊕ int (pos 15) ⊗ s)) ⊕ (int (pos 15) ⊖ (k ⊕ int (pos 15) ⊗ t))) refl s t j k)

-- the squares of the distances, with the coefficients of the form, are small
pub record AreSmall (p q r s t d x y z : ℚ) : Type 0 where
  pub along : p *ℚ (x *ℚ x) ≤ℚ s *ℚ d
  pub across : q *ℚ (y *ℚ y) ≤ℚ t *ℚ d
  pub shear : r *ℚ (z *ℚ z) ≤ℚ d

module _ {p q m r a b j k : ℚ} (h : AreTerms p q m r a b j k) {s t : ℚ} (along : IsAxis s j) (across : IsAxis t k) {d x y z : ℚ} (small : AreSmall p q r s t d x y z) (dd : whole (pos 0) ≤ℚ d) where
  bend_small : whole (pos 8) *ℚ form p q m r x y z ≤ℚ (whole (pos 8) +ℚ whole (pos 15) *ℚ (s +ℚ t)) *ℚ d
  unfolding ◌-ℚ◌
  bend_small =
      at_most (above (mixed_most p q m x y h.along (weaken h.across) h.joint) +ₙ number 15 *ₙ (above small.along +ₙ above small.across) +ₙ number 8 *ₙ above small.shear)
      (solve 10 (λ p q m r x y z s t d.
      (int (pos 8) ⊕ int (pos 15) ⊗ (s ⊕ t)) ⊗ d ⊖ int (pos 8) ⊗ (p ⊗ (x ⊗ x) ⊕ q ⊗ (y ⊗ y) ⊕ m ⊗ (x ⊗ y) ⊕ r ⊗ (z ⊗ z))
      ≐ (int (pos 7) ⊗ (p ⊗ (x ⊗ x) ⊕ q ⊗ (y ⊗ y)) ⊖ int (pos 8) ⊗ (m ⊗ (x ⊗ y)))
      ⊕ int (pos 15) ⊗ ((s ⊗ d ⊖ p ⊗ (x ⊗ x)) ⊕ (t ⊗ d ⊖ q ⊗ (y ⊗ y))) ⊕ int (pos 8) ⊗ (d ⊖ r ⊗ (z ⊗ z))) refl p q m r x y z s t d)

  pub bend_most : form p q m r x y z ≤ℚ fraction (pos 19) (pos 4) *ℚ d
  bend_most = quarters (form p q m r x y z) (s +ℚ t) d bend_small (sum_most along across) dd

  pub tilt_most : (u v w e : ℚ) → whole (pos 0) ≤ℚ e → value p q m r a b u v w ≤ℚ whole (pos 1) +ℚ e
      → tilt p q m r a b u v w x y z *ℚ tilt p q m r a b u v w x y z ≤ℚ d *ℚ (whole (pos 352) +ℚ whole (pos 19) *ℚ e)
  tilt_most u v w e ee near =
      joined (tilt p q m r a b u v w x y z) (form p q m r x y z) (value p q m r a b u v w) (s +ℚ t) (j +ℚ k) d e (tilt_small h u v w x y z) (form_least h x y z) bend_small near
      (product_small (s +ℚ t) (j +ℚ k) (along.least +ₙ across.least) (sum_spread along across)) (sum_most along across) (h.first +ₙ h.second) dd ee

-- ---- the values

-- of distances of at most such a part of the least strengths
module _ {p q m r a b j k : ℚ} (h : AreTerms p q m r a b j k) {s t : ℚ} (along : IsAxis s j) (across : IsAxis t k) {part x y z : ℚ} (small : AreSmall p q r s t (part *ℚ part) x y z) (pp : whole (pos 0) ≤ℚ part) where
  pub tilt_within : (u v w e f : ℚ) → whole (pos 0) ≤ℚ e → value p q m r a b u v w ≤ℚ whole (pos 1) +ℚ e → IsSteep e f
      → (tilt p q m r a b u v w x y z ≤ℚ f *ℚ part) × (opposite (f *ℚ part) ≤ℚ tilt p q m r a b u v w x y z)
  tilt_within u v w e f ee near steep = within_root (tilt p q m r a b u v w x y z) (f *ℚ part) (steep.positive *ₙ pp)
      (transitive (tilt_most h along across small (square part) u v w e ee near) (steeper part e f steep))

  pub values_apart : (u v w e f : ℚ) → whole (pos 0) ≤ℚ e → value p q m r a b u v w ≤ℚ whole (pos 1) +ℚ e → IsSteep e f
      → AreApart (band f part) (value p q m r a b (u +ℚ x) (v +ℚ y) (w +ℚ z)) (value p q m r a b u v w)
  values_apart u v w e f ee near steep =
      let l = tilt_within u v w e f ee near steep in
      subst (λ g. AreApart (band f part) g (value p q m r a b u v w)) (sym (moved p q m r a b u v w x y z))
      (gathered (value p q m r a b u v w) (tilt p q m r a b u v w x y z) (form p q m r x y z) (f *ℚ part) (fraction (pos 19) (pos 4) *ℚ (part *ℚ part)) l.0 l.1 (form_least h x y z) (bend_most h along across small (square part)))
