-- The twice_energy of a layer's stiffness, over a scale that covers it, and how large its entries are.
use Rattle.std.proofs.Common.{◌≡◌, refl, sym, ◌∙◌, ap, subst, ℤ, pos, negsuc, ◌≤ℤ◌, [], ◌∷◌, arith}
use Rattle.std.proofs.lemmas.Int.{ints}
use Rattle.lam_fraction.specs.Fraction.{ℚ, whole, ◌-ℚ◌, ◌*ℚ◌, ◌/ℚ◌, opposite, inverse, fraction, ◌≤ℚ◌, ◌<ℚ◌}
use Rattle.lam_fraction.proofs.Expression.{int, ◌⊕◌, ◌⊖◌, ◌⊗◌, minus}
use Rattle.lam_fraction.proofs.Integers as Z
use Rattle.lam_fraction.proofs.Solver.{quotes, ◌≐◌}
use Rattle.lam_fraction.proofs.Rationals.{by_ring, solve, from₁, above, weaken, at_most, at_most_over, number, positive_number, inverse_positive, ◌+ₙ◌, ◌*ₙ◌}
use Rattle.lam_fraction.proofs.FractionBounds.{whole_positive, times-inverse}
use Rattle.lam_direction.specs.Circle.{CirclePoint, IsDirection}
use Rattle.lam_stock.specs.declared.item.Lamina.{Lamina}
use Rattle.lam_stock.specs.declared.item.Kind.{Kind}
use Rattle.lam_stock.specs.PlyLaw.{OffAxis, layer_stress}
use Rattle.lam_lamina.specs.Covered.{IsCovered}
use Rattle.lam_lamina.specs.Stiffness.{stress_of, stress_over, unit_x, unit_y, unit_s, stiffness_over, IsBounded}
use Rattle.lam_lamina.specs.declared.stiffness.Sym3.{Sym3}
use Rattle.lam_lamina.proofs.Bounds.{elastic, spans, scale_positive}
use Rattle.lam_stock.specs.Energy.{twice_energy, strain_squares}
use Rattle.lam_lamina.proofs.Form.{form-least, form-greatest, half_not_negative}
use Rattle.lam_lamina.proofs.Identities.{stiffness-gives}
use Rattle.lam_lamina.proofs.Moduli.{Underlies}
use Rattle.lam_stock.proofs.Angles.{two_halves}

-- ---- the twice_energy

work-over : (q0 : ℤ) (t e : OffAxis) → twice_energy (stress_over q0 t) e ≡ twice_energy t e *ℚ inverse (whole q0)
unfolding ◌-ℚ◌ ◌/ℚ◌
work-over q0 t e = by_ring (t.x ∷ t.y ∷ t.s ∷ e.x ∷ e.y ∷ e.s ∷ inverse (whole q0) ∷ []) (search quotes depth 40 fits 9000) refl

module _ {q0 : ℤ} (kind : Kind) {l : Lamina} {d : CirclePoint} (covered : IsCovered q0 l) (direction : IsDirection d) where
  scale : whole (pos 0) <ℚ whole q0
  scale = whole_positive (scale_positive covered)

  work-is : (e : OffAxis) → twice_energy (stress_of (stiffness_over q0 kind l d) e) e ≡ twice_energy (layer_stress kind l d e) e *ℚ inverse (whole q0)
  work-is e = ap (λ t. twice_energy t e) ((stiffness-gives q0 kind l d).gives e) ∙ work-over q0 (layer_stress kind l d e) e

  pub work-most : (e : OffAxis) → twice_energy (stress_of (stiffness_over q0 kind l d) e) e ≤ℚ strain_squares e
  unfolding ◌-ℚ◌ ◌/ℚ◌
  work-most e = subst (λ x. x ≤ℚ strain_squares e) (sym (work-is e))
      (at_most (above (form-greatest kind (elastic covered) (spans covered) direction e) *ₙ weaken (inverse_positive scale))
      (from₁ (opposite (strain_squares e)) (times-inverse scale)
      (solve 4 (λ w n k i. n ⊖ w ⊗ i ≐ (k ⊗ n ⊖ w) ⊗ i ⊕ minus n ⊗ (k ⊗ i ⊖ int (pos 1))) refl (twice_energy (layer_stress kind l d e) e) (strain_squares e) (whole q0) (inverse (whole q0)))))

  pub work-least : {floor : ℤ} → Underlies floor l → (e : OffAxis) → whole floor *ℚ strain_squares e ≤ℚ whole q0 *ℚ twice_energy (stress_of (stiffness_over q0 kind l d) e) e
  unfolding ◌-ℚ◌ ◌/ℚ◌
  work-least {floor} under e = subst (λ x. whole floor *ℚ strain_squares e ≤ℚ whole q0 *ℚ x) (sym (work-is e))
      (at_most (above (form-least kind (elastic covered) under direction e))
      (from₁ (twice_energy (layer_stress kind l d e) e) (times-inverse scale)
      (solve 4 (λ w n k i. k ⊗ (w ⊗ i) ⊖ n ≐ (w ⊖ n) ⊕ w ⊗ (k ⊗ i ⊖ int (pos 1))) refl (twice_energy (layer_stress kind l d e) e) (whole floor *ℚ strain_squares e) (whole q0) (inverse (whole q0)))))

  nothing-underlies : Underlies (pos 0) l
  unfolding ◌-ℚ◌ ◌/ℚ◌
  nothing-underlies =
      let along : pos 0 ≤ℤ l.e1 = omega (arith, ints, covered.range.least_e1) in
      let across : pos 0 ≤ℤ l.e2 = omega (arith, ints, covered.range.least_e2) in
      record {
        normal = Z.at_most (Z.◌*ₙ◌ along across) (Z.solve 2 (λ a b. a ⊗ b ⊖ int (pos 0) ⊗ (a ⊕ b) ≐ a ⊗ b) refl l.e1 l.e2);
        shear = omega (arith, ints, covered.range.least_g12);
      }

  work-not_negative : (e : OffAxis) → whole (pos 0) ≤ℚ twice_energy (stress_of (stiffness_over q0 kind l d) e) e
  unfolding ◌-ℚ◌ ◌/ℚ◌
  work-not_negative e = at_most_over scale (above (work-least nothing-underlies e))
      (solve 3 (λ w n k. k ⊗ (w ⊖ int (pos 0)) ≐ k ⊗ w ⊖ int (pos 0) ⊗ n) refl (twice_energy (stress_of (stiffness_over q0 kind l d) e) e) (strain_squares e) (whole q0))

-- ---- the entries of any matrix whose twice_energy lies between 0 and the strain_squares

half_at_most : whole (pos 0) ≤ℚ whole (pos 1) -ℚ fraction (pos 1) (pos 2)
unfolding ◌-ℚ◌ ◌/ℚ◌
half_at_most = subst (λ x. whole (pos 0) ≤ℚ x) is_half half_not_negative
  where
    is_half : fraction (pos 1) (pos 2) ≡ whole (pos 1) -ℚ fraction (pos 1) (pos 2)
    is_half = from₁ (whole (pos 1)) two_halves (solve 1 (λ h. h ≐ (int (pos 1) ⊖ h) ⊕ int (pos 1) ⊗ (h ⊗ int (pos 2) ⊖ int (pos 1))) refl (fraction (pos 1) (pos 2)))

module _ (m : Sym3 ℚ) (least : (e : OffAxis) → whole (pos 0) ≤ℚ twice_energy (stress_of m e) e) (most : (e : OffAxis) → twice_energy (stress_of m e) e ≤ℚ strain_squares e) where
  xx-least : whole (pos 0) ≤ℚ m.xx
  unfolding ◌-ℚ◌ ◌/ℚ◌
  xx-least = at_most (least unit_x) (by_ring (m.xx ∷ m.xy ∷ m.yy ∷ m.xs ∷ m.ys ∷ m.ss ∷ []) (search quotes depth 40 fits 9000) refl)

  yy-least : whole (pos 0) ≤ℚ m.yy
  unfolding ◌-ℚ◌ ◌/ℚ◌
  yy-least = at_most (least unit_y) (by_ring (m.xx ∷ m.xy ∷ m.yy ∷ m.xs ∷ m.ys ∷ m.ss ∷ []) (search quotes depth 40 fits 9000) refl)

  ss-least : whole (pos 0) ≤ℚ m.ss
  unfolding ◌-ℚ◌ ◌/ℚ◌
  ss-least = at_most (least unit_s) (by_ring (m.xx ∷ m.xy ∷ m.yy ∷ m.xs ∷ m.ys ∷ m.ss ∷ []) (search quotes depth 40 fits 9000) refl)

  xx-most : m.xx ≤ℚ whole (pos 1)
  unfolding ◌-ℚ◌ ◌/ℚ◌
  xx-most = at_most (above (most unit_x)) (by_ring (m.xx ∷ m.xy ∷ m.yy ∷ m.xs ∷ m.ys ∷ m.ss ∷ fraction (pos 1) (pos 2) ∷ []) (search quotes depth 40 fits 9000) refl)

  yy-most : m.yy ≤ℚ whole (pos 1)
  unfolding ◌-ℚ◌ ◌/ℚ◌
  yy-most = at_most (above (most unit_y)) (by_ring (m.xx ∷ m.xy ∷ m.yy ∷ m.xs ∷ m.ys ∷ m.ss ∷ fraction (pos 1) (pos 2) ∷ []) (search quotes depth 40 fits 9000) refl)

  ss-most : m.ss ≤ℚ whole (pos 1)
  unfolding ◌-ℚ◌ ◌/ℚ◌
  ss-most = at_most (above (most unit_s) +ₙ half_at_most) (by_ring (m.xx ∷ m.xy ∷ m.yy ∷ m.xs ∷ m.ys ∷ m.ss ∷ fraction (pos 1) (pos 2) ∷ []) (search quotes depth 40 fits 9000) refl)

  from-zero : {x : ℚ} → whole (pos 0) ≤ℚ x → opposite (whole (pos 1)) ≤ℚ x
  unfolding ◌-ℚ◌ ◌/ℚ◌
  from-zero {x} h = at_most (h +ₙ number 1) (solve 1 (λ x. x ⊖ minus (int (pos 1)) ≐ x ⊕ int (pos 1)) refl x)

  xy-most : m.xy ≤ℚ whole (pos 1)
  unfolding ◌-ℚ◌ ◌/ℚ◌
  xy-most = at_most_over (positive_number 1) (above (most (record { x = whole (pos 1); y = whole (pos 1); s = whole (pos 0) })) +ₙ xx-least +ₙ yy-least)
      (by_ring (m.xx ∷ m.xy ∷ m.yy ∷ m.xs ∷ m.ys ∷ m.ss ∷ fraction (pos 1) (pos 2) ∷ []) (search quotes depth 40 fits 9000) refl)

  xy-least : opposite (whole (pos 1)) ≤ℚ m.xy
  unfolding ◌-ℚ◌ ◌/ℚ◌
  xy-least = at_most_over (positive_number 1) (above (most (record { x = whole (pos 1); y = whole (negsuc 0); s = whole (pos 0) })) +ₙ xx-least +ₙ yy-least)
      (by_ring (m.xx ∷ m.xy ∷ m.yy ∷ m.xs ∷ m.ys ∷ m.ss ∷ fraction (pos 1) (pos 2) ∷ []) (search quotes depth 40 fits 9000) refl)

  xs-most : m.xs ≤ℚ whole (pos 1)
  unfolding ◌-ℚ◌ ◌/ℚ◌
  xs-most = at_most_over (positive_number 1) (above (most (record { x = whole (pos 1); y = whole (pos 0); s = whole (pos 1) })) +ₙ xx-least +ₙ ss-least +ₙ half_at_most)
      (by_ring (m.xx ∷ m.xy ∷ m.yy ∷ m.xs ∷ m.ys ∷ m.ss ∷ fraction (pos 1) (pos 2) ∷ []) (search quotes depth 40 fits 9000) refl)

  xs-least : opposite (whole (pos 1)) ≤ℚ m.xs
  unfolding ◌-ℚ◌ ◌/ℚ◌
  xs-least = at_most_over (positive_number 1) (above (most (record { x = whole (pos 1); y = whole (pos 0); s = whole (negsuc 0) })) +ₙ xx-least +ₙ ss-least +ₙ half_at_most)
      (by_ring (m.xx ∷ m.xy ∷ m.yy ∷ m.xs ∷ m.ys ∷ m.ss ∷ fraction (pos 1) (pos 2) ∷ []) (search quotes depth 40 fits 9000) refl)

  ys-most : m.ys ≤ℚ whole (pos 1)
  unfolding ◌-ℚ◌ ◌/ℚ◌
  ys-most = at_most_over (positive_number 1) (above (most (record { x = whole (pos 0); y = whole (pos 1); s = whole (pos 1) })) +ₙ yy-least +ₙ ss-least +ₙ half_at_most)
      (by_ring (m.xx ∷ m.xy ∷ m.yy ∷ m.xs ∷ m.ys ∷ m.ss ∷ fraction (pos 1) (pos 2) ∷ []) (search quotes depth 40 fits 9000) refl)

  ys-least : opposite (whole (pos 1)) ≤ℚ m.ys
  unfolding ◌-ℚ◌ ◌/ℚ◌
  ys-least = at_most_over (positive_number 1) (above (most (record { x = whole (pos 0); y = whole (pos 1); s = whole (negsuc 0) })) +ₙ yy-least +ₙ ss-least +ₙ half_at_most)
      (by_ring (m.xx ∷ m.xy ∷ m.yy ∷ m.xs ∷ m.ys ∷ m.ss ∷ fraction (pos 1) (pos 2) ∷ []) (search quotes depth 40 fits 9000) refl)

  bounded-by-work : IsBounded m
  bounded-by-work = record {
    xx = (from-zero xx-least, xx-most);
    xy = (xy-least, xy-most);
    yy = (from-zero yy-least, yy-most);
    xs = (xs-least, xs-most);
    ys = (ys-least, ys-most);
    ss = (from-zero ss-least, ss-most);
  }

pub entries-bounded : {q0 : ℤ} (kind : Kind) {l : Lamina} {d : CirclePoint} → IsCovered q0 l → IsDirection d → IsBounded (stiffness_over q0 kind l d)
entries-bounded {q0} kind {l} {d} covered direction =
    bounded-by-work (stiffness_over q0 kind l d) (work-not_negative kind covered direction) (work-most kind covered direction)
