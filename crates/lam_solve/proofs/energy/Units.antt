-- Strains near to a guess in whole units, between whole ends that are cut.
use Rattle.std.proofs.Common.{◌≡◌, refl, sym, ◌∙◌, ap, subst, ℤ, pos, neg_ℤ, ◌+ℤ◌, ◌-ℤ◌, ◌*ℤ◌, ◌≤ℤ◌, ◌<ℤ◌, ◌⊎◌, inl, inr, arith}
use Rattle.std.proofs.lemmas.Int.{ints, clamps}
use Rattle.std.specs.Int.{int_min, int_max}
use Rattle.lam_fraction.specs.Fraction.{ℚ, whole, fraction, ◌-ℚ◌, ◌*ℚ◌, opposite, ◌≤ℚ◌}
use Rattle.lam_fraction.proofs.Expression.{int, ◌⊕◌, ◌⊖◌, ◌⊗◌, minus}
use Rattle.lam_fraction.proofs.Solver.{◌≐◌}
use Rattle.lam_fraction.proofs.FractionBounds.{at_most_same, fraction-times, whole_positive}
use Rattle.lam_fraction.proofs.FractionRing.{whole-sum, whole-product}
use Rattle.lam_fraction.proofs.Rationals.{solve, from₁, from₂, above, at_most, at_most_over, same_without_factor, transitive, weaken, positive_number, ◌+ₙ◌, ◌*ₙ◌}
use Rattle.lam_fraction.proofs.WholeFractions.{twice_half, whole-difference, whole-opposite, whole_at_most}
use Rattle.lam_stock.specs.PlyLaw.{OffAxis}
use Rattle.lam_solve.specs.StrainBounds.{IsWithin, IsNear, StrainsNear, normal_bound}

-- three whole numbers of units
abbrev pub over : (unit x y s : ℤ) → OffAxis
over unit x y s = record { x = fraction x unit; y = fraction y unit; s = fraction s unit }

-- a number times a unit lies from one whole number to another
abbrev pub Between : (unit low high : ℤ) → ℚ → Type 0
Between unit low high x = (whole low ≤ℚ x *ℚ whole unit) × (x *ℚ whole unit ≤ℚ whole high)

-- strains e and bending strains k in units, each within a radius of a whole number
pub record StrainsBetween (unit ux uy us vx vy vs bound radius : ℤ) (e k : OffAxis) : Type 0 where
  pub ex : Between unit (ux -ℤ radius) (ux +ℤ radius) e.x
  pub ey : Between unit (uy -ℤ radius) (uy +ℤ radius) e.y
  pub es : Between unit (us -ℤ pos 4 *ℤ bound) (us +ℤ pos 4 *ℤ bound) e.s
  pub kx : Between unit (vx -ℤ pos 5 *ℤ bound) (vx +ℤ pos 5 *ℤ bound) k.x
  pub ky : Between unit (vy -ℤ pos 5 *ℤ bound) (vy +ℤ pos 5 *ℤ bound) k.y
  pub ks : Between unit (vs -ℤ pos 8 *ℤ bound) (vs +ℤ pos 8 *ℤ bound) k.s

-- the greater and the lesser of two bounds
whole-greater : (a b : ℤ) (y : ℚ) → whole a ≤ℚ y → whole b ≤ℚ y → whole (int_max a b) ≤ℚ y
whole-greater a b y h k = go (one_of a b)
  where
    one_of : (a b : ℤ) → (int_max a b ≡ a) ⊎ (int_max a b ≡ b)
    one_of a b = grind (arith, ints, clamps)

    go : (int_max a b ≡ a) ⊎ (int_max a b ≡ b) → whole (int_max a b) ≤ℚ y
    go (inl e) = subst (λ s. whole s ≤ℚ y) (sym e) h
    go (inr e) = subst (λ s. whole s ≤ℚ y) (sym e) k

whole-lesser : (a b : ℤ) (y : ℚ) → y ≤ℚ whole a → y ≤ℚ whole b → y ≤ℚ whole (int_min a b)
whole-lesser a b y h k = go (one_of a b)
  where
    one_of : (a b : ℤ) → (int_min a b ≡ a) ⊎ (int_min a b ≡ b)
    one_of a b = grind (arith, ints, clamps)

    go : (int_min a b ≡ a) ⊎ (int_min a b ≡ b) → y ≤ℚ whole (int_min a b)
    go (inl e) = subst (λ s. y ≤ℚ whole s) (sym e) h
    go (inr e) = subst (λ s. y ≤ℚ whole s) (sym e) k

module _ (unit : ℤ) (one : pos 0 <ℤ unit) where
  unit-above : whole (pos 0) ≤ℚ whole unit
  unit-above = weaken (whole_positive one)

  -- ---- near to a whole number of units

  pub near-units : {b x : ℚ} (centre radius : ℤ) → b *ℚ whole unit ≤ℚ whole radius → IsNear b (fraction centre unit) x
      → Between unit (centre -ℤ radius) (centre +ℤ radius) x
  unfolding ◌-ℚ◌
  near-units {b} {x} centre radius size near = (
    subst (λ s. s ≤ℚ x *ℚ whole unit) (sym (whole-difference centre radius)) (at_most (above near.from *ₙ unit-above +ₙ above size)
        (from₁ (whole (pos 1)) (fraction-times centre unit one)
        (solve 6 (λ b x f u c r. x ⊗ u ⊖ (c ⊖ r) ≐ (x ⊖ (f ⊖ b)) ⊗ u ⊕ (r ⊖ b ⊗ u) ⊕ int (pos 1) ⊗ (f ⊗ u ⊖ c)) refl
        b x (fraction centre unit) (whole unit) (whole centre) (whole radius)))),
    subst (λ s. x *ℚ whole unit ≤ℚ s) (sym (whole-sum centre radius)) (at_most (above near.to *ₙ unit-above +ₙ above size)
        (from₁ (opposite (whole (pos 1))) (fraction-times centre unit one)
        (solve 6 (λ b x f u c r. (c ⊕ r) ⊖ x ⊗ u ≐ ((f ⊕ b) ⊖ x) ⊗ u ⊕ (r ⊖ b ⊗ u) ⊕ minus (int (pos 1)) ⊗ (f ⊗ u ⊖ c)) refl
        b x (fraction centre unit) (whole unit) (whole centre) (whole radius)))),
  )

  -- a number of bounds, in units
  times-units : (k : ℤ) (bound radius : ℤ) → (k *ℤ bound) ≤ℤ radius → whole k *ℚ fraction bound unit *ℚ whole unit ≤ℚ whole radius
  unfolding ◌-ℚ◌
  times-units k bound radius h = at_most (above (whole_at_most h))
      (from₂ (opposite (whole k)) (fraction-times bound unit one) (whole (pos 1)) (whole-product k bound)
      (solve 6 (λ k b f u r p. r ⊖ k ⊗ f ⊗ u ≐ (r ⊖ p) ⊕ minus k ⊗ (f ⊗ u ⊖ b) ⊕ int (pos 1) ⊗ (p ⊖ k ⊗ b)) refl
      (whole k) (whole bound) (fraction bound unit) (whole unit) (whole radius) (whole (k *ℤ bound))))

  -- 5/2 of them
  normal-units : (bound radius : ℤ) → (pos 5 *ℤ bound) ≤ℤ (pos 2 *ℤ radius) → normal_bound (fraction bound unit) *ℚ whole unit ≤ℚ whole radius
  unfolding ◌-ℚ◌
  normal-units bound radius h = at_most_over (positive_number 1) (above (times-units (pos 5) bound (pos 2 *ℤ radius) h))
      (from₂ (fraction bound unit *ℚ whole unit) (twice_half (pos 5)) (opposite (whole (pos 1))) (whole-product (pos 2) radius)
      (solve 5 (λ f u r h p. int (pos 2) ⊗ (r ⊖ h ⊗ f ⊗ u) ≐ (p ⊖ int (pos 5) ⊗ f ⊗ u) ⊕ f ⊗ u ⊗ (int (pos 5) ⊖ int (pos 2) ⊗ h) ⊕ minus (int (pos 1)) ⊗ (p ⊖ int (pos 2) ⊗ r)) refl
      (fraction bound unit) (whole unit) (whole radius) (fraction (pos 5) (pos 2)) (whole (pos 2 *ℤ radius))))

  -- ---- the six strains near to a guess, by a bound in units, of which 5/2 are the radius of the normal strains
  pub strains-units : (ux uy us vx vy vs bound radius : ℤ) (e k : OffAxis) → (pos 5 *ℤ bound) ≤ℤ (pos 2 *ℤ radius)
      → StrainsNear (fraction bound unit) (over unit ux uy us) (over unit vx vy vs) e k → StrainsBetween unit ux uy us vx vy vs bound radius e k
  strains-units ux uy us vx vy vs bound radius e k halved near = record {
    ex = near-units ux radius (normal-units bound radius halved) near.ex;
    ey = near-units uy radius (normal-units bound radius halved) near.ey;
    es = near-units us (pos 4 *ℤ bound) (times-units (pos 4) bound (pos 4 *ℤ bound) (omega (arith, ints))) near.es;
    kx = near-units vx (pos 5 *ℤ bound) (times-units (pos 5) bound (pos 5 *ℤ bound) (omega (arith, ints))) near.kx;
    ky = near-units vy (pos 5 *ℤ bound) (times-units (pos 5) bound (pos 5 *ℤ bound) (omega (arith, ints))) near.ky;
    ks = near-units vs (pos 8 *ℤ bound) (times-units (pos 8) bound (pos 8 *ℤ bound) (omega (arith, ints))) near.ks;
  }

  -- a bound by a residual in units
  pub bound-units : (residual bound q0 floor : ℤ) → (residual *ℤ q0) ≤ℤ (bound *ℤ floor) → fraction residual unit *ℚ whole q0 ≤ℚ fraction bound unit *ℚ whole floor
  unfolding ◌-ℚ◌
  bound-units residual bound q0 floor h = at_most_over (whole_positive one) (above (transitive (times residual q0).1 (transitive (whole_at_most h) (times bound floor).0)))
      (solve 5 (λ u r q b f. u ⊗ (b ⊗ f ⊖ r ⊗ q) ≐ u ⊗ (b ⊗ f) ⊖ u ⊗ (r ⊗ q)) refl (whole unit) (fraction residual unit) (whole q0) (fraction bound unit) (whole floor))
    where
      same : (z d : ℤ) → whole unit *ℚ (fraction z unit *ℚ whole d) ≡ whole (z *ℤ d)
      same z d =
          solve 3 (λ u f d. u ⊗ (f ⊗ d) ≐ f ⊗ u ⊗ d) refl (whole unit) (fraction z unit) (whole d)
          ∙ ap (λ s. s *ℚ whole d) (fraction-times z unit one) ∙ sym (whole-product z d)

      times : (z d : ℤ) → (whole (z *ℤ d) ≤ℚ whole unit *ℚ (fraction z unit *ℚ whole d)) × (whole unit *ℚ (fraction z unit *ℚ whole d) ≤ℚ whole (z *ℤ d))
      times z d = (at_most_same (sym (same z d)), at_most_same (same z d))

  -- ---- a bound of the size, as 5/2 of the unit

  pub within-units : {x : ℚ} (most : ℤ) → pos 2 *ℤ most ≡ pos 5 *ℤ unit → IsWithin (fraction (pos 5) (pos 2)) x → Between unit (neg_ℤ most) most x
  unfolding ◌-ℚ◌
  within-units {x} most e w = (
    subst (λ s. s ≤ℚ x *ℚ whole unit) (sym (whole-opposite most)) (at_most (above w.from *ₙ unit-above)
        (from₁ (whole (pos 1)) reach (solve 4 (λ x u m h. x ⊗ u ⊖ minus m ≐ (x ⊖ minus h) ⊗ u ⊕ int (pos 1) ⊗ (m ⊖ h ⊗ u)) refl x (whole unit) (whole most) (fraction (pos 5) (pos 2))))),
    at_most (above w.to *ₙ unit-above)
        (from₁ (whole (pos 1)) reach (solve 4 (λ x u m h. m ⊖ x ⊗ u ≐ (h ⊖ x) ⊗ u ⊕ int (pos 1) ⊗ (m ⊖ h ⊗ u)) refl x (whole unit) (whole most) (fraction (pos 5) (pos 2)))),
  )
    where
      reach : whole most ≡ fraction (pos 5) (pos 2) *ℚ whole unit
      reach = same_without_factor (whole (pos 2)) (positive_number 1)
          (sym (whole-product (pos 2) most) ∙ ap whole e ∙ whole-product (pos 5) unit ∙ ap (λ s. s *ℚ whole unit) (twice_half (pos 5))
          ∙ solve 2 (λ h u. int (pos 2) ⊗ h ⊗ u ≐ int (pos 2) ⊗ (h ⊗ u)) refl (fraction (pos 5) (pos 2)) (whole unit))

  -- ends that are cut to what the size may be
  pub cut-units : (low high most : ℤ) (x : ℚ) → Between unit low high x → Between unit (neg_ℤ most) most x
      → Between unit (int_max (int_min low most) (neg_ℤ most)) (int_max (int_min high most) (neg_ℤ most)) x
  cut-units low high most x b w = (
    whole-greater (int_min low most) (neg_ℤ most) (x *ℚ whole unit) (transitive (whole_at_most (omega (arith, ints, clamps))) b.0) w.0,
    transitive (whole-lesser high most (x *ℚ whole unit) b.1 w.1) (whole_at_most (omega (arith, ints, clamps))),
  )

  -- the ends as fractions
  pub between-fractions : (low high : ℤ) (x : ℚ) → Between unit low high x → (fraction low unit ≤ℚ x) × (x ≤ℚ fraction high unit)
  unfolding ◌-ℚ◌
  between-fractions low high x b = (
    at_most_over (whole_positive one) (above b.0)
        (from₁ (opposite (whole (pos 1))) (fraction-times low unit one) (solve 4 (λ x u f l. u ⊗ (x ⊖ f) ≐ (x ⊗ u ⊖ l) ⊕ minus (int (pos 1)) ⊗ (f ⊗ u ⊖ l)) refl x (whole unit) (fraction low unit) (whole low))),
    at_most_over (whole_positive one) (above b.1)
        (from₁ (whole (pos 1)) (fraction-times high unit one) (solve 4 (λ x u f h. u ⊗ (f ⊖ x) ≐ (h ⊖ x ⊗ u) ⊕ int (pos 1) ⊗ (f ⊗ u ⊖ h)) refl x (whole unit) (fraction high unit) (whole high))),
  )
