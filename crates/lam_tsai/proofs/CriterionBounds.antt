-- How small the criterion's value can be, and where it is great: of any coefficients that the limits on strengths allow.
use Rattle.std.proofs.Common.{◌≡◌, refl, sym, ◌∙◌, subst, pos}
use Rattle.lam_fraction.specs.Fraction.{ℚ, whole, ◌+ℚ◌, ◌-ℚ◌, ◌*ℚ◌, opposite, inverse, ◌≤ℚ◌, ◌<ℚ◌}
use Rattle.lam_fraction.proofs.Expression.{int, ◌⊕◌, ◌⊖◌, ◌⊗◌, minus}
use Rattle.lam_fraction.proofs.Solver.{◌≐◌}
use Rattle.lam_fraction.proofs.Rationals.{solve, from₁, above, weaken, at_most, at_most_over, below, below_over, number, positive_number, square, ◌+ₙ◌, ◌*ₙ◌, ◌+ₚ◌, ◌*ₚ◌}
use Rattle.lam_fraction.proofs.FractionBounds.{times-inverse}

-- of an axis: a of y/16 and p of its square, with p from 1/16 to 1 and 256 a at most 16 p - 1 in size
pub record IsAxis (a p : ℚ) : Type 0 where
  pub least : whole (pos 1) ≤ℚ whole (pos 16) *ℚ p
  pub most : p ≤ℚ whole (pos 1)
  pub from : whole (pos 1) ≤ℚ whole (pos 16) *ℚ p +ℚ whole (pos 256) *ℚ a
  pub to : whole (pos 1) +ℚ whole (pos 256) *ℚ a ≤ℚ whole (pos 16) *ℚ p

-- of the product of both: its square is at most three times the product of those of the squares
abbrev pub IsJoint : ℚ → ℚ → ℚ → Type 0
IsJoint m p q = m *ℚ m ≤ℚ whole (pos 3) *ℚ (p *ℚ q)

square_positive : {a p : ℚ} → IsAxis a p → whole (pos 0) <ℚ p
unfolding ◌-ℚ◌
square_positive {a} {p} h = below_over (positive_number 15) (positive_number 0 +ₚ above h.least) (solve 1 (λ p. int (pos 16) ⊗ (p ⊖ int (pos 0)) ≐ int (pos 1) ⊕ (int (pos 16) ⊗ p ⊖ int (pos 1))) refl p)

-- the terms of an axis, with an eighth of the square
abbrev pub eighth_terms : ℚ → ℚ → ℚ → ℚ
eighth_terms a p y = whole (pos 4096) *ℚ (p *ℚ (y *ℚ y)) +ℚ whole (pos 32768) *ℚ (a *ℚ y)

pub axis-least : {a p : ℚ} → IsAxis a p → (y : ℚ) → whole (pos 0) ≤ℚ eighth_terms a p y +ℚ whole (pos 225)
unfolding ◌-ℚ◌
axis-least {a} {p} h y =
    at_most_over {k = p} (square_positive h)
    (square (whole (pos 64) *ℚ (p *ℚ y) +ℚ whole (pos 256) *ℚ a) +ₙ above h.to *ₙ above h.from +ₙ (number 16 *ₙ above h.least +ₙ number 15) *ₙ above h.most)
    (solve 3 (λ a p y.
    p ⊗ ((int (pos 4096) ⊗ (p ⊗ (y ⊗ y)) ⊕ int (pos 32768) ⊗ (a ⊗ y) ⊕ int (pos 225)) ⊖ int (pos 0))
    ≐ (int (pos 64) ⊗ (p ⊗ y) ⊕ int (pos 256) ⊗ a) ⊗ (int (pos 64) ⊗ (p ⊗ y) ⊕ int (pos 256) ⊗ a)
    ⊕ (int (pos 16) ⊗ p ⊖ (int (pos 1) ⊕ int (pos 256) ⊗ a)) ⊗ ((int (pos 16) ⊗ p ⊕ int (pos 256) ⊗ a) ⊖ int (pos 1))
    ⊕ (int (pos 16) ⊗ (int (pos 16) ⊗ p ⊖ int (pos 1)) ⊕ int (pos 15)) ⊗ (int (pos 1) ⊖ p)) refl a p y)

-- from 1 on, and to -1
pub axis-above : {a p : ℚ} → IsAxis a p → (y : ℚ) → whole (pos 1) ≤ℚ y → whole (pos 256) ≤ℚ eighth_terms a p y
unfolding ◌-ℚ◌
axis-above {a} {p} h y more =
    let some = number 1 +ₙ above more in
    at_most
    (number 8 *ₙ (number 512 *ₙ (weaken (square_positive h) *ₙ some *ₙ above more) +ₙ number 16 *ₙ (above h.from *ₙ some) +ₙ number 16 *ₙ (above h.least *ₙ some) +ₙ number 32 *ₙ above more))
    (solve 3 (λ a p y.
    (int (pos 4096) ⊗ (p ⊗ (y ⊗ y)) ⊕ int (pos 32768) ⊗ (a ⊗ y)) ⊖ int (pos 256)
    ≐ int (pos 8) ⊗ (int (pos 512) ⊗ (p ⊗ (int (pos 1) ⊕ (y ⊖ int (pos 1))) ⊗ (y ⊖ int (pos 1)))
    ⊕ int (pos 16) ⊗ (((int (pos 16) ⊗ p ⊕ int (pos 256) ⊗ a) ⊖ int (pos 1)) ⊗ (int (pos 1) ⊕ (y ⊖ int (pos 1))))
    ⊕ int (pos 16) ⊗ ((int (pos 16) ⊗ p ⊖ int (pos 1)) ⊗ (int (pos 1) ⊕ (y ⊖ int (pos 1))))
    ⊕ int (pos 32) ⊗ (y ⊖ int (pos 1)))) refl a p y)

pub axis-below : {a p : ℚ} → IsAxis a p → (y : ℚ) → y ≤ℚ opposite (whole (pos 1)) → whole (pos 256) ≤ℚ eighth_terms a p y
unfolding ◌-ℚ◌
axis-below {a} {p} h y less =
    let some = number 1 +ₙ above less in
    at_most
    (number 8 *ₙ (number 512 *ₙ (weaken (square_positive h) *ₙ some *ₙ above less) +ₙ number 16 *ₙ (above h.to *ₙ some) +ₙ number 16 *ₙ (above h.least *ₙ some) +ₙ number 32 *ₙ above less))
    (solve 3 (λ a p y.
    (int (pos 4096) ⊗ (p ⊗ (y ⊗ y)) ⊕ int (pos 32768) ⊗ (a ⊗ y)) ⊖ int (pos 256)
    ≐ int (pos 8) ⊗ (int (pos 512) ⊗ (p ⊗ (int (pos 1) ⊕ (minus (int (pos 1)) ⊖ y)) ⊗ (minus (int (pos 1)) ⊖ y))
    ⊕ int (pos 16) ⊗ ((int (pos 16) ⊗ p ⊖ (int (pos 1) ⊕ int (pos 256) ⊗ a)) ⊗ (int (pos 1) ⊕ (minus (int (pos 1)) ⊖ y)))
    ⊕ int (pos 16) ⊗ ((int (pos 16) ⊗ p ⊖ int (pos 1)) ⊗ (int (pos 1) ⊕ (minus (int (pos 1)) ⊖ y)))
    ⊕ int (pos 32) ⊗ (minus (int (pos 1)) ⊖ y))) refl a p y)

-- the product of both is no less than seven eighths of the squares allow
pub joint-least : {a b p q : ℚ} (m : ℚ) → IsAxis a p → IsAxis b q → IsJoint m p q → (y z : ℚ)
    → whole (pos 0) ≤ℚ whole (pos 7) *ℚ (p *ℚ (y *ℚ y) +ℚ q *ℚ (z *ℚ z)) +ℚ whole (pos 8) *ℚ (m *ℚ (y *ℚ z))
unfolding ◌-ℚ◌
joint-least {a} {b} {p} {q} m h k joint y z =
    at_most_over {k = whole (pos 7) *ℚ p} (positive_number 6 *ₚ square_positive h)
    (square (whole (pos 7) *ℚ (p *ℚ y) +ℚ whole (pos 4) *ℚ (m *ℚ z)) +ₙ (number 16 *ₙ above joint +ₙ weaken (square_positive h) *ₙ weaken (square_positive k)) *ₙ square z)
    (solve 5 (λ p q m y z.
    (int (pos 7) ⊗ p) ⊗ ((int (pos 7) ⊗ (p ⊗ (y ⊗ y) ⊕ q ⊗ (z ⊗ z)) ⊕ int (pos 8) ⊗ (m ⊗ (y ⊗ z))) ⊖ int (pos 0))
    ≐ (int (pos 7) ⊗ (p ⊗ y) ⊕ int (pos 4) ⊗ (m ⊗ z)) ⊗ (int (pos 7) ⊗ (p ⊗ y) ⊕ int (pos 4) ⊗ (m ⊗ z))
    ⊕ (int (pos 16) ⊗ (int (pos 3) ⊗ (p ⊗ q) ⊖ m ⊗ m) ⊕ p ⊗ q) ⊗ (z ⊗ z)) refl p q m y z)

-- ---- all of it: the value over 4096 parts, in parts of which 32768 make one

abbrev pub terms : ℚ → ℚ → ℚ → ℚ → ℚ → ℚ → ℚ → ℚ → ℚ
terms a b p q m y z s = a *ℚ y +ℚ p *ℚ (y *ℚ y) +ℚ (b *ℚ z +ℚ q *ℚ (z *ℚ z)) +ℚ (m *ℚ (y *ℚ z) +ℚ (s *ℚ s) *ℚ inverse (whole (pos 16)))

sixteen : inverse (whole (pos 16)) *ℚ whole (pos 16) ≡ whole (pos 1)
unfolding ◌-ℚ◌
sixteen = solve 2 (λ i k. i ⊗ k ≐ k ⊗ i) refl (inverse (whole (pos 16))) (whole (pos 16)) ∙ times-inverse (positive_number 15)

terms-are : (a b p q m y z s : ℚ)
    → whole (pos 32768) *ℚ terms a b p q m y z s
    ≡ eighth_terms a p y +ℚ eighth_terms b q z +ℚ whole (pos 4096) *ℚ (whole (pos 7) *ℚ (p *ℚ (y *ℚ y) +ℚ q *ℚ (z *ℚ z)) +ℚ whole (pos 8) *ℚ (m *ℚ (y *ℚ z))) +ℚ whole (pos 2048) *ℚ (s *ℚ s)
unfolding ◌-ℚ◌
terms-are a b p q m y z s =
    from₁ (whole (pos 2048) *ℚ (s *ℚ s)) sixteen
    (solve 9 (λ a b p q m y z s i.
    int (pos 32768) ⊗ (a ⊗ y ⊕ p ⊗ (y ⊗ y) ⊕ (b ⊗ z ⊕ q ⊗ (z ⊗ z)) ⊕ (m ⊗ (y ⊗ z) ⊕ (s ⊗ s) ⊗ i))
    ≐ (int (pos 4096) ⊗ (p ⊗ (y ⊗ y)) ⊕ int (pos 32768) ⊗ (a ⊗ y)) ⊕ (int (pos 4096) ⊗ (q ⊗ (z ⊗ z)) ⊕ int (pos 32768) ⊗ (b ⊗ z))
    ⊕ int (pos 4096) ⊗ (int (pos 7) ⊗ (p ⊗ (y ⊗ y) ⊕ q ⊗ (z ⊗ z)) ⊕ int (pos 8) ⊗ (m ⊗ (y ⊗ z))) ⊕ int (pos 2048) ⊗ (s ⊗ s)
    ⊕ int (pos 2048) ⊗ (s ⊗ s) ⊗ (i ⊗ int (pos 16) ⊖ int (pos 1))) refl a b p q m y z s (inverse (whole (pos 16))))

module _ {a b p q : ℚ} (m : ℚ) (h : IsAxis a p) (k : IsAxis b q) (joint : IsJoint m p q) (y z s : ℚ) where
  abbrev value : ℚ
  value = terms a b p q m y z s

  -- no value is below -56.25 of 4096 parts
  pub terms-least : whole (pos 0) ≤ℚ whole (pos 32768) *ℚ value +ℚ whole (pos 450)
  unfolding ◌-ℚ◌
  terms-least = subst (λ t. whole (pos 0) ≤ℚ t +ℚ whole (pos 450)) (sym (terms-are a b p q m y z s))
      (at_most (axis-least h y +ₙ axis-least k z +ₙ number 4096 *ₙ joint-least m h k joint y z +ₙ number 2048 *ₙ square s)
      (solve 4 (λ e f g t. (e ⊕ f ⊕ int (pos 4096) ⊗ g ⊕ int (pos 2048) ⊗ t ⊕ int (pos 450)) ⊖ int (pos 0) ≐ (e ⊕ int (pos 225)) ⊕ (f ⊕ int (pos 225)) ⊕ int (pos 4096) ⊗ g ⊕ int (pos 2048) ⊗ t)
      refl (eighth_terms a p y) (eighth_terms b q z) (whole (pos 7) *ℚ (p *ℚ (y *ℚ y) +ℚ q *ℚ (z *ℚ z)) +ℚ whole (pos 8) *ℚ (m *ℚ (y *ℚ z))) (s *ℚ s)))

  -- it is above 2 of them where one stress is great, whatever the others are
  pub along-far : whole (pos 256) ≤ℚ eighth_terms a p y → whole (pos 16) <ℚ whole (pos 32768) *ℚ value
  unfolding ◌-ℚ◌
  along-far great = subst (λ t. whole (pos 16) <ℚ t) (sym (terms-are a b p q m y z s))
      (below (positive_number 14 +ₚ (above great +ₙ axis-least k z +ₙ number 4096 *ₙ joint-least m h k joint y z +ₙ number 2048 *ₙ square s))
      (solve 4 (λ e f g t. (e ⊕ f ⊕ int (pos 4096) ⊗ g ⊕ int (pos 2048) ⊗ t) ⊖ int (pos 16) ≐ int (pos 15) ⊕ ((e ⊖ int (pos 256)) ⊕ (f ⊕ int (pos 225)) ⊕ int (pos 4096) ⊗ g ⊕ int (pos 2048) ⊗ t))
      refl (eighth_terms a p y) (eighth_terms b q z) (whole (pos 7) *ℚ (p *ℚ (y *ℚ y) +ℚ q *ℚ (z *ℚ z)) +ℚ whole (pos 8) *ℚ (m *ℚ (y *ℚ z))) (s *ℚ s)))

  pub across-far : whole (pos 256) ≤ℚ eighth_terms b q z → whole (pos 16) <ℚ whole (pos 32768) *ℚ value
  unfolding ◌-ℚ◌
  across-far great = subst (λ t. whole (pos 16) <ℚ t) (sym (terms-are a b p q m y z s))
      (below (positive_number 14 +ₚ (axis-least h y +ₙ above great +ₙ number 4096 *ₙ joint-least m h k joint y z +ₙ number 2048 *ₙ square s))
      (solve 4 (λ e f g t. (e ⊕ f ⊕ int (pos 4096) ⊗ g ⊕ int (pos 2048) ⊗ t) ⊖ int (pos 16) ≐ int (pos 15) ⊕ ((e ⊕ int (pos 225)) ⊕ (f ⊖ int (pos 256)) ⊕ int (pos 4096) ⊗ g ⊕ int (pos 2048) ⊗ t))
      refl (eighth_terms a p y) (eighth_terms b q z) (whole (pos 7) *ℚ (p *ℚ (y *ℚ y) +ℚ q *ℚ (z *ℚ z)) +ℚ whole (pos 8) *ℚ (m *ℚ (y *ℚ z))) (s *ℚ s)))

  pub shear-far : whole (pos 1) ≤ℚ s *ℚ s → whole (pos 16) <ℚ whole (pos 32768) *ℚ value
  unfolding ◌-ℚ◌
  shear-far great = subst (λ t. whole (pos 16) <ℚ t) (sym (terms-are a b p q m y z s))
      (below (positive_number 1581 +ₚ (axis-least h y +ₙ axis-least k z +ₙ number 4096 *ₙ joint-least m h k joint y z +ₙ number 2048 *ₙ above great))
      (solve 4 (λ e f g t. (e ⊕ f ⊕ int (pos 4096) ⊗ g ⊕ int (pos 2048) ⊗ t) ⊖ int (pos 16) ≐ int (pos 1582) ⊕ ((e ⊕ int (pos 225)) ⊕ (f ⊕ int (pos 225)) ⊕ int (pos 4096) ⊗ g ⊕ int (pos 2048) ⊗ (t ⊖ int (pos 1))))
      refl (eighth_terms a p y) (eighth_terms b q z) (whole (pos 7) *ℚ (p *ℚ (y *ℚ y) +ℚ q *ℚ (z *ℚ z)) +ℚ whole (pos 8) *ℚ (m *ℚ (y *ℚ z))) (s *ℚ s)))

-- a size of at least one
pub square-above : (s : ℚ) → whole (pos 1) ≤ℚ s → whole (pos 1) ≤ℚ s *ℚ s
unfolding ◌-ℚ◌
square-above s h = at_most (above h *ₙ above h +ₙ number 2 *ₙ above h) (solve 1 (λ s. s ⊗ s ⊖ int (pos 1) ≐ (s ⊖ int (pos 1)) ⊗ (s ⊖ int (pos 1)) ⊕ int (pos 2) ⊗ (s ⊖ int (pos 1))) refl s)

pub square-below : (s : ℚ) → s ≤ℚ opposite (whole (pos 1)) → whole (pos 1) ≤ℚ s *ℚ s
unfolding ◌-ℚ◌
square-below s h = at_most (above h *ₙ above h +ₙ number 2 *ₙ above h) (solve 1 (λ s. s ⊗ s ⊖ int (pos 1) ≐ (minus (int (pos 1)) ⊖ s) ⊗ (minus (int (pos 1)) ⊖ s) ⊕ int (pos 2) ⊗ (minus (int (pos 1)) ⊖ s)) refl s)
