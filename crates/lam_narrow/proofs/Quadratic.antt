-- A quadratic form of three unknowns, of which the third is by itself, with a linear part: its slopes, by its value.
use Rattle.std.proofs.Common.{◌≡◌, refl, subst, pos, negsuc}
use Rattle.lam_fraction.specs.Fraction.{ℚ, whole, ◌+ℚ◌, ◌-ℚ◌, ◌*ℚ◌, ◌≤ℚ◌, ◌<ℚ◌}
use Rattle.lam_fraction.proofs.Expression.{int, ◌⊕◌, ◌⊖◌, ◌⊗◌}
use Rattle.lam_fraction.proofs.Solver.{◌≐◌}
use Rattle.lam_fraction.proofs.Rationals.{solve, from₁, from₂, above, weaken, at_most, at_most_over, below_over, square, number, positive_number, ◌+ₙ◌, ◌*ₙ◌, ◌+ₚ◌, ◌*ₚ◌}

abbrev pub form : (p q m r x y z : ℚ) → ℚ
form p q m r x y z = p *ℚ (x *ℚ x) +ℚ q *ℚ (y *ℚ y) +ℚ m *ℚ (x *ℚ y) +ℚ r *ℚ (z *ℚ z)

abbrev pub value : (p q m r a b u v w : ℚ) → ℚ
value p q m r a b u v w = form p q m r u v w +ℚ a *ℚ u +ℚ b *ℚ v

-- the slope along one of the first two unknowns
abbrev pub slope : (p m a u v : ℚ) → ℚ
slope p m a u v = whole (pos 2) *ℚ (p *ℚ u) +ℚ m *ℚ v +ℚ a

-- the slopes times the distances x, y and z
abbrev pub tilt : (p q m r a b u v w x y z : ℚ) → ℚ
tilt p q m r a b u v w x y z = slope p m a u v *ℚ x +ℚ slope q m b v u *ℚ y +ℚ whole (pos 2) *ℚ (r *ℚ w) *ℚ z

-- the value at a distance
pub moved : (p q m r a b u v w x y z : ℚ) → value p q m r a b (u +ℚ x) (v +ℚ y) (w +ℚ z) ≡ value p q m r a b u v w +ℚ (tilt p q m r a b u v w x y z +ℚ form p q m r x y z)
moved p q m r a b u v w x y z =
    solve 12 (λ p q m r a b u v w x y z.
    (p ⊗ ((u ⊕ x) ⊗ (u ⊕ x)) ⊕ q ⊗ ((v ⊕ y) ⊗ (v ⊕ y)) ⊕ m ⊗ ((u ⊕ x) ⊗ (v ⊕ y)) ⊕ r ⊗ ((w ⊕ z) ⊗ (w ⊕ z))) ⊕ a ⊗ (u ⊕ x) ⊕ b ⊗ (v ⊕ y)
    ≐ ((p ⊗ (u ⊗ u) ⊕ q ⊗ (v ⊗ v) ⊕ m ⊗ (u ⊗ v) ⊕ r ⊗ (w ⊗ w)) ⊕ a ⊗ u ⊕ b ⊗ v)
    ⊕ (((int (pos 2) ⊗ (p ⊗ u) ⊕ m ⊗ v ⊕ a) ⊗ x ⊕ (int (pos 2) ⊗ (q ⊗ v) ⊕ m ⊗ u ⊕ b) ⊗ y ⊕ int (pos 2) ⊗ (r ⊗ w) ⊗ z)
    ⊕ (p ⊗ (x ⊗ x) ⊕ q ⊗ (y ⊗ y) ⊕ m ⊗ (x ⊗ y) ⊕ r ⊗ (z ⊗ z)))) refl p q m r a b u v w x y z

-- ---- a form whose mixed coefficient is small

-- the mixed term is no less than seven eighths of the squares allow, with either sign
pub mixed_least : (p q m x y : ℚ) → whole (pos 0) <ℚ p → whole (pos 0) ≤ℚ q → m *ℚ m ≤ℚ whole (pos 3) *ℚ (p *ℚ q)
    → whole (pos 0) ≤ℚ whole (pos 7) *ℚ (p *ℚ (x *ℚ x) +ℚ q *ℚ (y *ℚ y)) +ℚ whole (pos 8) *ℚ (m *ℚ (x *ℚ y))
unfolding ◌-ℚ◌
mixed_least p q m x y pp qq h =
    at_most_over {k = whole (pos 7) *ℚ p} (positive_number 6 *ₚ pp)
    (square (whole (pos 7) *ℚ (p *ℚ x) +ℚ whole (pos 4) *ℚ (m *ℚ y)) +ₙ (number 16 *ₙ above h +ₙ weaken pp *ₙ qq) *ₙ square y)
    (solve 5 (λ p q m x y.
    (int (pos 7) ⊗ p) ⊗ ((int (pos 7) ⊗ (p ⊗ (x ⊗ x) ⊕ q ⊗ (y ⊗ y)) ⊕ int (pos 8) ⊗ (m ⊗ (x ⊗ y))) ⊖ int (pos 0))
    ≐ (int (pos 7) ⊗ (p ⊗ x) ⊕ int (pos 4) ⊗ (m ⊗ y)) ⊗ (int (pos 7) ⊗ (p ⊗ x) ⊕ int (pos 4) ⊗ (m ⊗ y))
    ⊕ (int (pos 16) ⊗ (int (pos 3) ⊗ (p ⊗ q) ⊖ m ⊗ m) ⊕ p ⊗ q) ⊗ (y ⊗ y)) refl p q m x y)

pub mixed_most : (p q m x y : ℚ) → whole (pos 0) <ℚ p → whole (pos 0) ≤ℚ q → m *ℚ m ≤ℚ whole (pos 3) *ℚ (p *ℚ q)
    → whole (pos 8) *ℚ (m *ℚ (x *ℚ y)) ≤ℚ whole (pos 7) *ℚ (p *ℚ (x *ℚ x) +ℚ q *ℚ (y *ℚ y))
unfolding ◌-ℚ◌
mixed_most p q m x y pp qq h =
    at_most_over {k = whole (pos 7) *ℚ p} (positive_number 6 *ₚ pp)
    (square (whole (pos 7) *ℚ (p *ℚ x) -ℚ whole (pos 4) *ℚ (m *ℚ y)) +ₙ (number 16 *ₙ above h +ₙ weaken pp *ₙ qq) *ₙ square y)
    (solve 5 (λ p q m x y.
    (int (pos 7) ⊗ p) ⊗ (int (pos 7) ⊗ (p ⊗ (x ⊗ x) ⊕ q ⊗ (y ⊗ y)) ⊖ int (pos 8) ⊗ (m ⊗ (x ⊗ y)))
    ≐ (int (pos 7) ⊗ (p ⊗ x) ⊖ int (pos 4) ⊗ (m ⊗ y)) ⊗ (int (pos 7) ⊗ (p ⊗ x) ⊖ int (pos 4) ⊗ (m ⊗ y))
    ⊕ (int (pos 16) ⊗ (int (pos 3) ⊗ (p ⊗ q) ⊖ m ⊗ m) ⊕ p ⊗ q) ⊗ (y ⊗ y)) refl p q m x y)

-- ---- the slopes

-- four times the determinant of the first two unknowns
abbrev rest : (p q m : ℚ) → ℚ
rest p q m = whole (pos 4) *ℚ (p *ℚ q) -ℚ m *ℚ m

-- the form turned over, of slopes g and h
abbrev turned : (p q m g h : ℚ) → ℚ
turned p q m g h = q *ℚ (g *ℚ g) -ℚ m *ℚ (g *ℚ h) +ℚ p *ℚ (h *ℚ h)

-- the square of a sum of three products, by the squares of both sides (Lagrange)
lagrange : (e s f y z g h w : ℚ)
    → (f *ℚ f +ℚ e *ℚ (y *ℚ y) +ℚ s *ℚ (z *ℚ z)) *ℚ (e *ℚ (g *ℚ g) +ℚ h *ℚ h +ℚ s *ℚ e *ℚ (w *ℚ w)) -ℚ e *ℚ ((g *ℚ f +ℚ h *ℚ y +ℚ s *ℚ (w *ℚ z)) *ℚ (g *ℚ f +ℚ h *ℚ y +ℚ s *ℚ (w *ℚ z)))
    ≡ (f *ℚ h -ℚ e *ℚ (y *ℚ g)) *ℚ (f *ℚ h -ℚ e *ℚ (y *ℚ g)) +ℚ s *ℚ e *ℚ ((f *ℚ w -ℚ z *ℚ g) *ℚ (f *ℚ w -ℚ z *ℚ g)) +ℚ s *ℚ ((e *ℚ (y *ℚ w) -ℚ z *ℚ h) *ℚ (e *ℚ (y *ℚ w) -ℚ z *ℚ h))
unfolding ◌-ℚ◌
lagrange e s f y z g h w =
    solve 8 (λ e s f y z g h w.
    (f ⊗ f ⊕ e ⊗ (y ⊗ y) ⊕ s ⊗ (z ⊗ z)) ⊗ (e ⊗ (g ⊗ g) ⊕ h ⊗ h ⊕ s ⊗ e ⊗ (w ⊗ w)) ⊖ e ⊗ ((g ⊗ f ⊕ h ⊗ y ⊕ s ⊗ (w ⊗ z)) ⊗ (g ⊗ f ⊕ h ⊗ y ⊕ s ⊗ (w ⊗ z)))
    ≐ (f ⊗ h ⊖ e ⊗ (y ⊗ g)) ⊗ (f ⊗ h ⊖ e ⊗ (y ⊗ g)) ⊕ s ⊗ e ⊗ ((f ⊗ w ⊖ z ⊗ g) ⊗ (f ⊗ w ⊖ z ⊗ g)) ⊕ s ⊗ ((e ⊗ (y ⊗ w) ⊖ z ⊗ h) ⊗ (e ⊗ (y ⊗ w) ⊖ z ⊗ h))) refl e s f y z g h w

-- the square of the slopes times the distances (Cauchy), of any slopes g and h and one of 2 r w
cauchy : (p q m r g h w x y z : ℚ) → whole (pos 0) <ℚ p → whole (pos 0) ≤ℚ r → whole (pos 0) ≤ℚ rest p q m
    → rest p q m *ℚ ((g *ℚ x +ℚ h *ℚ y +ℚ whole (pos 2) *ℚ (r *ℚ w) *ℚ z) *ℚ (g *ℚ x +ℚ h *ℚ y +ℚ whole (pos 2) *ℚ (r *ℚ w) *ℚ z))
    ≤ℚ whole (pos 4) *ℚ (form p q m r x y z *ℚ (turned p q m g h +ℚ rest p q m *ℚ (r *ℚ (w *ℚ w))))
unfolding ◌-ℚ◌
cauchy p q m r g h w x y z pp rr ee =
    let e = rest p q m in
    let s = whole (pos 4) *ℚ (p *ℚ r) in
    let f = whole (pos 2) *ℚ (p *ℚ x) +ℚ m *ℚ y in
    let k = whole (pos 2) *ℚ (p *ℚ h) -ℚ m *ℚ g in
    let ss : whole (pos 0) ≤ℚ s = number 4 *ₙ (weaken pp *ₙ rr) in
    at_most_over {k = whole (pos 4) *ℚ (p *ℚ p)} (positive_number 3 *ₚ (pp *ₚ pp))
    (square (f *ℚ k -ℚ e *ℚ (y *ℚ g)) +ₙ ss *ₙ ee *ₙ square (f *ℚ w -ℚ z *ℚ g) +ₙ ss *ₙ square (e *ℚ (y *ℚ w) -ℚ z *ℚ k))
    (solve 10 (λ p q m r g h w x y z.
    let e = int (pos 4) ⊗ (p ⊗ q) ⊖ m ⊗ m in
    let s = int (pos 4) ⊗ (p ⊗ r) in
    let f = int (pos 2) ⊗ (p ⊗ x) ⊕ m ⊗ y in
    let k = int (pos 2) ⊗ (p ⊗ h) ⊖ m ⊗ g in
    let l = g ⊗ x ⊕ h ⊗ y ⊕ int (pos 2) ⊗ (r ⊗ w) ⊗ z in
    (int (pos 4) ⊗ (p ⊗ p)) ⊗ (int (pos 4) ⊗ ((p ⊗ (x ⊗ x) ⊕ q ⊗ (y ⊗ y) ⊕ m ⊗ (x ⊗ y) ⊕ r ⊗ (z ⊗ z)) ⊗ ((q ⊗ (g ⊗ g) ⊖ m ⊗ (g ⊗ h) ⊕ p ⊗ (h ⊗ h)) ⊕ e ⊗ (r ⊗ (w ⊗ w)))) ⊖ e ⊗ (l ⊗ l))
    ≐ (f ⊗ k ⊖ e ⊗ (y ⊗ g)) ⊗ (f ⊗ k ⊖ e ⊗ (y ⊗ g)) ⊕ s ⊗ e ⊗ ((f ⊗ w ⊖ z ⊗ g) ⊗ (f ⊗ w ⊖ z ⊗ g)) ⊕ s ⊗ ((e ⊗ (y ⊗ w) ⊖ z ⊗ k) ⊗ (e ⊗ (y ⊗ w) ⊖ z ⊗ k))) refl p q m r g h w x y z)

-- the value by its slopes
by_slopes : (p q m r a b u v w : ℚ)
    → rest p q m *ℚ value p q m r a b u v w ≡ turned p q m (slope p m a u v) (slope q m b v u) +ℚ rest p q m *ℚ (r *ℚ (w *ℚ w)) -ℚ turned p q m a b
unfolding ◌-ℚ◌
by_slopes p q m r a b u v w =
    solve 9 (λ p q m r a b u v w.
    let e = int (pos 4) ⊗ (p ⊗ q) ⊖ m ⊗ m in
    let g = int (pos 2) ⊗ (p ⊗ u) ⊕ m ⊗ v ⊕ a in
    let h = int (pos 2) ⊗ (q ⊗ v) ⊕ m ⊗ u ⊕ b in
    e ⊗ ((p ⊗ (u ⊗ u) ⊕ q ⊗ (v ⊗ v) ⊕ m ⊗ (u ⊗ v) ⊕ r ⊗ (w ⊗ w)) ⊕ a ⊗ u ⊕ b ⊗ v)
    ≐ (q ⊗ (g ⊗ g) ⊖ m ⊗ (g ⊗ h) ⊕ p ⊗ (h ⊗ h)) ⊕ e ⊗ (r ⊗ (w ⊗ w)) ⊖ (q ⊗ (a ⊗ a) ⊖ m ⊗ (a ⊗ b) ⊕ p ⊗ (b ⊗ b))) refl p q m r a b u v w

-- the coefficients of a value: the mixed one is small, and the squares of the linear ones are j p and k q
pub record AreTerms (p q m r a b j k : ℚ) : Type 0 where
  pub along : whole (pos 0) <ℚ p
  pub across : whole (pos 0) <ℚ q
  pub shear : whole (pos 0) ≤ℚ r
  pub joint : m *ℚ m ≤ℚ whole (pos 3) *ℚ (p *ℚ q)
  pub along_square : a *ℚ a ≡ j *ℚ p
  pub across_square : b *ℚ b ≡ k *ℚ q
  pub first : whole (pos 0) ≤ℚ j
  pub second : whole (pos 0) ≤ℚ k

module _ {p q m r a b j k : ℚ} (h : AreTerms p q m r a b j k) where
  rest_positive : whole (pos 0) <ℚ rest p q m
  unfolding ◌-ℚ◌
  rest_positive = below_over {k = whole (pos 1)} (positive_number 0) ((h.along *ₚ h.across) +ₚ above h.joint)
      (solve 3 (λ p q m. int (pos 1) ⊗ ((int (pos 4) ⊗ (p ⊗ q) ⊖ m ⊗ m) ⊖ int (pos 0)) ≐ p ⊗ q ⊕ (int (pos 3) ⊗ (p ⊗ q) ⊖ m ⊗ m)) refl p q m)

  -- the least value
  least : whole (pos 8) *ℚ turned p q m a b ≤ℚ whole (pos 15) *ℚ (rest p q m *ℚ (j +ℚ k))
  unfolding ◌-ℚ◌
  least = at_most
      (mixed_least q p m a b h.across (weaken h.along) (subst (λ t. m *ℚ m ≤ℚ whole (pos 3) *ℚ t) (solve 2 (λ p q. p ⊗ q ≐ q ⊗ p) refl p q) h.joint) +ₙ number 15 *ₙ (above h.joint *ₙ (h.first +ₙ h.second)))
      (from₂ (whole (negsuc 14) *ℚ q) h.along_square (whole (negsuc 14) *ℚ p) h.across_square
      (solve 7 (λ p q m a b j k.
      int (pos 15) ⊗ ((int (pos 4) ⊗ (p ⊗ q) ⊖ m ⊗ m) ⊗ (j ⊕ k)) ⊖ int (pos 8) ⊗ (q ⊗ (a ⊗ a) ⊖ m ⊗ (a ⊗ b) ⊕ p ⊗ (b ⊗ b))
      ≐ ((int (pos 7) ⊗ (q ⊗ (a ⊗ a) ⊕ p ⊗ (b ⊗ b)) ⊕ int (pos 8) ⊗ (m ⊗ (a ⊗ b))) ⊕ int (pos 15) ⊗ ((int (pos 3) ⊗ (p ⊗ q) ⊖ m ⊗ m) ⊗ (j ⊕ k)))
      ⊕ (int (negsuc 14) ⊗ q) ⊗ (a ⊗ a ⊖ j ⊗ p) ⊕ (int (negsuc 14) ⊗ p) ⊗ (b ⊗ b ⊖ k ⊗ q)) refl p q m a b j k))

  pub form_least : (x y z : ℚ) → whole (pos 0) ≤ℚ form p q m r x y z
  unfolding ◌-ℚ◌
  form_least x y z =
      at_most_over {k = whole (pos 8)} (positive_number 7)
      (mixed_least p q m x y h.along (weaken h.across) h.joint +ₙ (weaken h.along *ₙ square x +ₙ weaken h.across *ₙ square y) +ₙ number 8 *ₙ (h.shear *ₙ square z))
      (solve 7 (λ p q m r x y z.
      int (pos 8) ⊗ ((p ⊗ (x ⊗ x) ⊕ q ⊗ (y ⊗ y) ⊕ m ⊗ (x ⊗ y) ⊕ r ⊗ (z ⊗ z)) ⊖ int (pos 0))
      ≐ (int (pos 7) ⊗ (p ⊗ (x ⊗ x) ⊕ q ⊗ (y ⊗ y)) ⊕ int (pos 8) ⊗ (m ⊗ (x ⊗ y))) ⊕ (p ⊗ (x ⊗ x) ⊕ q ⊗ (y ⊗ y)) ⊕ int (pos 8) ⊗ (r ⊗ (z ⊗ z))) refl p q m r x y z)

  -- the square of the slopes times the distances is small where the value is
  pub tilt_small : (u v w x y z : ℚ)
      → whole (pos 2) *ℚ (tilt p q m r a b u v w x y z *ℚ tilt p q m r a b u v w x y z)
      ≤ℚ form p q m r x y z *ℚ (whole (pos 8) *ℚ value p q m r a b u v w +ℚ whole (pos 15) *ℚ (j +ℚ k))
  unfolding ◌-ℚ◌
  tilt_small u v w x y z = joined (rest p q m) (tilt p q m r a b u v w x y z) (form p q m r x y z) (value p q m r a b u v w)
      (turned p q m (slope p m a u v) (slope q m b v u)) (rest p q m *ℚ (r *ℚ (w *ℚ w))) (turned p q m a b) (whole (pos 15) *ℚ (j +ℚ k))
      rest_positive (form_least x y z) (by_slopes p q m r a b u v w) (cauchy p q m r (slope p m a u v) (slope q m b v u) w x y z h.along h.shear (weaken rest_positive))
      (subst (λ t. whole (pos 8) *ℚ turned p q m a b ≤ℚ t) (solve 3 (λ e j k. int (pos 15) ⊗ (e ⊗ (j ⊕ k)) ≐ e ⊗ (int (pos 15) ⊗ (j ⊕ k))) refl (rest p q m) j k) least)
    where
      joined : (e l f v t s c d : ℚ) → whole (pos 0) <ℚ e → whole (pos 0) ≤ℚ f → e *ℚ v ≡ t +ℚ s -ℚ c → e *ℚ (l *ℚ l) ≤ℚ whole (pos 4) *ℚ (f *ℚ (t +ℚ s)) → whole (pos 8) *ℚ c ≤ℚ e *ℚ d
          → whole (pos 2) *ℚ (l *ℚ l) ≤ℚ f *ℚ (whole (pos 8) *ℚ v +ℚ d)
      joined e l f v t s c d ee ff is h n =
          at_most_over {k = e} ee (number 2 *ₙ above h +ₙ ff *ₙ above n)
          (from₁ (whole (pos 8) *ℚ f) is
          (solve 8 (λ e l f v t s c d.
          e ⊗ (f ⊗ (int (pos 8) ⊗ v ⊕ d) ⊖ int (pos 2) ⊗ (l ⊗ l))
          ≐ (int (pos 2) ⊗ (int (pos 4) ⊗ (f ⊗ (t ⊕ s)) ⊖ e ⊗ (l ⊗ l)) ⊕ f ⊗ (e ⊗ d ⊖ int (pos 8) ⊗ c)) ⊕ (int (pos 8) ⊗ f) ⊗ (e ⊗ v ⊖ (t ⊕ s ⊖ c))) refl e l f v t s c d))
