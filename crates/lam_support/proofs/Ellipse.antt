-- The greatest value of a linear form over the ellipsoid x²/σ1 + y²/σ2 + z² + 2c xy + β1 x + β2 y ≤ 1, with no root:
-- an upper bound of it for each number whose square is large enough, and a point of the ellipsoid for each whose square is
-- small enough. The form [[σ1, -κ], [-κ, σ2]] with κ = c σ1 σ2 is the inverse of the ellipsoid's, times g = 1 - c² σ1 σ2.
use Rattle.std.proofs.Common.{◌≡◌, refl, sym, ◌∙◌, ap, subst, pos, [], ◌∷◌}
use Rattle.lam_fraction.specs.Fraction.{ℚ, whole, ◌+ℚ◌, ◌-ℚ◌, ◌*ℚ◌, ◌/ℚ◌, inverse, ◌≤ℚ◌, ◌<ℚ◌}
use Rattle.lam_fraction.proofs.Expression.{int, ◌⊕◌, ◌⊖◌, ◌⊗◌}
use Rattle.lam_fraction.proofs.Solver.{quotes, ◌≐◌}
use Rattle.lam_fraction.proofs.Rationals.{solve, by_ring, from₁, transitive, above, square, at_most_over, at_most_then_below, weaken, decide, number, positive_number, not_zero, antisym, zero_square, ◌+ₙ◌, ◌+ₚ◌, ◌*ₙ◌, ◌*ₚ◌}
use Rattle.lam_fraction.proofs.FractionBounds.{times-inverse, quotient-times}

-- the ellipsoid
pub record Ellipsoid : Type 0 where
  pub along : ℚ
  pub across : ℚ
  pub coupling : ℚ
  pub shift_along : ℚ
  pub shift_across : ℚ

-- three numbers: the coefficients of the linear form, or a point
pub record Triple : Type 0 where
  pub along : ℚ
  pub across : ℚ
  pub shear : ℚ

abbrev pub kappa : Ellipsoid → ℚ
kappa s = s.coupling *ℚ s.along *ℚ s.across

-- 1 - c² σ1 σ2
abbrev pub rest : Ellipsoid → ℚ
rest s = whole (pos 1) -ℚ s.coupling *ℚ kappa s

abbrev pub form : Ellipsoid → ℚ → ℚ → ℚ → ℚ → ℚ
form s a b x y = s.along *ℚ (a *ℚ x) -ℚ kappa s *ℚ (a *ℚ y +ℚ b *ℚ x) +ℚ s.across *ℚ (b *ℚ y)

-- twice the image of a vector under the form
abbrev pub image_along : Ellipsoid → ℚ → ℚ → ℚ
image_along s a b = s.along *ℚ a -ℚ kappa s *ℚ b

abbrev pub image_across : Ellipsoid → ℚ → ℚ → ℚ
image_across s a b = s.across *ℚ b -ℚ kappa s *ℚ a

-- σ1 σ2 times the quadratic part
abbrev pub quadratic : Ellipsoid → Triple → ℚ
quadratic s y =
    s.across *ℚ (y.along *ℚ y.along) +ℚ s.along *ℚ (y.across *ℚ y.across) +ℚ s.along *ℚ s.across *ℚ (y.shear *ℚ y.shear)
    +ℚ whole (pos 2) *ℚ kappa s *ℚ (y.along *ℚ y.across)

-- σ1 σ2 times the value at a point
abbrev pub scaled_value : Ellipsoid → Triple → ℚ
scaled_value s y = quadratic s y +ℚ s.along *ℚ s.across *ℚ (s.shift_along *ℚ y.along +ℚ s.shift_across *ℚ y.across)

abbrev pub Within : Ellipsoid → Triple → Type 0
Within s y = scaled_value s y ≤ℚ s.along *ℚ s.across

abbrev pub dot : Triple → Triple → ℚ
dot n y = n.along *ℚ y.along +ℚ n.across *ℚ y.across +ℚ n.shear *ℚ y.shear

-- how far the ellipsoid reaches round its middle, and the linear form's square over it
abbrev pub extent : Ellipsoid → ℚ
extent s = whole (pos 4) *ℚ rest s +ℚ form s s.shift_along s.shift_across s.shift_along s.shift_across

abbrev pub spread : Ellipsoid → Triple → ℚ
spread s n = form s n.along n.across n.along n.across +ℚ rest s *ℚ (n.shear *ℚ n.shear)

-- 2 g times the linear form at a point, counted from the middle
abbrev pub from_middle : Ellipsoid → Triple → Triple → ℚ
from_middle s n y = whole (pos 2) *ℚ rest s *ℚ dot n y +ℚ form s n.along n.across s.shift_along s.shift_across

-- 2 g times a point, counted from the middle
abbrev pub centred : Ellipsoid → Triple → Triple
centred s y = record {
  along = whole (pos 2) *ℚ rest s *ℚ y.along +ℚ image_along s s.shift_along s.shift_across;
  across = whole (pos 2) *ℚ rest s *ℚ y.across +ℚ image_across s s.shift_along s.shift_across;
  shear = whole (pos 2) *ℚ rest s *ℚ y.shear;
}

-- the ellipsoid is one
pub record IsEllipsoid (s : Ellipsoid) : Type 0 where
  pub along : whole (pos 0) <ℚ s.along
  pub across : whole (pos 0) <ℚ s.across
  pub rest : whole (pos 0) <ℚ rest s

-- ---- identities

module _ (s : Ellipsoid) where
  -- the form, completed to squares
  form_squares : (a b : ℚ) → s.along *ℚ form s a b a b ≡ image_along s a b *ℚ image_along s a b +ℚ rest s *ℚ (s.along *ℚ s.across) *ℚ (b *ℚ b)
  unfolding ◌-ℚ◌
  form_squares a b =
      solve 5 (λ u v c a b. let k = c ⊗ u ⊗ v in let g = int (pos 1) ⊖ c ⊗ k in
      u ⊗ (u ⊗ (a ⊗ a) ⊖ k ⊗ (a ⊗ b ⊕ b ⊗ a) ⊕ v ⊗ (b ⊗ b)) ≐ (u ⊗ a ⊖ k ⊗ b) ⊗ (u ⊗ a ⊖ k ⊗ b) ⊕ g ⊗ (u ⊗ v) ⊗ (b ⊗ b)) refl
      s.along s.across s.coupling a b

  -- the surface round its middle
  middle : (y : Triple) → rest s *ℚ (s.along *ℚ s.across) *ℚ extent s
      ≡ quadratic s (centred s y) +ℚ whole (pos 4) *ℚ (rest s *ℚ rest s) *ℚ (s.along *ℚ s.across -ℚ scaled_value s y)
  unfolding ◌-ℚ◌
  middle y =
      solve 8 (λ u v c p q a b e. let k = c ⊗ u ⊗ v in let g = int (pos 1) ⊖ c ⊗ k in
      let x = int (pos 2) ⊗ g ⊗ a ⊕ (u ⊗ p ⊖ k ⊗ q) in let y = int (pos 2) ⊗ g ⊗ b ⊕ (v ⊗ q ⊖ k ⊗ p) in let z = int (pos 2) ⊗ g ⊗ e in
      g ⊗ (u ⊗ v) ⊗ (int (pos 4) ⊗ g ⊕ (u ⊗ (p ⊗ p) ⊖ k ⊗ (p ⊗ q ⊕ q ⊗ p) ⊕ v ⊗ (q ⊗ q)))
      ≐ (v ⊗ (x ⊗ x) ⊕ u ⊗ (y ⊗ y) ⊕ u ⊗ v ⊗ (z ⊗ z) ⊕ int (pos 2) ⊗ k ⊗ (x ⊗ y))
      ⊕ int (pos 4) ⊗ (g ⊗ g) ⊗ (u ⊗ v ⊖ ((v ⊗ (a ⊗ a) ⊕ u ⊗ (b ⊗ b) ⊕ u ⊗ v ⊗ (e ⊗ e) ⊕ int (pos 2) ⊗ k ⊗ (a ⊗ b)) ⊕ u ⊗ v ⊗ (p ⊗ a ⊕ q ⊗ b)))) refl
      s.along s.across s.coupling s.shift_along s.shift_across y.along y.across y.shear

  -- Lagrange's identity for the form and the quadratic part
  lagrange : (n y : Triple) → spread s n *ℚ quadratic s y -ℚ rest s *ℚ (s.along *ℚ s.across) *ℚ (dot n y *ℚ dot n y)
      ≡ (image_along s n.along n.across *ℚ y.across -ℚ image_across s n.along n.across *ℚ y.along) *ℚ (image_along s n.along n.across *ℚ y.across -ℚ image_across s n.along n.across *ℚ y.along)
      +ℚ rest s *ℚ s.across *ℚ ((s.along *ℚ n.along *ℚ y.shear -ℚ n.shear *ℚ (y.along +ℚ s.coupling *ℚ s.along *ℚ y.across)) *ℚ (s.along *ℚ n.along *ℚ y.shear -ℚ n.shear *ℚ (y.along +ℚ s.coupling *ℚ s.along *ℚ y.across)))
      +ℚ s.along *ℚ ((image_across s n.along n.across *ℚ y.shear -ℚ rest s *ℚ n.shear *ℚ y.across) *ℚ (image_across s n.along n.across *ℚ y.shear -ℚ rest s *ℚ n.shear *ℚ y.across))
  unfolding ◌-ℚ◌
  lagrange n y =
      solve 9 (λ u v c a b e x y z. let k = c ⊗ u ⊗ v in let g = int (pos 1) ⊖ c ⊗ k in
      let m = u ⊗ a ⊖ k ⊗ b in let n = v ⊗ b ⊖ k ⊗ a in let d = a ⊗ x ⊕ b ⊗ y ⊕ e ⊗ z in
      let first = m ⊗ y ⊖ n ⊗ x in let second = u ⊗ a ⊗ z ⊖ e ⊗ (x ⊕ c ⊗ u ⊗ y) in let third = n ⊗ z ⊖ g ⊗ e ⊗ y in
      (u ⊗ (a ⊗ a) ⊖ k ⊗ (a ⊗ b ⊕ b ⊗ a) ⊕ v ⊗ (b ⊗ b) ⊕ g ⊗ (e ⊗ e)) ⊗ (v ⊗ (x ⊗ x) ⊕ u ⊗ (y ⊗ y) ⊕ u ⊗ v ⊗ (z ⊗ z) ⊕ int (pos 2) ⊗ k ⊗ (x ⊗ y))
      ⊖ g ⊗ (u ⊗ v) ⊗ (d ⊗ d)
      ≐ first ⊗ first ⊕ g ⊗ v ⊗ (second ⊗ second) ⊕ u ⊗ (third ⊗ third)) refl
      s.along s.across s.coupling n.along n.across n.shear y.along y.across y.shear

  -- the linear form, from the middle
  centred_dot : (n y : Triple) → from_middle s n y ≡ dot n (centred s y)
  unfolding ◌-ℚ◌
  centred_dot n y =
      solve 11 (λ u v c p q a b e x y z. let k = c ⊗ u ⊗ v in let g = int (pos 1) ⊖ c ⊗ k in
      int (pos 2) ⊗ g ⊗ (a ⊗ x ⊕ b ⊗ y ⊕ e ⊗ z) ⊕ (u ⊗ (a ⊗ p) ⊖ k ⊗ (a ⊗ q ⊕ b ⊗ p) ⊕ v ⊗ (b ⊗ q))
      ≐ a ⊗ (int (pos 2) ⊗ g ⊗ x ⊕ (u ⊗ p ⊖ k ⊗ q)) ⊕ b ⊗ (int (pos 2) ⊗ g ⊗ y ⊕ (v ⊗ q ⊖ k ⊗ p)) ⊕ e ⊗ (int (pos 2) ⊗ g ⊗ z)) refl
      s.along s.across s.coupling s.shift_along s.shift_across n.along n.across n.shear y.along y.across y.shear

  -- the image of the linear form
  abbrev pub towards : ℚ → Triple → Triple
  towards r n = record {
    along = r *ℚ image_along s n.along n.across;
    across = r *ℚ image_across s n.along n.across;
    shear = r *ℚ (rest s *ℚ n.shear);
  }

  quadratic_towards : (r : ℚ) (n : Triple) → quadratic s (towards r n) ≡ rest s *ℚ (s.along *ℚ s.across) *ℚ (r *ℚ r *ℚ spread s n)
  unfolding ◌-ℚ◌
  quadratic_towards r n =
      solve 7 (λ u v c r a b e. let k = c ⊗ u ⊗ v in let g = int (pos 1) ⊖ c ⊗ k in
      let x = r ⊗ (u ⊗ a ⊖ k ⊗ b) in let y = r ⊗ (v ⊗ b ⊖ k ⊗ a) in let z = r ⊗ (g ⊗ e) in
      v ⊗ (x ⊗ x) ⊕ u ⊗ (y ⊗ y) ⊕ u ⊗ v ⊗ (z ⊗ z) ⊕ int (pos 2) ⊗ k ⊗ (x ⊗ y)
      ≐ g ⊗ (u ⊗ v) ⊗ (r ⊗ r ⊗ (u ⊗ (a ⊗ a) ⊖ k ⊗ (a ⊗ b ⊕ b ⊗ a) ⊕ v ⊗ (b ⊗ b) ⊕ g ⊗ (e ⊗ e)))) refl
      s.along s.across s.coupling r n.along n.across n.shear

  dot_towards : (r : ℚ) (n : Triple) → dot n (towards r n) ≡ r *ℚ spread s n
  unfolding ◌-ℚ◌
  dot_towards r n =
      solve 7 (λ u v c r a b e. let k = c ⊗ u ⊗ v in let g = int (pos 1) ⊖ c ⊗ k in
      a ⊗ (r ⊗ (u ⊗ a ⊖ k ⊗ b)) ⊕ b ⊗ (r ⊗ (v ⊗ b ⊖ k ⊗ a)) ⊕ e ⊗ (r ⊗ (g ⊗ e))
      ≐ r ⊗ (u ⊗ (a ⊗ a) ⊖ k ⊗ (a ⊗ b ⊕ b ⊗ a) ⊕ v ⊗ (b ⊗ b) ⊕ g ⊗ (e ⊗ e))) refl
      s.along s.across s.coupling r n.along n.across n.shear

  -- the point whose distance from the middle is that image, over 2 g
  abbrev pub point : ℚ → Triple → Triple
  point r n = let i = inverse (whole (pos 2) *ℚ rest s) in let t = towards r n in record {
    along = (t.along -ℚ image_along s s.shift_along s.shift_across) *ℚ i;
    across = (t.across -ℚ image_across s s.shift_along s.shift_across) *ℚ i;
    shear = t.shear *ℚ i;
  }

  restored : (d i t m : ℚ) → d *ℚ i ≡ whole (pos 1) → d *ℚ ((t -ℚ m) *ℚ i) +ℚ m ≡ t
  unfolding ◌-ℚ◌
  restored d i t m e = from₁ (t -ℚ m) e (by_ring (d ∷ i ∷ t ∷ m ∷ []) (search quotes depth 20) refl)

  restored_shear : (d i t : ℚ) → d *ℚ i ≡ whole (pos 1) → d *ℚ (t *ℚ i) ≡ t
  unfolding ◌-ℚ◌
  restored_shear d i t e = from₁ t e (by_ring (d ∷ i ∷ t ∷ []) (search quotes depth 20) refl)

  same_triple : {x y : Triple} → x.along ≡ y.along → x.across ≡ y.across → x.shear ≡ y.shear → x ≡ y
  same_triple a b e = λ i. record { along = a i; across = b i; shear = e i }

-- ---- inequalities

-- a number whose square is at most that of another, which is not negative
pub root_at_most : (x e : ℚ) → whole (pos 0) ≤ℚ e → x *ℚ x ≤ℚ e *ℚ e → x ≤ℚ e
unfolding ◌-ℚ◌
root_at_most x e sign h = decide x e (λ l. l)
    (λ more. at_most_over {k = x +ℚ e} (at_most_then_below sign more +ₚ sign) (above h) (by_ring (x ∷ e ∷ []) (search quotes depth 20) refl))

module _ (s : Ellipsoid) (is : IsEllipsoid s) where
  twice-rest : whole (pos 0) <ℚ whole (pos 2) *ℚ rest s
  twice-rest = positive_number 1 *ₚ is.rest

  pub form_not_negative : (a b : ℚ) → whole (pos 0) ≤ℚ form s a b a b
  unfolding ◌-ℚ◌
  form_not_negative a b =
      at_most_over is.along (square (image_along s a b) +ₙ (weaken is.rest *ₙ (weaken is.along *ₙ weaken is.across)) *ₙ square b)
      (solve 2 (λ u f. u ⊗ (f ⊖ int (pos 0)) ≐ u ⊗ f) refl s.along (form s a b a b) ∙ form_squares s a b)

  pub spread_not_negative : (n : Triple) → whole (pos 0) ≤ℚ spread s n
  spread_not_negative n = form_not_negative n.along n.across +ₙ weaken is.rest *ₙ square n.shear

  pub extent_not_negative : whole (pos 0) ≤ℚ extent s
  extent_not_negative = number 4 *ₙ weaken is.rest +ₙ form_not_negative s.shift_along s.shift_across

  -- Cauchy and Schwarz, round the middle
  bounded_square : (n y : Triple) → Within s y → from_middle s n y *ℚ from_middle s n y ≤ℚ extent s *ℚ spread s n
  unfolding ◌-ℚ◌
  bounded_square n y inside =
      let k = rest s *ℚ (s.along *ℚ s.across) in
      let c = centred s y in
      let inner = s.along *ℚ s.across -ℚ scaled_value s y in
      at_most_over {k = k} (is.rest *ₚ (is.along *ₚ is.across))
      (spread_not_negative n *ₙ (number 4 *ₙ (weaken is.rest *ₙ weaken is.rest) *ₙ above inside)
      +ₙ ((square _ +ₙ weaken is.rest *ₙ weaken is.across *ₙ square _) +ₙ weaken is.along *ₙ square _))
      (ap (λ x. k *ℚ (extent s *ℚ spread s n -ℚ x *ℚ x)) (centred_dot s n y)
      ∙ solve 4 (λ k e w d. k ⊗ (e ⊗ w ⊖ d ⊗ d) ≐ w ⊗ (k ⊗ e) ⊖ k ⊗ (d ⊗ d)) refl k (extent s) (spread s n) (dot n c)
      ∙ ap (λ x. spread s n *ℚ x -ℚ k *ℚ (dot n c *ℚ dot n c)) (middle s y)
      ∙ solve 4 (λ w q r d. w ⊗ (q ⊕ r) ⊖ d ≐ w ⊗ r ⊕ (w ⊗ q ⊖ d)) refl (spread s n) (quadratic s c) (whole (pos 4) *ℚ (rest s *ℚ rest s) *ℚ inner) (k *ℚ (dot n c *ℚ dot n c))
      ∙ ap (λ x. spread s n *ℚ (whole (pos 4) *ℚ (rest s *ℚ rest s) *ℚ inner) +ℚ x) (lagrange s n c))

  -- no point of the ellipsoid passes a number whose square is large enough
  pub none_beyond : (n y : Triple) (e : ℚ) → Within s y → whole (pos 0) ≤ℚ e → extent s *ℚ spread s n ≤ℚ e *ℚ e → from_middle s n y ≤ℚ e
  none_beyond n y e inside sign large = root_at_most (from_middle s n y) e sign (transitive (bounded_square n y inside) large)

  -- a point of the ellipsoid reaches each number whose square is small enough
  centred_point : (r : ℚ) (n : Triple) → centred s (point s r n) ≡ towards s r n
  centred_point r n =
      let d = whole (pos 2) *ℚ rest s in
      let e = times-inverse twice-rest in
      let t = towards s r n in
      same_triple s (restored s d (inverse d) t.along (image_along s s.shift_along s.shift_across) e)
      (restored s d (inverse d) t.across (image_across s s.shift_along s.shift_across) e) (restored_shear s d (inverse d) t.shear e)

  point_within : (r : ℚ) (n : Triple) → r *ℚ r *ℚ spread s n ≤ℚ extent s → Within s (point s r n)
  unfolding ◌-ℚ◌
  point_within r n small =
      let k = rest s *ℚ (s.along *ℚ s.across) in
      let y = point s r n in
      let inner = s.along *ℚ s.across -ℚ scaled_value s y in
      at_most_over {k = whole (pos 4) *ℚ (rest s *ℚ rest s)} (positive_number 3 *ₚ (is.rest *ₚ is.rest))
      (weaken (is.rest *ₚ (is.along *ₚ is.across)) *ₙ above small)
      (solve 2 (λ q r. r ≐ (q ⊕ r) ⊖ q) refl (quadratic s (centred s y)) (whole (pos 4) *ℚ (rest s *ℚ rest s) *ℚ inner)
      ∙ ap (λ x. x -ℚ quadratic s (centred s y)) (sym (middle s y))
      ∙ ap (λ x. k *ℚ extent s -ℚ quadratic s x) (centred_point r n)
      ∙ ap (λ x. k *ℚ extent s -ℚ x) (quadratic_towards s r n)
      ∙ solve 3 (λ k e x. k ⊗ e ⊖ k ⊗ x ≐ k ⊗ (e ⊖ x)) refl k (extent s) (r *ℚ r *ℚ spread s n))

  point_reaches : (r : ℚ) (n : Triple) → from_middle s n (point s r n) ≡ r *ℚ spread s n
  point_reaches r n = centred_dot s n (point s r n) ∙ ap (dot n) (centred_point r n) ∙ dot_towards s r n

  pub one_reaches : (n : Triple) (k : ℚ) → k *ℚ k ≤ℚ extent s *ℚ spread s n → (y : Triple) × Within s y × (from_middle s n y ≡ k)
  unfolding ◌-ℚ◌
  one_reaches n k small = decide (spread s n) (whole (pos 0)) flat proper
    where
      flat : spread s n ≤ℚ whole (pos 0) → (y : Triple) × Within s y × (from_middle s n y ≡ k)
      flat h =
          let none : spread s n ≡ whole (pos 0) = antisym h (spread_not_negative n) in
          let zero : k ≡ whole (pos 0) = zero_square k (antisym (subst (λ x. k *ℚ k ≤ℚ x) (ap (λ x. extent s *ℚ x) none ∙ solve 1 (λ e. e ⊗ int (pos 0) ≐ int (pos 0)) refl (extent s)) small) (square k)) in
          let o = whole (pos 0) in (
            point s o n,
            point_within o n (subst (λ x. x ≤ℚ extent s) (solve 1 (λ q. int (pos 0) ≐ int (pos 0) ⊗ int (pos 0) ⊗ q) refl (spread s n)) extent_not_negative),
            point_reaches o n ∙ solve 1 (λ q. int (pos 0) ⊗ q ≐ int (pos 0)) refl (spread s n) ∙ sym zero,
          )

      proper : whole (pos 0) <ℚ spread s n → (y : Triple) × Within s y × (from_middle s n y ≡ k)
      proper h =
          let r = k /ℚ spread s n in
          let times : r *ℚ spread s n ≡ k = quotient-times k (spread s n) (not_zero h) in (
            point s r n,
            point_within r n (at_most_over {k = spread s n} h (above small)
                (solve 3 (λ q e r. q ⊗ (e ⊖ r ⊗ r ⊗ q) ≐ e ⊗ q ⊖ (r ⊗ q) ⊗ (r ⊗ q)) refl (spread s n) (extent s) r ∙ ap (λ x. extent s *ℚ spread s n -ℚ x *ℚ x) times)),
            point_reaches r n ∙ times,
          )
