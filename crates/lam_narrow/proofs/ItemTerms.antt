-- What the limits on strengths say of the criterion's coefficients, and the criterion as a quadratic form with a linear part.
use Rattle.std.proofs.Common.{◌≡◌, refl, sym, ◌∙◌, ap, subst, ◌^◌, ◌⊎◌, inl, inr, ℤ, pos, negsuc, ◌*ℤ◌, ◌≤ℤ◌, ◌<ℤ◌, arith}
use Rattle.std.specs.Int.{int_min}
use Rattle.std.proofs.lemmas.Int.{ints, clamps}
use Rattle.lam_fraction.specs.Fraction.{ℚ, whole, ◌+ℚ◌, ◌-ℚ◌, ◌*ℚ◌, ◌/ℚ◌, inverse, ◌≤ℚ◌, ◌<ℚ◌}
use Rattle.lam_fraction.specs.inside.WholeNumbers.{product_positive}
use Rattle.lam_fraction.proofs.Expression.{int, ◌⊕◌, ◌⊖◌, ◌⊗◌}
use Rattle.lam_fraction.proofs.Solver.{◌≐◌}
use Rattle.lam_fraction.proofs.Rationals.{solve, from₁, from₂, above, weaken, at_most, square, inverse_positive, ◌*ₙ◌}
use Rattle.lam_fraction.proofs.FractionBounds.{whole_positive, times-inverse}
use Rattle.lam_fraction.proofs.FractionRing.{whole-product}
use Rattle.lam_fraction.proofs.Laws.{either}
use Rattle.lam_fraction.proofs.WholeFractions.{inverse-product, inverse-whole, whole_at_most}
use Rattle.lam_stock.specs.declared.item.Lamina.{Lamina}
use Rattle.lam_stock.specs.Limits.{IsStrength, AreWithinSixteen, KeepsStrengths}
use Rattle.lam_stock.specs.PlyLaw.{OnAxis}
use Rattle.lam_stock.specs.TsaiWu.{criterion}
use Rattle.lam_stock.proofs.StrengthBounds.{positive_strengths}
use Rattle.lam_sharp.proofs.Multiples.{mixed, mixed-small}
use Rattle.lam_narrow.specs.Close.{AreApart, IsSteep, band}
use Rattle.lam_narrow.proofs.Quadratic.{value, AreTerms}
use Rattle.lam_narrow.proofs.Slopes.{IsAxis, AreSmall, values_apart}

-- ---- the terms of an axis

-- the coefficient of the square, and the linear one
abbrev pub squared : ℤ → ℤ → ℚ
squared t c = inverse (whole (t *ℤ c))

abbrev pub linear : ℤ → ℤ → ℚ
linear t c = inverse (whole t) -ℚ inverse (whole c)

-- the square of the lesser strength, and that of the difference of both, over their product
abbrev pub lesser_part : ℤ → ℤ → ℚ
lesser_part t c = squared t c *ℚ (whole (int_min t c) *ℚ whole (int_min t c))

abbrev pub difference_part : ℤ → ℤ → ℚ
difference_part t c = squared t c *ℚ ((whole c -ℚ whole t) *ℚ (whole c -ℚ whole t))

-- of a lesser and a greater strength, of at most 16 times the lesser, and one over their product
ordered_axis : (p a b : ℚ) → whole (pos 0) <ℚ p → whole (pos 0) ≤ℚ a → a ≤ℚ b → b ≤ℚ whole (pos 16) *ℚ a → p *ℚ (a *ℚ b) ≡ whole (pos 1)
    → IsAxis (p *ℚ (a *ℚ a)) (p *ℚ ((b -ℚ a) *ℚ (b -ℚ a)))
unfolding ◌-ℚ◌
ordered_axis p a b pp aa h k e = record {
  least = weaken pp *ₙ square a;
  most = at_most (weaken pp *ₙ (aa *ₙ above h)) (from₁ (whole (negsuc 0)) e
      (solve 3 (λ p a b. int (pos 1) ⊖ p ⊗ (a ⊗ a) ≐ p ⊗ (a ⊗ (b ⊖ a)) ⊕ int (negsuc 0) ⊗ (p ⊗ (a ⊗ b) ⊖ int (pos 1))) refl p a b));
  spread = at_most (weaken pp *ₙ (above h *ₙ above k)) (from₁ (whole (negsuc 14)) e
      (solve 3 (λ p a b. int (pos 15) ⊖ (p ⊗ ((b ⊖ a) ⊗ (b ⊖ a)) ⊕ int (pos 15) ⊗ (p ⊗ (a ⊗ a))) ≐ p ⊗ ((b ⊖ a) ⊗ (int (pos 16) ⊗ a ⊖ b)) ⊕ int (negsuc 14) ⊗ (p ⊗ (a ⊗ b) ⊖ int (pos 1))) refl p a b));
}

turned_over : (t c : ℚ) → (t -ℚ c) *ℚ (t -ℚ c) ≡ (c -ℚ t) *ℚ (c -ℚ t)
unfolding ◌-ℚ◌
turned_over t c = solve 2 (λ t c. (t ⊖ c) ⊗ (t ⊖ c) ≐ (c ⊖ t) ⊗ (c ⊖ t)) refl t c

-- of one over t and one over c
differences : (t c i k : ℚ) → t *ℚ i ≡ whole (pos 1) → c *ℚ k ≡ whole (pos 1) → (i -ℚ k) *ℚ (i -ℚ k) ≡ (i *ℚ k) *ℚ ((c -ℚ t) *ℚ (c -ℚ t)) *ℚ (i *ℚ k)
unfolding ◌-ℚ◌
differences t c i k e g =
    from₂ (((i -ℚ k) +ℚ (i *ℚ k) *ℚ (c -ℚ t)) *ℚ k) e (whole (negsuc 0) *ℚ (((i -ℚ k) +ℚ (i *ℚ k) *ℚ (c -ℚ t)) *ℚ i)) g
    (solve 4 (λ t c i k.
    let d = (i ⊖ k) ⊕ (i ⊗ k) ⊗ (c ⊖ t) in
    (i ⊖ k) ⊗ (i ⊖ k) ≐ (i ⊗ k) ⊗ ((c ⊖ t) ⊗ (c ⊖ t)) ⊗ (i ⊗ k) ⊕ (d ⊗ k) ⊗ (t ⊗ i ⊖ int (pos 1)) ⊕ (int (negsuc 0) ⊗ (d ⊗ i)) ⊗ (c ⊗ k ⊖ int (pos 1))) refl t c i k)

module _ {t c : ℤ} (t_is : IsStrength t) (c_is : IsStrength c) (near : AreWithinSixteen t c) where
  t_positive : pos 0 <ℤ t
  t_positive = omega (arith, ints, t_is.least)

  c_positive : pos 0 <ℤ c
  c_positive = omega (arith, ints, c_is.least)

  pub squared_positive : whole (pos 0) <ℚ squared t c
  squared_positive = inverse_positive (whole_positive (product_positive t c t_positive c_positive))

  squared_times : squared t c *ℚ (whole t *ℚ whole c) ≡ whole (pos 1)
  squared_times =
      ap (λ z. squared t c *ℚ z) (sym (whole-product t c)) ∙ solve 2 (λ p z. p ⊗ z ≐ z ⊗ p) refl (squared t c) (whole (t *ℤ c))
      ∙ times-inverse (whole_positive (product_positive t c t_positive c_positive))

  pub is_axis : IsAxis (lesser_part t c) (difference_part t c)
  is_axis = go (either t c)
    where
      go : (t ≤ℤ c) ⊎ (c <ℤ t) → IsAxis (lesser_part t c) (difference_part t c)
      go (inl h) =
          let least : int_min t c ≡ t = omega (arith, ints, clamps, h) in
          rw least (ordered_axis (squared t c) (whole t) (whole c) squared_positive (weaken (whole_positive t_positive)) (whole_at_most h)
          (subst (λ z. whole c ≤ℚ z) (whole-product (pos 16) t) (whole_at_most near.second)) squared_times)
      go (inr h) =
          let least : int_min t c ≡ c = omega (arith, ints, clamps, h) in
          let first : c ≤ℤ t = omega (arith, ints, h) in
          rw least (subst (λ z. IsAxis (squared t c *ℚ (whole c *ℚ whole c)) (squared t c *ℚ z)) (turned_over (whole t) (whole c))
          (ordered_axis (squared t c) (whole c) (whole t) squared_positive (weaken (whole_positive c_positive)) (whole_at_most first)
          (subst (λ z. whole t ≤ℚ z) (whole-product (pos 16) c) (whole_at_most near.first))
          (ap (λ z. squared t c *ℚ z) (solve 2 (λ t c. c ⊗ t ≐ t ⊗ c) refl (whole t) (whole c)) ∙ squared_times)))

  pub linear_square : linear t c *ℚ linear t c ≡ difference_part t c *ℚ squared t c
  linear_square = rw (inverse-product t c t_positive c_positive (product_positive t c t_positive c_positive))
      (differences (whole t) (whole c) (inverse (whole t)) (inverse (whole c)) (inverse-whole t t_positive) (inverse-whole c c_positive))

  pub difference_least : whole (pos 0) ≤ℚ difference_part t c
  difference_least = weaken squared_positive *ₙ square (whole c -ℚ whole t)

-- ---- the criterion

-- the square of the shear over that of its strength
abbrev pub shear_squared : ℤ → ℚ
shear_squared s = inverse (whole (s *ℤ s))

abbrev pub form_of : Lamina → ℚ → ℚ → ℚ → ℚ
form_of l u v w = value (squared l.xt l.xc) (squared l.yt l.yc) (mixed l) (shear_squared l.s) (linear l.xt l.xc) (linear l.yt l.yc) u v w

pub criterion_is : (l : Lamina) (u : OnAxis) → criterion l u ≡ form_of l u.along u.across u.shear
unfolding criterion ◌-ℚ◌ ◌/ℚ◌
criterion_is l u =
    solve 12 (λ u v w a b c d e f g h k.
    (u ⊗ a ⊖ u ⊗ b) ⊕ (v ⊗ c ⊖ v ⊗ d) ⊕ (u ⊗ u) ⊗ e ⊕ (v ⊗ v) ⊗ f ⊕ (w ⊗ w) ⊗ g ⊕ (h ⊗ (u ⊗ v)) ⊗ k
    ≐ (e ⊗ (u ⊗ u) ⊕ f ⊗ (v ⊗ v) ⊕ (h ⊗ k) ⊗ (u ⊗ v) ⊕ g ⊗ (w ⊗ w)) ⊕ (a ⊖ b) ⊗ u ⊕ (c ⊖ d) ⊗ v) refl
    u.along u.across u.shear (inverse (whole l.xt)) (inverse (whole l.xc)) (inverse (whole l.yt)) (inverse (whole l.yc))
    (inverse (whole (l.xt *ℤ l.xc))) (inverse (whole (l.yt *ℤ l.yc))) (inverse (whole (l.s *ℤ l.s))) (whole (pos 2 *ℤ l.f12)) (inverse (whole (pos (10 ^ 18))))

-- two stresses are at most such a part of the least strength of each axis apart
pub record StressesApart (l : Lamina) (part : ℚ) (u v : OnAxis) : Type 0 where
  pub along : AreApart (whole (int_min l.xt l.xc) *ℚ part) u.along v.along
  pub across : AreApart (whole (int_min l.yt l.yc) *ℚ part) u.across v.across
  pub shear : AreApart (whole l.s *ℚ part) u.shear v.shear

-- the square of a difference
apart_square : (d x y : ℚ) → AreApart d x y → (x -ℚ y) *ℚ (x -ℚ y) ≤ℚ d *ℚ d
unfolding ◌-ℚ◌
apart_square d x y h = at_most (above h.from *ₙ above h.to)
    (solve 3 (λ d x y. d ⊗ d ⊖ (x ⊖ y) ⊗ (x ⊖ y) ≐ (d ⊖ (x ⊖ y)) ⊗ (d ⊖ (y ⊖ x))) refl d x y)

part_square : (p a part x y : ℚ) → whole (pos 0) ≤ℚ p → AreApart (a *ℚ part) x y → p *ℚ ((x -ℚ y) *ℚ (x -ℚ y)) ≤ℚ (p *ℚ (a *ℚ a)) *ℚ (part *ℚ part)
unfolding ◌-ℚ◌
part_square p a part x y pp h = at_most (pp *ₙ above (apart_square (a *ℚ part) x y h))
    (solve 5 (λ p a e x y. (p ⊗ (a ⊗ a)) ⊗ (e ⊗ e) ⊖ p ⊗ ((x ⊖ y) ⊗ (x ⊖ y)) ≐ p ⊗ ((a ⊗ e) ⊗ (a ⊗ e) ⊖ (x ⊖ y) ⊗ (x ⊖ y))) refl p a part x y)

whole_square : (p s z : ℚ) → p *ℚ (s *ℚ s) ≡ whole (pos 1) → (p *ℚ (s *ℚ s)) *ℚ z ≡ z
unfolding ◌-ℚ◌
whole_square p s z e = from₁ z e (solve 3 (λ p s z. (p ⊗ (s ⊗ s)) ⊗ z ≐ z ⊕ z ⊗ (p ⊗ (s ⊗ s) ⊖ int (pos 1))) refl p s z)

back : (x y : ℚ) → y +ℚ (x -ℚ y) ≡ x
unfolding ◌-ℚ◌
back x y = solve 2 (λ x y. y ⊕ (x ⊖ y) ≐ x) refl x y

module _ {l : Lamina} (h : KeepsStrengths l) where
  shear_positive : whole (pos 0) <ℚ shear_squared l.s
  shear_positive = inverse_positive (whole_positive (product_positive l.s l.s (positive_strengths h).s (positive_strengths h).s))

  shear_times : shear_squared l.s *ℚ (whole l.s *ℚ whole l.s) ≡ whole (pos 1)
  shear_times =
      ap (λ z. shear_squared l.s *ℚ z) (sym (whole-product l.s l.s)) ∙ solve 2 (λ p z. p ⊗ z ≐ z ⊗ p) refl (shear_squared l.s) (whole (l.s *ℤ l.s))
      ∙ times-inverse (whole_positive (product_positive l.s l.s (positive_strengths h).s (positive_strengths h).s))

  pub are_terms : AreTerms (squared l.xt l.xc) (squared l.yt l.yc) (mixed l) (shear_squared l.s) (linear l.xt l.xc) (linear l.yt l.yc) (difference_part l.xt l.xc) (difference_part l.yt l.yc)
  are_terms = record {
    along = squared_positive h.range.xt h.range.xc h.ratio.along;
    across = squared_positive h.range.yt h.range.yc h.ratio.across;
    shear = weaken shear_positive;
    joint = mixed-small h;
    along_square = linear_square h.range.xt h.range.xc h.ratio.along;
    across_square = linear_square h.range.yt h.range.yc h.ratio.across;
    first = difference_least h.range.xt h.range.xc h.ratio.along;
    second = difference_least h.range.yt h.range.yc h.ratio.across;
  }

  pub are_small : (part : ℚ) (u v : OnAxis) → StressesApart l part u v
      → AreSmall (squared l.xt l.xc) (squared l.yt l.yc) (shear_squared l.s) (lesser_part l.xt l.xc) (lesser_part l.yt l.yc) (part *ℚ part) (u.along -ℚ v.along) (u.across -ℚ v.across) (u.shear -ℚ v.shear)
  are_small part u v k = record {
    along = part_square (squared l.xt l.xc) (whole (int_min l.xt l.xc)) part u.along v.along (weaken are_terms.along) k.along;
    across = part_square (squared l.yt l.yc) (whole (int_min l.yt l.yc)) part u.across v.across (weaken are_terms.across) k.across;
    shear = subst (λ z. shear_squared l.s *ℚ ((u.shear -ℚ v.shear) *ℚ (u.shear -ℚ v.shear)) ≤ℚ z) (whole_square (shear_squared l.s) (whole l.s) (part *ℚ part) shear_times)
        (part_square (shear_squared l.s) (whole l.s) part u.shear v.shear are_terms.shear k.shear);
  }

  -- the values at two such stresses, of which one is at most 1 and an excess
  pub criterion_close : (part : ℚ) (u v : OnAxis) (e f : ℚ) → whole (pos 0) ≤ℚ part → StressesApart l part u v → whole (pos 0) ≤ℚ e → IsSteep e f → criterion l v ≤ℚ whole (pos 1) +ℚ e
      → AreApart (band f part) (criterion l u) (criterion l v)
  criterion_close part u v e f pp k ee steep near =
      let moved = values_apart are_terms (is_axis h.range.xt h.range.xc h.ratio.along) (is_axis h.range.yt h.range.yc h.ratio.across) (are_small part u v k) pp
      v.along v.across v.shear e f ee (subst (λ z. z ≤ℚ whole (pos 1) +ℚ e) (criterion_is l v) near) steep in
      subst (λ z. AreApart (band f part) (criterion l u) z) (sym (criterion_is l v))
      (subst (λ z. AreApart (band f part) z (form_of l v.along v.across v.shear)) (there ∙ sym (criterion_is l u)) moved)
    where
      there : form_of l (v.along +ℚ (u.along -ℚ v.along)) (v.across +ℚ (u.across -ℚ v.across)) (v.shear +ℚ (u.shear -ℚ v.shear)) ≡ form_of l u.along u.across u.shear
      there = rw (back u.along v.along, back u.across v.across, back u.shear v.shear) refl
