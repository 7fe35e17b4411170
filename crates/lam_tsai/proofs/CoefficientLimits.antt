-- What the limits on strengths say of the criterion's coefficients, and so how small and how great its value is.
use Rattle.std.proofs.Common.{◌≡◌, refl, sym, ◌∙◌, ap, ap₂, subst, subst₂, ◌⊎◌, inl, inr, ℤ, pos, negsuc, ◌+ℤ◌, ◌-ℤ◌, ◌*ℤ◌, ◌≤ℤ◌, ◌<ℤ◌, arith}
use Rattle.std.specs.Int.{int_min, int_max}
use Rattle.std.proofs.lemmas.Int.{ints, clamps}
use Rattle.lam_fraction.specs.Fraction.{ℚ, whole, ◌+ℚ◌, ◌-ℚ◌, ◌*ℚ◌, ◌/ℚ◌, opposite, ◌≤ℚ◌, ◌<ℚ◌}
use Rattle.lam_fraction.specs.inside.WholeNumbers.{product_positive}
use Rattle.lam_fraction.specs.numbers.Arithmetic.{exact}
use Rattle.lam_fraction.proofs.Expression.{int, ◌⊕◌, ◌⊖◌, ◌⊗◌}
use Rattle.lam_fraction.proofs.Integers as Z
use Rattle.lam_fraction.proofs.Solver.{◌≐◌}
use Rattle.lam_fraction.proofs.Rationals.{solve, from₁, from₂, above, strictly_above, at_most_over, below_over, positive_number, fraction_times, ◌*ₚ◌}
use Rattle.lam_fraction.proofs.FractionBounds.{whole_positive, times-inverse}
use Rattle.lam_fraction.proofs.FractionRing.{whole-product, whole-sum}
use Rattle.lam_fraction.proofs.WholeFractions.{whole_at_most}
use Rattle.lam_stock.specs.declared.item.Lamina.{Lamina}
use Rattle.lam_stock.specs.Limits.{IsStrength, AreWithinSixteen, KeepsStrengths}
use Rattle.lam_stock.specs.PlyLaw.{OnAxis}
use Rattle.lam_stock.specs.TsaiWu.{criterion}
use Rattle.lam_stock.proofs.StrengthBounds.{positive_strengths}
use Rattle.lam_tsai.specs.inside.Formulas as by
use Rattle.lam_tsai.proofs.CriterionBounds.{IsAxis, IsJoint, terms, axis-above, axis-below, terms-least, along-far, across-far, shear-far, square-above, square-below}
use Rattle.lam_tsai.proofs.ScaledValue.{unit_value, inverse_4096, one_part, shares_of, value-is}
use Rattle.lam_tsai.proofs.Ordered.{int_cases}

-- ---- of an axis

module _ (t c : ℤ) (p : IsStrength t) (q : IsStrength c) (near : AreWithinSixteen t c) where
  above_zero : pos 0 <ℤ int_min t c
  above_zero = omega (arith, ints, clamps, p.least, q.least)

  square-times : (whole (pos 16) *ℚ whole (int_min t c)) *ℚ by.quadratic exact t c ≡ whole (int_max t c)
  square-times =
      ap (λ z. z *ℚ by.quadratic exact t c) (sym (whole-product (pos 16) (int_min t c)))
      ∙ fraction_times (int_max t c) (pos 16 *ℤ int_min t c) (product_positive (pos 16) (int_min t c) (omega (arith, ints)) above_zero)

  linear-times : (whole (pos 256) *ℚ whole (int_min t c)) *ℚ by.linear exact t c ≡ whole (c -ℤ t)
  linear-times =
      ap (λ z. z *ℚ by.linear exact t c) (sym (whole-product (pos 256) (int_min t c)))
      ∙ fraction_times (c -ℤ t) (pos 256 *ℤ int_min t c) (product_positive (pos 256) (int_min t c) (omega (arith, ints)) above_zero)

  positive : whole (pos 0) <ℚ whole (int_min t c)
  positive = whole_positive above_zero

  first : (int_min t c) ≤ℤ (int_max t c)
  first = omega (arith, ints, clamps)

  second : (int_max t c) ≤ℤ (pos 16 *ℤ int_min t c)
  second = omega (arith, ints, clamps, near.first, near.second)

  fourth : (int_min t c +ℤ (c -ℤ t)) ≤ℤ int_max t c
  fourth = omega (arith, ints, clamps)

  pub is-axis : IsAxis (by.linear exact t c) (by.quadratic exact t c)
  unfolding ◌-ℚ◌
  is-axis =
      let a = by.linear exact t c in
      let s = by.quadratic exact t c in
      let k = whole (int_min t c) in
      let x = whole (int_max t c) in
      let e = whole (c -ℤ t) in
      record {
        least = at_most_over {k = k} positive (above (whole_at_most first))
            (from₁ (whole (pos 1)) square-times (solve 3 (λ k s x. k ⊗ (int (pos 16) ⊗ s ⊖ int (pos 1)) ≐ (x ⊖ k) ⊕ int (pos 1) ⊗ ((int (pos 16) ⊗ k) ⊗ s ⊖ x)) refl k s x));
        most = at_most_over {k = whole (pos 16) *ℚ k} (positive_number 15 *ₚ positive) (above (subst (λ z. x ≤ℚ z) (whole-product (pos 16) (int_min t c)) (whole_at_most second)))
            (from₁ (whole (negsuc 0)) square-times (solve 3 (λ k s x. (int (pos 16) ⊗ k) ⊗ (int (pos 1) ⊖ s) ≐ (int (pos 16) ⊗ k ⊖ x) ⊕ int (negsuc 0) ⊗ ((int (pos 16) ⊗ k) ⊗ s ⊖ x)) refl k s x));
        from = at_most_over {k = k} positive (above lower)
            (from₂ (whole (pos 1)) square-times (whole (pos 1)) linear-times
            (solve 5 (λ k s x a e. k ⊗ ((int (pos 16) ⊗ s ⊕ int (pos 256) ⊗ a) ⊖ int (pos 1)) ≐ ((x ⊕ e) ⊖ k) ⊕ int (pos 1) ⊗ ((int (pos 16) ⊗ k) ⊗ s ⊖ x) ⊕ int (pos 1) ⊗ ((int (pos 256) ⊗ k) ⊗ a ⊖ e)) refl k s x a e));
        to = at_most_over {k = k} positive (above upper)
            (from₂ (whole (pos 1)) square-times (whole (negsuc 0)) linear-times
            (solve 5 (λ k s x a e. k ⊗ (int (pos 16) ⊗ s ⊖ (int (pos 1) ⊕ int (pos 256) ⊗ a)) ≐ (x ⊖ (k ⊕ e)) ⊕ int (pos 1) ⊗ ((int (pos 16) ⊗ k) ⊗ s ⊖ x) ⊕ int (negsuc 0) ⊗ ((int (pos 256) ⊗ k) ⊗ a ⊖ e)) refl k s x a e));
      }
    where
      lower : whole (int_min t c) ≤ℚ whole (int_max t c) +ℚ whole (c -ℤ t)
      lower = subst (λ z. whole (int_min t c) ≤ℚ z) (whole-sum (int_max t c) (c -ℤ t)) (whole_at_most (omega (arith, ints, clamps)))

      upper : whole (int_min t c) +ℚ whole (c -ℤ t) ≤ℚ whole (int_max t c)
      upper = subst (λ z. z ≤ℚ whole (int_max t c)) (whole-sum (int_min t c) (c -ℤ t)) (whole_at_most fourth)

-- ---- of the product of both

abbrev great : ℤ
great = pos 8000000000000000000

joint-whole : (f x y mx my : ℤ) → pos 0 ≤ℤ x → pos 0 ≤ℤ y → (pos 4 *ℤ (f *ℤ f) *ℤ ((x *ℤ mx) *ℤ (y *ℤ my))) ≤ℤ pos 3000000000000000000000000000000000000
    → (pos 256 *ℤ (mx *ℤ my) *ℤ ((f *ℤ (x *ℤ y)) *ℤ (f *ℤ (x *ℤ y)))) ≤ℤ (pos 192000000000000000000000000000000000000 *ℤ (x *ℤ y))
joint-whole f x y mx my p q kept =
    Z.at_most (Z.◌*ₙ◌ (Z.◌*ₙ◌ (Z.number 64) (Z.◌*ₙ◌ p q)) (Z.above kept))
    (Z.solve 5 (λ f x y a b.
    int (pos 192000000000000000000000000000000000000) ⊗ (x ⊗ y) ⊖ int (pos 256) ⊗ (a ⊗ b) ⊗ ((f ⊗ (x ⊗ y)) ⊗ (f ⊗ (x ⊗ y)))
    ≐ (int (pos 64) ⊗ (x ⊗ y)) ⊗ (int (pos 3000000000000000000000000000000000000) ⊖ int (pos 4) ⊗ (f ⊗ f) ⊗ ((x ⊗ a) ⊗ (y ⊗ b)))) refl f x y mx my)

-- the greater times the lesser is the product of both
both-ends : (t c : ℤ) → int_max t c *ℤ int_min t c ≡ t *ℤ c
both-ends t c = int_cases t c
    (λ h. let most : int_max t c ≡ c = omega (arith, ints, clamps, h) in let least : int_min t c ≡ t = omega (arith, ints, clamps, h) in ap₂ ◌*ℤ◌ most least ∙ Z.solve 2 (λ t c. c ⊗ t ≐ t ⊗ c) refl t c)
    (λ h. let most : int_max t c ≡ t = omega (arith, ints, clamps, h) in let least : int_min t c ≡ c = omega (arith, ints, clamps, h) in ap₂ ◌*ℤ◌ most least)

joint-scaled : (k a b x y i : ℚ) (m p q : ℚ) → whole (pos 0) <ℚ k → whole (pos 0) <ℚ a → whole (pos 0) <ℚ b → k *ℚ m ≡ i → (whole (pos 16) *ℚ a) *ℚ p ≡ x → (whole (pos 16) *ℚ b) *ℚ q ≡ y
    → whole (pos 256) *ℚ (a *ℚ b) *ℚ (i *ℚ i) ≤ℚ whole (pos 3) *ℚ (k *ℚ k) *ℚ (x *ℚ y) → IsJoint m p q
unfolding ◌-ℚ◌
joint-scaled k a b x y i m p q kp ap' bp em ep eq h =
    at_most_over {k = whole (pos 256) *ℚ (a *ℚ b) *ℚ (k *ℚ k)} (positive_number 255 *ₚ (ap' *ₚ bp) *ₚ (kp *ₚ kp)) (above h')
    (solve 6 (λ k a b m p q.
    (int (pos 256) ⊗ (a ⊗ b) ⊗ (k ⊗ k)) ⊗ (int (pos 3) ⊗ (p ⊗ q) ⊖ m ⊗ m)
    ≐ int (pos 3) ⊗ (k ⊗ k) ⊗ (((int (pos 16) ⊗ a) ⊗ p) ⊗ ((int (pos 16) ⊗ b) ⊗ q)) ⊖ int (pos 256) ⊗ (a ⊗ b) ⊗ ((k ⊗ m) ⊗ (k ⊗ m))) refl k a b m p q)
  where
    h' : whole (pos 256) *ℚ (a *ℚ b) *ℚ ((k *ℚ m) *ℚ (k *ℚ m)) ≤ℚ whole (pos 3) *ℚ (k *ℚ k) *ℚ (((whole (pos 16) *ℚ a) *ℚ p) *ℚ ((whole (pos 16) *ℚ b) *ℚ q))
    h' = rw (em, ep, eq) h

module _ {l : Lamina} (h : KeepsStrengths l) where
  along-axis : IsAxis (by.linear exact l.xt l.xc) (by.quadratic exact l.xt l.xc)
  along-axis = is-axis l.xt l.xc h.range.xt h.range.xc h.ratio.along

  across-axis : IsAxis (by.linear exact l.yt l.yc) (by.quadratic exact l.yt l.yc)
  across-axis = is-axis l.yt l.yc h.range.yt h.range.yc h.ratio.across

  joint : IsJoint (by.mixed exact l) (by.quadratic exact l.xt l.xc) (by.quadratic exact l.yt l.yc)
  joint =
      let x = int_max l.xt l.xc in
      let y = int_max l.yt l.yc in
      let mx = int_min l.xt l.xc in
      let my = int_min l.yt l.yc in
      let i = by.interaction l in
      let cross = subst₂ (λ a b. (pos 4 *ℤ (l.f12 *ℤ l.f12) *ℤ (a *ℤ b)) ≤ℤ pos 3000000000000000000000000000000000000) (sym (both-ends l.xt l.xc)) (sym (both-ends l.yt l.yc)) h.cross.kept in
      let small = joint-whole l.f12 x y mx my (omega (arith, ints, clamps, h.range.xt.least, h.range.xc.least)) (omega (arith, ints, clamps, h.range.yt.least, h.range.yc.least)) cross in
      joint-scaled (whole great) (whole mx) (whole my) (whole x) (whole y) (whole i) (by.mixed exact l) _ _
      (whole_positive {d = great} (omega (arith, ints))) (positive l.xt l.xc h.range.xt h.range.xc h.ratio.along) (positive l.yt l.yc h.range.yt h.range.yc h.ratio.across)
      (fraction_times i great (omega (arith, ints))) (square-times l.xt l.xc h.range.xt h.range.xc h.ratio.along) (square-times l.yt l.yc h.range.yt h.range.yc h.ratio.across)
      (subst₂ (λ a b. a ≤ℚ b) (left mx my i) (right x y) (whole_at_most small))
    where
      left : (a b i : ℤ) → whole (pos 256 *ℤ (a *ℤ b) *ℤ (i *ℤ i)) ≡ whole (pos 256) *ℚ (whole a *ℚ whole b) *ℚ (whole i *ℚ whole i)
      left a b i =
          whole-product (pos 256 *ℤ (a *ℤ b)) (i *ℤ i)
          ∙ ap₂ (λ u v. u *ℚ v) (whole-product (pos 256) (a *ℤ b) ∙ ap (λ z. whole (pos 256) *ℚ z) (whole-product a b)) (whole-product i i)

      right : (x y : ℤ) → whole (pos 192000000000000000000000000000000000000 *ℤ (x *ℤ y)) ≡ whole (pos 3) *ℚ (whole great *ℚ whole great) *ℚ (whole x *ℚ whole y)
      right x y =
          whole-product (pos 192000000000000000000000000000000000000) (x *ℤ y)
          ∙ ap₂ (λ u v. u *ℚ v) (whole-product (pos 3) (great *ℤ great) ∙ ap (λ z. whole (pos 3) *ℚ z) (whole-product great great)) (whole-product x y)

  -- ---- the value

  abbrev value : OnAxis → ℚ
  value u = terms (by.linear exact l.xt l.xc) (by.linear exact l.yt l.yc) (by.quadratic exact l.xt l.xc) (by.quadratic exact l.yt l.yc) (by.mixed exact l) (shares_of l u).along (shares_of l u).across (shares_of l u).shear

  whole-value : (u : OnAxis) → whole (pos 32768) *ℚ value u ≡ whole (pos 8) *ℚ criterion l u
  unfolding ◌-ℚ◌ ◌/ℚ◌
  whole-value u =
      let one : whole (pos 4096) *ℚ unit_value ≡ whole (pos 1) = ap (λ z. whole (pos 4096) *ℚ z) (sym inverse_4096) ∙ times-inverse (positive_number 4095) in
      let centre : value u -ℚ unit_value ≡ unit_value *ℚ (criterion l u -ℚ whole (pos 1)) = ap (λ z. value u -ℚ z) (sym one_part) ∙ value-is l u (positive_strengths h) in
      from₂ (whole (pos 32768)) centre (whole (pos 8) *ℚ criterion l u) one
      (solve 3 (λ v u f. int (pos 32768) ⊗ v ≐ int (pos 8) ⊗ f ⊕ int (pos 32768) ⊗ ((v ⊖ u) ⊖ u ⊗ (f ⊖ int (pos 1))) ⊕ (int (pos 8) ⊗ f) ⊗ (int (pos 4096) ⊗ u ⊖ int (pos 1))) refl (value u) unit_value (criterion l u))

  -- no value is below -56.25
  pub value-least : (u : OnAxis) → whole (pos 0) ≤ℚ whole (pos 8) *ℚ criterion l u +ℚ whole (pos 450)
  value-least u = subst (λ z. whole (pos 0) ≤ℚ z +ℚ whole (pos 450)) (whole-value u) (terms-least (by.mixed exact l) along-axis across-axis joint _ _ _)

  above-two : (u : OnAxis) → whole (pos 16) <ℚ whole (pos 8) *ℚ criterion l u → whole (pos 2) <ℚ criterion l u
  unfolding ◌-ℚ◌
  above-two u k = below_over (positive_number 7) (strictly_above k) (solve 1 (λ f. int (pos 8) ⊗ (f ⊖ int (pos 2)) ≐ int (pos 8) ⊗ f ⊖ int (pos 16)) refl (criterion l u))

  -- one above 16 times the strength makes it greater than 2, whatever the others are
  pub along-beyond : (u : OnAxis) → (whole (pos 1) ≤ℚ (shares_of l u).along) ⊎ ((shares_of l u).along ≤ℚ opposite (whole (pos 1))) → whole (pos 2) <ℚ criterion l u
  along-beyond u (inl k) = above-two u (subst (λ z. whole (pos 16) <ℚ z) (whole-value u) (along-far (by.mixed exact l) along-axis across-axis joint _ _ _ (axis-above along-axis _ k)))
  along-beyond u (inr k) = above-two u (subst (λ z. whole (pos 16) <ℚ z) (whole-value u) (along-far (by.mixed exact l) along-axis across-axis joint _ _ _ (axis-below along-axis _ k)))

  pub across-beyond : (u : OnAxis) → (whole (pos 1) ≤ℚ (shares_of l u).across) ⊎ ((shares_of l u).across ≤ℚ opposite (whole (pos 1))) → whole (pos 2) <ℚ criterion l u
  across-beyond u (inl k) = above-two u (subst (λ z. whole (pos 16) <ℚ z) (whole-value u) (across-far (by.mixed exact l) along-axis across-axis joint _ _ _ (axis-above across-axis _ k)))
  across-beyond u (inr k) = above-two u (subst (λ z. whole (pos 16) <ℚ z) (whole-value u) (across-far (by.mixed exact l) along-axis across-axis joint _ _ _ (axis-below across-axis _ k)))

  pub shear-beyond : (u : OnAxis) → (whole (pos 1) ≤ℚ (shares_of l u).shear) ⊎ ((shares_of l u).shear ≤ℚ opposite (whole (pos 1))) → whole (pos 2) <ℚ criterion l u
  shear-beyond u (inl k) = above-two u (subst (λ z. whole (pos 16) <ℚ z) (whole-value u) (shear-far (by.mixed exact l) along-axis across-axis joint _ _ _ (square-above _ k)))
  shear-beyond u (inr k) = above-two u (subst (λ z. whole (pos 16) <ℚ z) (whole-value u) (shear-far (by.mixed exact l) along-axis across-axis joint _ _ _ (square-below _ k)))
