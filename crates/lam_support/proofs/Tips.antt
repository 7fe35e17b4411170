-- The stresses on the axes of a surface: one of them gives a weighted stress that is at least the steepest slope.
use Rattle.std.proofs.Common.{◌≡◌, refl, sym, ◌∙◌, ap, subst, ◌⊎◌, inl, inr, ℕ, ◌<◌, ◌≤◌, max, ℤ, pos, neg_ℤ, ◌*ℤ◌, ◌≤ℤ◌, ◌<ℤ◌, unsigned_abs, arith}
use Rattle.std.specs.Int.{int_min}
use Rattle.std.proofs.lemmas.Bool.{cases_lt}
use Rattle.std.proofs.lemmas.Int.{ints, clamps}
use Rattle.lam_fraction.specs.Fraction.{ℚ, whole, ◌+ℚ◌, ◌-ℚ◌, ◌*ℚ◌, ◌/ℚ◌, inverse, ◌≤ℚ◌, ◌<ℚ◌}
use Rattle.lam_fraction.proofs.Expression.{int, ◌⊕◌, ◌⊖◌, ◌⊗◌, minus}
use Rattle.lam_fraction.proofs.FractionPairs.{whole-le, whole-lt}
use Rattle.lam_fraction.proofs.FractionRing.{whole-product}
use Rattle.lam_fraction.proofs.FractionBounds.{times-inverse, at_most_same}
use Rattle.lam_fraction.proofs.Integers as Z
use Rattle.lam_fraction.proofs.Laws.{either}
use Rattle.lam_fraction.proofs.Rationals.{solve, same_without_factor, transitive, positive_number, ◌*ₚ◌}
use Rattle.lam_fraction.proofs.Solver.{◌≐◌}
use Rattle.lam_fraction.proofs.WholeFractions.{whole-opposite}
use Rattle.lam_stock.specs.declared.item.Lamina.{Lamina}
use Rattle.lam_stock.specs.Limits.{KeepsStrengths}
use Rattle.lam_stock.specs.PlyLaw.{OnAxis}
use Rattle.lam_stock.specs.TsaiWu.{criterion}
use Rattle.lam_stock.proofs.StrengthBounds.{PositiveStrengths, positive_strengths}
use Rattle.lam_support.specs.declared.slopes.PlyWeight.{PlyWeight}
use Rattle.lam_support.specs.inside.Formulas as by
use Rattle.lam_support.specs.Carried.{IsInside}
use Rattle.lam_support.proofs.SurfaceLaw.{cleared}
use Rattle.lam_support.proofs.Weighted.{on_axis}

-- a stress on an axis, with tension t and compression c: one of the two, whichever the weight w pulls
pub record AxisTip (w t c : ℤ) : Type 0 where
  pub at : ℤ
  pub root : whole at *ℚ whole at +ℚ (whole c -ℚ whole t) *ℚ whole at ≡ whole t *ℚ whole c
  pub far : pos (unsigned_abs (w *ℤ int_min t c)) ≤ℤ (w *ℤ at)

size-of : (z : ℤ) → pos 0 ≤ℤ z → pos (unsigned_abs z) ≡ z
size-of z h = omega (arith, ints, h)

size-below : (z : ℤ) → z ≤ℤ pos 0 → pos (unsigned_abs z) ≡ neg_ℤ z
size-below z h = omega (arith, ints, h)

pub axis_tip : (w t c : ℤ) → pos 0 <ℤ t → pos 0 <ℤ c → AxisTip w t c
unfolding ◌-ℚ◌
axis_tip w t c p q = go (either (pos 0) w)
  where
    go : (pos 0 ≤ℤ w) ⊎ (w <ℤ pos 0) → AxisTip w t c
    go (inl h) = record {
      at = t;
      root = solve 2 (λ t c. t ⊗ t ⊕ (c ⊖ t) ⊗ t ≐ t ⊗ c) refl (whole t) (whole c);
      far =
          let sign : pos 0 ≤ℤ int_min t c = omega (arith, ints, clamps, p, q) in
          let less : int_min t c ≤ℤ t = omega (arith, ints, clamps) in
          subst (λ x. x ≤ℤ (w *ℤ t)) (sym (size-of (w *ℤ int_min t c) (Z.◌*ₙ◌ h sign)))
          (Z.at_most (Z.◌*ₙ◌ h (Z.above less)) (Z.solve 3 (λ w k t. w ⊗ t ⊖ w ⊗ k ≐ w ⊗ (t ⊖ k)) refl w (int_min t c) t));
    }
    go (inr h) = record {
      at = neg_ℤ c;
      root = ap (λ x. x *ℚ x +ℚ (whole c -ℚ whole t) *ℚ x) (whole-opposite c) ∙ solve 2 (λ t c. minus c ⊗ minus c ⊕ (c ⊖ t) ⊗ minus c ≐ t ⊗ c) refl (whole t) (whole c);
      far =
          let down : pos 0 ≤ℤ neg_ℤ w = omega (arith, ints, h) in
          let sign : pos 0 ≤ℤ int_min t c = omega (arith, ints, clamps, p, q) in
          let less : int_min t c ≤ℤ c = omega (arith, ints, clamps) in
          let below : (w *ℤ int_min t c) ≤ℤ pos 0 = Z.at_most (Z.◌*ₙ◌ down sign) (Z.solve 2 (λ w k. int (pos 0) ⊖ w ⊗ k ≐ minus w ⊗ k) refl w (int_min t c)) in
          subst (λ x. x ≤ℤ (w *ℤ neg_ℤ c)) (sym (size-below (w *ℤ int_min t c) below))
          (Z.at_most (Z.◌*ₙ◌ down (Z.above less)) (Z.solve 3 (λ w k c. w ⊗ minus c ⊖ minus (w ⊗ k) ≐ minus w ⊗ (c ⊖ k)) refl w (int_min t c) c));
    }

-- a stress inside the surface that gives at least m kPa
pub record Tip (l : Lamina) (v : PlyWeight) (m : ℕ) : Type 0 where
  pub at : OnAxis
  pub inside : IsInside l at
  pub far : whole (pos m) ≤ℚ whole (pos 1000) *ℚ on_axis v at

module _ {l : Lamina} (h : KeepsStrengths l) where
  p : PositiveStrengths l
  p = positive_strengths h

  back : (u : ℚ) → (u *ℚ inverse (whole (pos 1000))) *ℚ whole (pos 1000) ≡ u
  back u = solve 3 (λ u i k. (u ⊗ i) ⊗ k ≐ u ⊗ (k ⊗ i)) refl u (inverse (whole (pos 1000))) (whole (pos 1000)) ∙ ap (λ x. u *ℚ x) (times-inverse (positive_number 999)) ∙ solve 1 (λ u. u ⊗ int (pos 1) ≐ u) refl u

  none : whole (pos 0) *ℚ whole (pos 1000) ≡ whole (pos 0)
  none = solve 1 (λ k. int (pos 0) ⊗ k ≐ int (pos 0)) refl (whole (pos 1000))

  -- the terms of an axis are 1 there
  one-on : (t c u : ℤ) → pos 0 <ℤ t → pos 0 <ℤ c → whole u *ℚ whole u +ℚ (whole c -ℚ whole t) *ℚ whole u ≡ whole t *ℚ whole c
      → (whole u *ℚ inverse (whole t) -ℚ whole u *ℚ inverse (whole c)) +ℚ (whole u *ℚ whole u) *ℚ inverse (whole (t *ℤ c)) ≡ whole (pos 1)
  unfolding ◌-ℚ◌
  one-on t c u a b root =
      let tension = (whole-lt (pos 0) t).1 a in
      let compression = (whole-lt (pos 0) c).1 b in
      let both : whole t *ℚ whole c *ℚ inverse (whole (t *ℤ c)) ≡ whole (pos 1) =
      ap (λ x. x *ℚ inverse (whole (t *ℤ c))) (sym (whole-product t c)) ∙ times-inverse (subst (λ x. whole (pos 0) <ℚ x) (sym (whole-product t c)) (tension *ₚ compression)) in
      same_without_factor (whole t *ℚ whole c) (tension *ₚ compression)
      (cleared (whole t) (whole c) (whole u) (inverse (whole t)) (inverse (whole c)) (inverse (whole (t *ℤ c))) (times-inverse tension) (times-inverse compression) both
      ∙ root ∙ solve 1 (λ x. x ≐ x ⊗ int (pos 1)) refl (whole t *ℚ whole c))

  -- the criterion on each axis
  along-value : (u : ℚ) → criterion l (record { along = u; across = whole (pos 0); shear = whole (pos 0) })
      ≡ (u *ℚ inverse (whole l.xt) -ℚ u *ℚ inverse (whole l.xc)) +ℚ (u *ℚ u) *ℚ inverse (whole (l.xt *ℤ l.xc))
  unfolding ◌-ℚ◌ ◌/ℚ◌ criterion
  along-value u =
      solve 10 (λ u a b c d k m n o q. let z = int (pos 0) in
      (u ⊗ a ⊖ u ⊗ b) ⊕ (z ⊗ c ⊖ z ⊗ d) ⊕ (u ⊗ u) ⊗ k ⊕ (z ⊗ z) ⊗ m ⊕ (z ⊗ z) ⊗ n ⊕ (o ⊗ (u ⊗ z)) ⊗ q ≐ (u ⊗ a ⊖ u ⊗ b) ⊕ (u ⊗ u) ⊗ k) refl
      u (inverse (whole l.xt)) (inverse (whole l.xc)) (inverse (whole l.yt)) (inverse (whole l.yc)) (inverse (whole (l.xt *ℤ l.xc))) (inverse (whole (l.yt *ℤ l.yc))) (inverse (whole (l.s *ℤ l.s)))
      (whole (pos 2 *ℤ l.f12)) (inverse (whole (pos 1000000000000000000)))

  across-value : (u : ℚ) → criterion l (record { along = whole (pos 0); across = u; shear = whole (pos 0) })
      ≡ (u *ℚ inverse (whole l.yt) -ℚ u *ℚ inverse (whole l.yc)) +ℚ (u *ℚ u) *ℚ inverse (whole (l.yt *ℤ l.yc))
  unfolding ◌-ℚ◌ ◌/ℚ◌ criterion
  across-value u =
      solve 10 (λ u a b c d k m n o q. let z = int (pos 0) in
      (z ⊗ a ⊖ z ⊗ b) ⊕ (u ⊗ c ⊖ u ⊗ d) ⊕ (z ⊗ z) ⊗ k ⊕ (u ⊗ u) ⊗ m ⊕ (z ⊗ z) ⊗ n ⊕ (o ⊗ (z ⊗ u)) ⊗ q ≐ (u ⊗ c ⊖ u ⊗ d) ⊕ (u ⊗ u) ⊗ m) refl
      u (inverse (whole l.xt)) (inverse (whole l.xc)) (inverse (whole l.yt)) (inverse (whole l.yc)) (inverse (whole (l.xt *ℤ l.xc))) (inverse (whole (l.yt *ℤ l.yc))) (inverse (whole (l.s *ℤ l.s)))
      (whole (pos 2 *ℤ l.f12)) (inverse (whole (pos 1000000000000000000)))

  shear-value : (u : ℚ) → criterion l (record { along = whole (pos 0); across = whole (pos 0); shear = u }) ≡ (u *ℚ u) *ℚ inverse (whole (l.s *ℤ l.s))
  unfolding ◌-ℚ◌ ◌/ℚ◌ criterion
  shear-value u =
      solve 10 (λ u a b c d k m n o q. let z = int (pos 0) in
      (z ⊗ a ⊖ z ⊗ b) ⊕ (z ⊗ c ⊖ z ⊗ d) ⊕ (z ⊗ z) ⊗ k ⊕ (z ⊗ z) ⊗ m ⊕ (u ⊗ u) ⊗ n ⊕ (o ⊗ (z ⊗ z)) ⊗ q ≐ (u ⊗ u) ⊗ n) refl
      u (inverse (whole l.xt)) (inverse (whole l.xc)) (inverse (whole l.yt)) (inverse (whole l.yc)) (inverse (whole (l.xt *ℤ l.xc))) (inverse (whole (l.yt *ℤ l.yc))) (inverse (whole (l.s *ℤ l.s)))
      (whole (pos 2 *ℤ l.f12)) (inverse (whole (pos 1000000000000000000)))

  -- a weight times a stress of u kPa
  far-by : (w u : ℤ) (m : ℕ) (x : ℚ) → pos m ≤ℤ (w *ℤ u) → x ≡ whole w *ℚ (whole u *ℚ inverse (whole (pos 1000))) → whole (pos m) ≤ℚ whole (pos 1000) *ℚ x
  far-by w u m x h e =
      subst (λ y. whole (pos m) ≤ℚ y)
      (whole-product w u ∙ ap (λ y. whole w *ℚ y) (sym (back (whole u))) ∙ solve 4 (λ w u i k. w ⊗ ((u ⊗ i) ⊗ k) ≐ k ⊗ (w ⊗ (u ⊗ i))) refl (whole w) (whole u) (inverse (whole (pos 1000))) (whole (pos 1000)) ∙ ap (λ y. whole (pos 1000) *ℚ y) (sym e))
      ((whole-le (pos m) (w *ℤ u)).1 h)

  pub along_tip : (v : PlyWeight) → Tip l v (unsigned_abs (v.along *ℤ int_min l.xt l.xc))
  along_tip v =
      let a = axis_tip v.along l.xt l.xc p.xt p.xc in
      record {
        at = record { along = whole a.at *ℚ inverse (whole (pos 1000)); across = whole (pos 0); shear = whole (pos 0) };
        inside = at_most_same ((λ i. criterion l (record { along = back (whole a.at) i; across = none i; shear = none i })) ∙ along-value (whole a.at) ∙ one-on l.xt l.xc a.at p.xt p.xc a.root);
        far = far-by v.along a.at _ _ a.far (solve 4 (λ a b c x. a ⊗ x ⊕ b ⊗ int (pos 0) ⊕ c ⊗ int (pos 0) ≐ a ⊗ x) refl (whole v.along) (whole v.across) (whole v.shear) (whole a.at *ℚ inverse (whole (pos 1000))));
      }

  pub across_tip : (v : PlyWeight) → Tip l v (unsigned_abs (v.across *ℤ int_min l.yt l.yc))
  across_tip v =
      let a = axis_tip v.across l.yt l.yc p.yt p.yc in
      record {
        at = record { along = whole (pos 0); across = whole a.at *ℚ inverse (whole (pos 1000)); shear = whole (pos 0) };
        inside = at_most_same ((λ i. criterion l (record { along = none i; across = back (whole a.at) i; shear = none i })) ∙ across-value (whole a.at) ∙ one-on l.yt l.yc a.at p.yt p.yc a.root);
        far = far-by v.across a.at _ _ a.far (solve 4 (λ a b c x. a ⊗ int (pos 0) ⊕ b ⊗ x ⊕ c ⊗ int (pos 0) ≐ b ⊗ x) refl (whole v.along) (whole v.across) (whole v.shear) (whole a.at *ℚ inverse (whole (pos 1000))));
      }

  -- of the shear stress, with the same strength either way
  same-strength : (s : ℤ) → int_min s s ≡ s
  same-strength s = omega (arith, ints, clamps)

  shear-one : (s u : ℤ) → pos 0 <ℤ s → whole u *ℚ whole u +ℚ (whole s -ℚ whole s) *ℚ whole u ≡ whole s *ℚ whole s → (whole u *ℚ whole u) *ℚ inverse (whole (s *ℤ s)) ≡ whole (pos 1)
  unfolding ◌-ℚ◌
  shear-one s u positive root =
      let q = (whole-lt (pos 0) s).1 positive in
      ap (λ x. x *ℚ inverse (whole (s *ℤ s))) (solve 2 (λ u s. u ⊗ u ≐ u ⊗ u ⊕ (s ⊖ s) ⊗ u) refl (whole u) (whole s) ∙ root ∙ sym (whole-product s s))
      ∙ times-inverse (subst (λ x. whole (pos 0) <ℚ x) (sym (whole-product s s)) (q *ₚ q))

  pub shear_tip : (v : PlyWeight) → Tip l v (unsigned_abs (v.shear *ℤ l.s))
  shear_tip v =
      let a = axis_tip v.shear l.s l.s p.s p.s in
      record {
        at = record { along = whole (pos 0); across = whole (pos 0); shear = whole a.at *ℚ inverse (whole (pos 1000)) };
        inside = at_most_same ((λ i. criterion l (record { along = none i; across = none i; shear = back (whole a.at) i })) ∙ shear-value (whole a.at) ∙ shear-one l.s a.at p.s a.root);
        far = far-by v.shear a.at _ _ (subst (λ k. pos (unsigned_abs (v.shear *ℤ k)) ≤ℤ (v.shear *ℤ a.at)) (same-strength l.s) a.far)
            (solve 4 (λ a b c x. a ⊗ int (pos 0) ⊕ b ⊗ int (pos 0) ⊕ c ⊗ x ≐ c ⊗ x) refl (whole v.along) (whole v.across) (whole v.shear) (whole a.at *ℚ inverse (whole (pos 1000))));
      }

  as-far : {v : PlyWeight} {m k : ℕ} → m ≤ k → Tip l v k → Tip l v m
  as-far {v} {m} {k} less t = record { at = t.at; inside = t.inside; far = transitive ((whole-le (pos m) (pos k)).1 (omega (arith, ints, less))) t.far }

  -- the steepest of the three
  pub tip : (v : PlyWeight) → Tip l v (by.greatest (by.at_strengths l v))
  tip v = go (cases_lt a b) (cases_lt (max a b) c)
    where
      a : ℕ
      a = unsigned_abs (v.along *ℤ int_min l.xt l.xc)

      b : ℕ
      b = unsigned_abs (v.across *ℤ int_min l.yt l.yc)

      c : ℕ
      c = unsigned_abs (v.shear *ℤ l.s)

      go : (a < b) ⊎ (b ≤ a) → (max a b < c) ⊎ (c ≤ max a b) → Tip l v (max (max a b) c)
      go f (inl g) = as-far (omega (arith, g)) (shear_tip v)
      go (inl f) (inr g) = as-far (omega (arith, f, g)) (across_tip v)
      go (inr f) (inr g) = as-far (omega (arith, f, g)) (along_tip v)
