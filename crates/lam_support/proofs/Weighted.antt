-- A weighted stress in the axes of a ply, and the stresses on the axes of a surface that tell how far it reaches at least.
use Rattle.std.proofs.Common.{◌≡◌, refl, sym, ◌∙◌, ap, [], ◌∷◌, ℤ, pos, neg_ℤ, ◌-ℤ◌, ◌*ℤ◌, ◌<ℤ◌}
use Rattle.std.specs.Int.{int_min}
use Rattle.lam_fraction.specs.Fraction.{ℚ, whole, fraction, ◌+ℚ◌, ◌-ℚ◌, ◌*ℚ◌, opposite, inverse, ◌<ℚ◌}
use Rattle.lam_fraction.specs.numbers.Arithmetic.{exact}
use Rattle.lam_fraction.proofs.Expression.{int, ◌⊕◌, ◌⊖◌, ◌⊗◌, minus}
use Rattle.lam_fraction.proofs.Solver.{quotes, ◌≐◌}
use Rattle.lam_fraction.proofs.FractionPairs.{whole-lt}
use Rattle.lam_fraction.proofs.FractionRing.{whole-product}
use Rattle.lam_fraction.proofs.FractionBounds.{times-inverse, fraction-times}
use Rattle.lam_fraction.proofs.Rationals.{solve, by_ring, from₁, fraction_times, positive_number}
use Rattle.lam_fraction.proofs.WholeFractions.{whole-opposite, sum_image, difference_image, product_image}
use Rattle.lam_direction.specs.Circle.{CirclePoint}
use Rattle.lam_direction.specs.Squares.{squares_of}
use Rattle.lam_stock.specs.declared.item.Lamina.{Lamina}
use Rattle.lam_stock.specs.Limits.{KeepsStrengths}
use Rattle.lam_stock.specs.PlyLaw.{OnAxis, cosine, sine, stress_off_axis}
use Rattle.lam_stock.specs.TsaiWu.{times_factor}
use Rattle.lam_stock.proofs.StrengthBounds.{positive_strengths}
use Rattle.lam_support.specs.declared.slopes.PlyWeight.{PlyWeight}
use Rattle.lam_support.specs.declared.weight.Weight.{Weight}
use Rattle.lam_support.specs.inside.Formulas as by
use Rattle.lam_support.specs.Carried.{weighted}
use Rattle.lam_support.proofs.Ellipse.{Triple, dot}
use Rattle.lam_support.proofs.SurfaceLaw.{Counted, along, across}

-- the weighted stress of a ply at a point of the circle
abbrev pub value : CirclePoint → Weight → OnAxis → ℚ
value d w t = weighted w (stress_off_axis (cosine d) (sine d) t)

abbrev pub size : CirclePoint → ℚ
size d = whole (d.h *ℤ d.h)

-- with weights in the axes of the ply
abbrev pub on_axis : PlyWeight → OnAxis → ℚ
on_axis v t = whole v.along *ℚ t.along +ℚ whole v.across *ℚ t.across +ℚ whole v.shear *ℚ t.shear

-- ---- the weights in the axes of the ply

cosine-times : (d : CirclePoint) → pos 0 <ℤ d.h → cosine d *ℚ whole d.h ≡ whole d.p
unfolding cosine
cosine-times d h = fraction-times d.p d.h h

sine-times : (d : CirclePoint) → pos 0 <ℤ d.h → sine d *ℚ whole d.h ≡ whole d.q
unfolding sine
sine-times d h = fraction-times d.q d.h h

pub value_is : (d : CirclePoint) (w : Weight) (t : OnAxis) → pos 0 <ℤ d.h → size d *ℚ value d w t ≡ on_axis (by.ply_weight (squares_of d) w) t
unfolding ◌-ℚ◌
value_is d w t h =
    let c = cosine d in
    let s = sine d in
    let k = whole d.h in
    let p : whole d.p ≡ c *ℚ k = sym (cosine-times d h) in
    let q : whole d.q ≡ s *ℚ k = sym (sine-times d h) in
    let x = whole w.x in
    let y = whole w.y in
    let z = whole w.s in
    let pp : whole (d.p *ℤ d.p) ≡ (c *ℚ k) *ℚ (c *ℚ k) = product_image d.p d.p p p in
    let qq : whole (d.q *ℤ d.q) ≡ (s *ℚ k) *ℚ (s *ℚ k) = product_image d.q d.q q q in
    let qp : whole (d.q *ℤ d.p) ≡ (s *ℚ k) *ℚ (c *ℚ k) = product_image d.q d.p q p in
    let none : whole (neg_ℤ (d.q *ℤ d.p)) ≡ opposite ((s *ℚ k) *ℚ (c *ℚ k)) = whole-opposite (d.q *ℤ d.p) ∙ ap opposite qp in
    let along : whole (by.ply_weight (squares_of d) w).along ≡ ((c *ℚ k) *ℚ (c *ℚ k)) *ℚ x +ℚ ((s *ℚ k) *ℚ (s *ℚ k)) *ℚ y +ℚ ((s *ℚ k) *ℚ (c *ℚ k)) *ℚ z =
    sum_image _ _ (sum_image _ _ (product_image (d.p *ℤ d.p) w.x pp refl) (product_image (d.q *ℤ d.q) w.y qq refl)) (product_image (d.q *ℤ d.p) w.s qp refl) in
    let across : whole (by.ply_weight (squares_of d) w).across ≡ ((s *ℚ k) *ℚ (s *ℚ k)) *ℚ x +ℚ ((c *ℚ k) *ℚ (c *ℚ k)) *ℚ y +ℚ opposite ((s *ℚ k) *ℚ (c *ℚ k)) *ℚ z =
    sum_image _ _ (sum_image _ _ (product_image (d.q *ℤ d.q) w.x qq refl) (product_image (d.p *ℤ d.p) w.y pp refl)) (product_image (neg_ℤ (d.q *ℤ d.p)) w.s none refl) in
    let shear : whole (by.ply_weight (squares_of d) w).shear ≡ (whole (pos 2) *ℚ ((s *ℚ k) *ℚ (c *ℚ k))) *ℚ (y -ℚ x) +ℚ ((c *ℚ k) *ℚ (c *ℚ k) -ℚ (s *ℚ k) *ℚ (s *ℚ k)) *ℚ z =
    sum_image _ _ (product_image (pos 2 *ℤ (d.q *ℤ d.p)) (w.y -ℤ w.x) (product_image (pos 2) (d.q *ℤ d.p) refl qp) (difference_image w.y w.x refl refl))
    (product_image ((d.p *ℤ d.p) -ℤ (d.q *ℤ d.q)) w.s (difference_image (d.p *ℤ d.p) (d.q *ℤ d.q) pp qq) refl) in
    ap (λ u. u *ℚ value d w t) (whole-product d.h d.h)
    ∙ solve 9 (λ c s k x y z a b e. k ⊗ k ⊗ (x ⊗ ((c ⊗ c) ⊗ a ⊕ (s ⊗ s) ⊗ b ⊖ int (pos 2) ⊗ (s ⊗ c) ⊗ e) ⊕ y ⊗ ((s ⊗ s) ⊗ a ⊕ (c ⊗ c) ⊗ b ⊕ int (pos 2) ⊗ (s ⊗ c) ⊗ e) ⊕ z ⊗ ((s ⊗ c) ⊗ a ⊖ (s ⊗ c) ⊗ b ⊕ (c ⊗ c ⊖ s ⊗ s) ⊗ e))
    ≐ (((c ⊗ k) ⊗ (c ⊗ k)) ⊗ x ⊕ ((s ⊗ k) ⊗ (s ⊗ k)) ⊗ y ⊕ ((s ⊗ k) ⊗ (c ⊗ k)) ⊗ z) ⊗ a
    ⊕ (((s ⊗ k) ⊗ (s ⊗ k)) ⊗ x ⊕ ((c ⊗ k) ⊗ (c ⊗ k)) ⊗ y ⊕ minus ((s ⊗ k) ⊗ (c ⊗ k)) ⊗ z) ⊗ b
    ⊕ ((int (pos 2) ⊗ ((s ⊗ k) ⊗ (c ⊗ k))) ⊗ (y ⊖ x) ⊕ ((c ⊗ k) ⊗ (c ⊗ k) ⊖ (s ⊗ k) ⊗ (s ⊗ k)) ⊗ z) ⊗ e) refl c s k x y z t.along t.across t.shear
    ∙ (λ i. sym along i *ℚ t.along +ℚ sym across i *ℚ t.across +ℚ sym shear i *ℚ t.shear)

-- ---- stresses over the lesser strengths

module _ {l : Lamina} (h : KeepsStrengths l) where
  shear-positive : whole (pos 0) <ℚ whole l.s
  shear-positive = (whole-lt (pos 0) l.s).1 (positive_strengths h).s

  -- of a stress in MPa
  abbrev pub counted : OnAxis → Triple
  counted t = record {
    along = (t.along *ℚ whole (pos 1000)) *ℚ inverse (whole (int_min l.xt l.xc));
    across = (t.across *ℚ whole (pos 1000)) *ℚ inverse (whole (int_min l.yt l.yc));
    shear = (t.shear *ℚ whole (pos 1000)) *ℚ inverse (whole l.s);
  }

  restored : (d i t : ℚ) → d *ℚ i ≡ whole (pos 1) → d *ℚ (t *ℚ i) ≡ t
  unfolding ◌-ℚ◌
  restored d i t e = from₁ t e (by_ring (d ∷ i ∷ t ∷ []) (search quotes depth 20) refl)

  pub counted_is : (t : OnAxis) → Counted h (times_factor (whole (pos 1000)) t) (counted t)
  counted_is t = record {
    along = restored _ _ _ (times-inverse (along h).lesser);
    across = restored _ _ _ (times-inverse (across h).lesser);
    shear = restored _ _ _ (times-inverse shear-positive);
  }

  -- and back
  abbrev pub stress : Triple → OnAxis
  stress y = let i = inverse (whole (pos 1000)) in record {
    along = (whole (int_min l.xt l.xc) *ℚ y.along) *ℚ i;
    across = (whole (int_min l.yt l.yc) *ℚ y.across) *ℚ i;
    shear = (whole l.s *ℚ y.shear) *ℚ i;
  }

  thousandth : (t : ℚ) → t ≡ (t *ℚ inverse (whole (pos 1000))) *ℚ whole (pos 1000)
  thousandth t = sym (solve 3 (λ t i k. (t ⊗ i) ⊗ k ≐ k ⊗ (t ⊗ i)) refl t (inverse (whole (pos 1000))) (whole (pos 1000)) ∙ restored _ _ t (times-inverse (positive_number 999)))

  pub stress_is : (y : Triple) → Counted h (times_factor (whole (pos 1000)) (stress y)) y
  stress_is y = record { along = thousandth _; across = thousandth _; shear = thousandth _ }

  -- the linear form of the slopes
  pub slopes_value : (v : PlyWeight) (m : ℤ) → pos 0 <ℤ m → (t : OnAxis) (y : Triple) → Counted h (times_factor (whole (pos 1000)) t) y
      → let n = by.slopes exact (by.at_strengths l v) m in
      whole m *ℚ dot (record { along = n.along; across = n.across; shear = n.shear }) y ≡ whole (pos 1000) *ℚ on_axis v t
  unfolding ◌-ℚ◌
  slopes_value v m positive t y k =
      let n = by.slopes exact (by.at_strengths l v) m in
      solve 7 (λ m a b c x y z. m ⊗ (a ⊗ x ⊕ b ⊗ y ⊕ c ⊗ z) ≐ (m ⊗ a) ⊗ x ⊕ (m ⊗ b) ⊗ y ⊕ (m ⊗ c) ⊗ z) refl (whole m) n.along n.across n.shear y.along y.across y.shear
      ∙ (λ i. term v.along (int_min l.xt l.xc) y.along (t.along *ℚ whole (pos 1000)) k.along i +ℚ term v.across (int_min l.yt l.yc) y.across (t.across *ℚ whole (pos 1000)) k.across i +ℚ term v.shear l.s y.shear (t.shear *ℚ whole (pos 1000)) k.shear i)
      ∙ solve 7 (λ a b c x y z k. a ⊗ (x ⊗ k) ⊕ b ⊗ (y ⊗ k) ⊕ c ⊗ (z ⊗ k) ≐ k ⊗ (a ⊗ x ⊕ b ⊗ y ⊕ c ⊗ z)) refl (whole v.along) (whole v.across) (whole v.shear) t.along t.across t.shear (whole (pos 1000))
    where
      term : (v s : ℤ) (y u : ℚ) → whole s *ℚ y ≡ u → (whole m *ℚ fraction (v *ℤ s) m) *ℚ y ≡ whole v *ℚ u
      term v s y u e =
          ap (λ x. x *ℚ y) (fraction_times (v *ℤ s) m positive ∙ whole-product v s)
          ∙ solve 3 (λ v s y. (v ⊗ s) ⊗ y ≐ v ⊗ (s ⊗ y)) refl (whole v) (whole s) y ∙ ap (λ x. whole v *ℚ x) e
