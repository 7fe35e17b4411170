-- The Tsai-Wu surface of a lamina is an ellipsoid, in stresses over the lesser strengths of their axes.
use Rattle.std.proofs.Common.{◌≡◌, refl, sym, ◌∙◌, ap, ap₂, subst, subst₂, [], ◌∷◌, ℤ, pos, ◌-ℤ◌, ◌*ℤ◌, ◌<ℤ◌, arith}
use Rattle.std.specs.Int.{int_min, int_max}
use Rattle.std.proofs.lemmas.Int.{ints, clamps}
use Rattle.lam_fraction.specs.Fraction.{ℚ, whole, fraction, ◌+ℚ◌, ◌-ℚ◌, ◌*ℚ◌, ◌/ℚ◌, opposite, inverse, ◌≤ℚ◌, ◌<ℚ◌}
use Rattle.lam_fraction.specs.numbers.Arithmetic.{exact}
use Rattle.lam_fraction.proofs.Expression.{int, ◌⊕◌, ◌⊖◌, ◌⊗◌}
use Rattle.lam_fraction.proofs.Solver.{quotes, ◌≐◌}
use Rattle.lam_fraction.proofs.FractionPairs.{whole-le, whole-lt}
use Rattle.lam_fraction.proofs.FractionRing.{whole-product}
use Rattle.lam_fraction.proofs.FractionBounds.{times-inverse}
use Rattle.lam_fraction.proofs.Rationals.{solve, by_ring, from₁, from₂, fraction_times, same_without_factor, without_factor, with_factor, above, weaken, below_over, at_most_over, positive_number, ◌+ₚ◌, ◌*ₚ◌}
use Rattle.lam_fraction.proofs.WholeFractions.{whole-difference, whole-product₃, product_image}
use Rattle.lam_stock.specs.declared.item.Lamina.{Lamina}
use Rattle.lam_stock.specs.Limits.{KeepsStrengths}
use Rattle.lam_stock.specs.PlyLaw.{OnAxis}
use Rattle.lam_stock.specs.TsaiWu.{criterion}
use Rattle.lam_stock.proofs.StrengthBounds.{PositiveStrengths, positive_strengths, interaction}
use Rattle.lam_support.specs.declared.slopes.Slopes.{Slopes}
use Rattle.lam_support.specs.inside.Formulas as by
use Rattle.lam_support.proofs.Ellipse.{Ellipsoid, Triple, IsEllipsoid, Within, kappa, rest, form, extent, spread, scaled_value}
use Rattle.lam_support.proofs.SurfaceFacts.{lesser-greater, lesser_interaction}

-- ---- the strengths of an axis

-- σ is the ratio of the greater to the lesser strength, β the linear term
pub record Axis (t c : ℤ) (σ β : ℚ) : Type 0 where
  pub tension : whole (pos 0) <ℚ whole t
  pub compression : whole (pos 0) <ℚ whole c
  pub lesser : whole (pos 0) <ℚ whole (int_min t c)
  pub greater : whole (pos 0) <ℚ whole (int_max t c)
  pub product : whole (int_min t c) *ℚ whole (int_max t c) ≡ whole t *ℚ whole c
  pub ratio : whole (int_min t c) *ℚ σ ≡ whole (int_max t c)
  pub shift : whole (int_max t c) *ℚ β ≡ whole c -ℚ whole t

abbrev pub axis_ratio : ℤ → ℤ → ℚ
axis_ratio t c = whole (pos 64) *ℚ by.ratio exact t c

lesser-positive : (t c : ℤ) → pos 0 <ℤ t → pos 0 <ℤ c → pos 0 <ℤ int_min t c
lesser-positive t c h k = omega (arith, ints, clamps, h, k)

greater-positive : (t c : ℤ) → pos 0 <ℤ t → pos 0 <ℤ c → pos 0 <ℤ int_max t c
greater-positive t c h k = omega (arith, ints, clamps, h, k)

times-64 : (z : ℤ) → pos 0 <ℤ z → pos 0 <ℤ (pos 64 *ℤ z)
times-64 z h = omega (arith, ints, h)

pub axis_is : (t c : ℤ) → pos 0 <ℤ t → pos 0 <ℤ c → Axis t c (axis_ratio t c) (by.shift exact t c)
unfolding ◌-ℚ◌
axis_is t c h k =
    let l = int_min t c in
    let m = int_max t c in
    let lesser = lesser-positive t c h k in
    let greater = greater-positive t c h k in
    record {
      tension = (whole-lt (pos 0) t).1 h;
      compression = (whole-lt (pos 0) c).1 k;
      lesser = (whole-lt (pos 0) l).1 lesser;
      greater = (whole-lt (pos 0) m).1 greater;
      product = sym (whole-product l m) ∙ ap whole (lesser-greater t c) ∙ whole-product t c;
      ratio = solve 3 (λ l k r. l ⊗ (k ⊗ r) ≐ (k ⊗ l) ⊗ r) refl (whole l) (whole (pos 64)) (by.ratio exact t c)
          ∙ ap (λ x. x *ℚ by.ratio exact t c) (sym (whole-product (pos 64) l)) ∙ fraction_times m (pos 64 *ℤ l) (times-64 l lesser);
      shift = fraction_times (c -ℤ t) m greater ∙ whole-difference c t;
    }

pub cleared : (t c u i j k : ℚ) → t *ℚ i ≡ whole (pos 1) → c *ℚ j ≡ whole (pos 1) → t *ℚ c *ℚ k ≡ whole (pos 1)
    → (t *ℚ c) *ℚ ((u *ℚ i -ℚ u *ℚ j) +ℚ (u *ℚ u) *ℚ k) ≡ u *ℚ u +ℚ (c -ℚ t) *ℚ u
unfolding ◌-ℚ◌
cleared t c u i j k e f g =
    from₂ (u *ℚ c) e (opposite (u *ℚ t)) f (from₁ (u *ℚ u) g (by_ring (t ∷ c ∷ u ∷ i ∷ j ∷ k ∷ []) (search quotes depth 40 fits 9000) refl))

-- the terms of one axis, of a stress u with v = u over the lesser strength
axis_terms : {t c : ℤ} {σ β : ℚ} → Axis t c σ β → (u v : ℚ) → whole (int_min t c) *ℚ v ≡ u
    → v *ℚ v +ℚ σ *ℚ (β *ℚ v) ≡ σ *ℚ ((u /ℚ whole t -ℚ u /ℚ whole c) +ℚ (u *ℚ u) /ℚ whole (t *ℤ c))
unfolding ◌-ℚ◌ ◌/ℚ◌
axis_terms {t} {c} {σ} {β} a u v e =
    let l = whole (int_min t c) in
    let m = whole (int_max t c) in
    let i = inverse (whole t) in
    let j = inverse (whole c) in
    let k = inverse (whole (t *ℤ c)) in
    let both : whole t *ℚ whole c *ℚ k ≡ whole (pos 1) = ap (λ x. x *ℚ k) (sym (whole-product t c)) ∙ times-inverse (subst (λ x. whole (pos 0) <ℚ x) (sym (whole-product t c)) (a.tension *ₚ a.compression)) in
    let inner = (u *ℚ i -ℚ u *ℚ j) +ℚ (u *ℚ u) *ℚ k in
    let left : l *ℚ l *ℚ (v *ℚ v +ℚ σ *ℚ (β *ℚ v)) ≡ u *ℚ u +ℚ (whole c -ℚ whole t) *ℚ u =
    solve 4 (λ l v s b. l ⊗ l ⊗ (v ⊗ v ⊕ s ⊗ (b ⊗ v)) ≐ (l ⊗ v) ⊗ (l ⊗ v) ⊕ ((l ⊗ s) ⊗ b) ⊗ (l ⊗ v)) refl l v σ β
    ∙ ap₂ (λ x y. x *ℚ x +ℚ (y *ℚ β) *ℚ x) e a.ratio ∙ ap (λ x. u *ℚ u +ℚ x *ℚ u) a.shift in
    let right : l *ℚ l *ℚ (σ *ℚ inner) ≡ u *ℚ u +ℚ (whole c -ℚ whole t) *ℚ u =
    solve 3 (λ l s r. l ⊗ l ⊗ (s ⊗ r) ≐ l ⊗ (l ⊗ s) ⊗ r) refl l σ inner
    ∙ ap (λ x. l *ℚ x *ℚ inner) a.ratio ∙ ap (λ x. x *ℚ inner) a.product
    ∙ cleared (whole t) (whole c) u i j k (times-inverse a.tension) (times-inverse a.compression) both in
    same_without_factor (l *ℚ l) (a.lesser *ₚ a.lesser) (left ∙ sym right)

-- ---- the ellipsoid of a lamina

abbrev pub ellipsoid : Lamina → Ellipsoid
ellipsoid l = record {
  along = axis_ratio l.xt l.xc;
  across = axis_ratio l.yt l.yc;
  coupling = by.lesser_coupling exact l;
  shift_along = by.shift exact l.xt l.xc;
  shift_across = by.shift exact l.yt l.yc;
}

abbrev pub unit : ℤ
unit = pos 1000000000000000000

unit-positive : whole (pos 0) <ℚ whole unit
unit-positive = (whole-lt (pos 0) unit).1 (omega (arith, ints))

module _ {l : Lamina} (h : KeepsStrengths l) where
  p : PositiveStrengths l
  p = positive_strengths h

  pub along : Axis l.xt l.xc (axis_ratio l.xt l.xc) (by.shift exact l.xt l.xc)
  along = axis_is l.xt l.xc p.xt p.xc

  pub across : Axis l.yt l.yc (axis_ratio l.yt l.yc) (by.shift exact l.yt l.yc)
  across = axis_is l.yt l.yc p.yt p.yc

  ratio-positive : {t c : ℤ} {σ β : ℚ} → Axis t c σ β → whole (pos 0) <ℚ σ
  unfolding ◌-ℚ◌
  ratio-positive {t} {c} {σ} a = below_over a.lesser a.greater (solve 2 (λ l s. l ⊗ (s ⊖ int (pos 0)) ≐ l ⊗ s) refl (whole (int_min t c)) σ ∙ a.ratio)

  -- c times 10^18, and c σ τ times it
  coupling-is : whole unit *ℚ (ellipsoid l).coupling ≡ whole l.f12 *ℚ (whole (int_min l.xt l.xc) *ℚ whole (int_min l.yt l.yc))
  coupling-is = fraction_times (lesser_interaction l) unit (omega (arith, ints)) ∙ whole-product₃ l.f12 (int_min l.xt l.xc) (int_min l.yt l.yc)

  kappa-is : whole unit *ℚ kappa (ellipsoid l) ≡ whole l.f12 *ℚ (whole (int_max l.xt l.xc) *ℚ whole (int_max l.yt l.yc))
  unfolding ◌-ℚ◌
  kappa-is =
      let e = ellipsoid l in
      solve 4 (λ n c s t. n ⊗ (c ⊗ s ⊗ t) ≐ (n ⊗ c) ⊗ s ⊗ t) refl (whole unit) e.coupling e.along e.across
      ∙ ap (λ x. x *ℚ e.along *ℚ e.across) coupling-is
      ∙ solve 5 (λ f k m s t. f ⊗ (k ⊗ m) ⊗ s ⊗ t ≐ f ⊗ ((k ⊗ s) ⊗ (m ⊗ t))) refl (whole l.f12) (whole (int_min l.xt l.xc)) (whole (int_min l.yt l.yc)) e.along e.across
      ∙ ap₂ (λ x y. whole l.f12 *ℚ (x *ℚ y)) along.ratio across.ratio

  -- the code's coefficient is a 64th of it
  pub coupling_link : whole (pos 64) *ℚ by.coupling exact l ≡ kappa (ellipsoid l)
  unfolding ◌-ℚ◌
  coupling_link =
      same_without_factor (whole unit) unit-positive
      (solve 3 (λ n k c. n ⊗ (k ⊗ c) ≐ (k ⊗ n) ⊗ c) refl (whole unit) (whole (pos 64)) (by.coupling exact l)
      ∙ ap (λ x. x *ℚ by.coupling exact l) (sym (whole-product (pos 64) unit))
      ∙ fraction_times (interaction l) (pos 64000000000000000000) (omega (arith, ints)) ∙ whole-product₃ l.f12 (int_max l.xt l.xc) (int_max l.yt l.yc) ∙ sym kappa-is)

  pub rest_link : whole (pos 16) *ℚ (by.surface exact l).rest ≡ rest (ellipsoid l)
  unfolding ◌-ℚ◌
  rest_link =
      solve 3 (λ f c k. int (pos 16) ⊗ (f ⊖ (c ⊗ k) ⊗ int (pos 4)) ≐ int (pos 16) ⊗ f ⊖ c ⊗ (int (pos 64) ⊗ k)) refl (fraction (pos 1) (pos 16)) (by.lesser_coupling exact l) (by.coupling exact l)
      ∙ ap₂ (λ x y. x -ℚ by.lesser_coupling exact l *ℚ y) (fraction_times (pos 1) (pos 16) (omega (arith, ints))) coupling_link

  -- ---- what the limits say: 1 - c² σ τ is at least a quarter

  square-is : whole unit *ℚ whole unit *ℚ ((ellipsoid l).coupling *ℚ kappa (ellipsoid l))
      ≡ whole l.f12 *ℚ whole l.f12 *ℚ ((whole l.xt *ℚ whole l.xc) *ℚ (whole l.yt *ℚ whole l.yc))
  unfolding ◌-ℚ◌
  square-is =
      let e = ellipsoid l in
      let k = whole (int_min l.xt l.xc) in
      let m = whole (int_min l.yt l.yc) in
      let s = whole (int_max l.xt l.xc) in
      let t = whole (int_max l.yt l.yc) in
      solve 3 (λ n c q. n ⊗ n ⊗ (c ⊗ q) ≐ (n ⊗ c) ⊗ (n ⊗ q)) refl (whole unit) e.coupling (kappa e)
      ∙ ap₂ ◌*ℚ◌ coupling-is kappa-is
      ∙ solve 5 (λ f k m s t. (f ⊗ (k ⊗ m)) ⊗ (f ⊗ (s ⊗ t)) ≐ f ⊗ f ⊗ ((k ⊗ s) ⊗ (m ⊗ t))) refl (whole l.f12) k m s t
      ∙ ap₂ (λ x y. whole l.f12 *ℚ whole l.f12 *ℚ (x *ℚ y)) along.product across.product

  kept-whole : whole (pos 4) *ℚ (whole l.f12 *ℚ whole l.f12 *ℚ ((whole l.xt *ℚ whole l.xc) *ℚ (whole l.yt *ℚ whole l.yc))) ≤ℚ whole (pos 3) *ℚ (whole unit *ℚ whole unit)
  kept-whole =
      subst₂ (λ x y. x ≤ℚ y)
      (product_image (pos 4 *ℤ (l.f12 *ℤ l.f12)) ((l.xt *ℤ l.xc) *ℤ (l.yt *ℤ l.yc))
      (product_image (pos 4) (l.f12 *ℤ l.f12) refl (whole-product l.f12 l.f12)) (product_image (l.xt *ℤ l.xc) (l.yt *ℤ l.yc) (whole-product l.xt l.xc) (whole-product l.yt l.yc))
      ∙ solve 3 (λ f p q. int (pos 4) ⊗ (f ⊗ f) ⊗ (p ⊗ q) ≐ int (pos 4) ⊗ (f ⊗ f ⊗ (p ⊗ q))) refl (whole l.f12) (whole l.xt *ℚ whole l.xc) (whole l.yt *ℚ whole l.yc))
      (product_image (pos 3) (unit *ℤ unit) refl (whole-product unit unit))
      ((whole-le _ _).1 h.cross.kept)

  pub rest_least : whole (pos 1) ≤ℚ whole (pos 4) *ℚ rest (ellipsoid l)
  unfolding ◌-ℚ◌
  rest_least =
      let e = ellipsoid l in
      at_most_over {k = whole unit *ℚ whole unit} (unit-positive *ₚ unit-positive) (above kept-whole)
      (solve 2 (λ n x. n ⊗ n ⊗ (int (pos 4) ⊗ (int (pos 1) ⊖ x) ⊖ int (pos 1)) ≐ int (pos 3) ⊗ (n ⊗ n) ⊖ int (pos 4) ⊗ (n ⊗ n ⊗ x)) refl (whole unit) (e.coupling *ℚ kappa e)
      ∙ ap (λ x. whole (pos 3) *ℚ (whole unit *ℚ whole unit) -ℚ whole (pos 4) *ℚ x) square-is)

  pub is_ellipsoid : IsEllipsoid (ellipsoid l)
  unfolding ◌-ℚ◌
  is_ellipsoid = record {
    along = ratio-positive along;
    across = ratio-positive across;
    rest = below_over {k = whole (pos 4)} (positive_number 3) (positive_number 0 +ₚ above rest_least)
        (solve 1 (λ g. int (pos 4) ⊗ (g ⊖ int (pos 0)) ≐ int (pos 1) ⊕ (int (pos 4) ⊗ g ⊖ int (pos 1))) refl (rest (ellipsoid l)));
  }

  -- ---- the code's forms are 64ths of the ellipsoid's

  pub form_link : (a b x y : ℚ) → whole (pos 64) *ℚ by.form exact (by.surface exact l) a b x y ≡ form (ellipsoid l) a b x y
  unfolding ◌-ℚ◌
  form_link a b x y =
      let s = by.surface exact l in
      solve 7 (λ s k t a b x y. int (pos 64) ⊗ ((s ⊗ (a ⊗ x) ⊖ k ⊗ (a ⊗ y ⊕ b ⊗ x)) ⊕ t ⊗ (b ⊗ y))
      ≐ (int (pos 64) ⊗ s ⊗ (a ⊗ x) ⊖ (int (pos 64) ⊗ k) ⊗ (a ⊗ y ⊕ b ⊗ x)) ⊕ int (pos 64) ⊗ t ⊗ (b ⊗ y)) refl s.along s.coupling s.across a b x y
      ∙ ap (λ k. (ellipsoid l).along *ℚ (a *ℚ x) -ℚ k *ℚ (a *ℚ y +ℚ b *ℚ x) +ℚ (ellipsoid l).across *ℚ (b *ℚ y)) coupling_link

  pub extent_link : whole (pos 64) *ℚ by.extent exact (by.surface exact l) ≡ extent (ellipsoid l)
  unfolding ◌-ℚ◌
  extent_link =
      let s = by.surface exact l in
      let f = by.form exact s s.shift_along s.shift_across s.shift_along s.shift_across in
      solve 2 (λ r f. int (pos 64) ⊗ (r ⊕ f) ≐ int (pos 4) ⊗ (int (pos 16) ⊗ r) ⊕ int (pos 64) ⊗ f) refl s.rest f
      ∙ ap₂ (λ r f. whole (pos 4) *ℚ r +ℚ f) rest_link (form_link s.shift_along s.shift_across s.shift_along s.shift_across)

  pub spread_link : (n : Slopes ℚ) → whole (pos 64) *ℚ by.spread exact (by.surface exact l) n ≡ spread (ellipsoid l) (record { along = n.along; across = n.across; shear = n.shear })
  unfolding ◌-ℚ◌ ◌/ℚ◌
  spread_link n =
      let s = by.surface exact l in
      let f = by.form exact s n.along n.across n.along n.across in
      let quarter = inverse (whole (pos 4)) in
      from₁ (whole (pos 16) *ℚ (s.rest *ℚ (n.shear *ℚ n.shear))) (times-inverse (positive_number 3))
      (solve 4 (λ f r e i. int (pos 64) ⊗ (f ⊕ (r ⊗ (e ⊗ e)) ⊗ i) ≐ (int (pos 64) ⊗ f ⊕ (int (pos 16) ⊗ r) ⊗ (e ⊗ e)) ⊕ (int (pos 16) ⊗ (r ⊗ (e ⊗ e))) ⊗ (int (pos 4) ⊗ i ⊖ int (pos 1))) refl f s.rest n.shear quarter)
      ∙ ap₂ (λ f r. f +ℚ r *ℚ (n.shear *ℚ n.shear)) (form_link n.along n.across n.along n.across) rest_link

  pub square_link : (n : Slopes ℚ) → whole (pos 64) *ℚ whole (pos 64) *ℚ by.square exact (by.surface exact l) n
      ≡ extent (ellipsoid l) *ℚ spread (ellipsoid l) (record { along = n.along; across = n.across; shear = n.shear })
  unfolding ◌-ℚ◌
  square_link n =
      let s = by.surface exact l in
      solve 2 (λ e w. int (pos 64) ⊗ int (pos 64) ⊗ (e ⊗ w) ≐ (int (pos 64) ⊗ e) ⊗ (int (pos 64) ⊗ w)) refl (by.extent exact s) (by.spread exact s n)
      ∙ ap₂ ◌*ℚ◌ extent_link (spread_link n)

  -- ---- the criterion

  -- the stress over the lesser strengths
  pub record Counted (u : OnAxis) (y : Triple) : Type 0 where
    pub along : whole (int_min l.xt l.xc) *ℚ y.along ≡ u.along
    pub across : whole (int_min l.yt l.yc) *ℚ y.across ≡ u.across
    pub shear : whole l.s *ℚ y.shear ≡ u.shear

  pub scaled : {u : OnAxis} {y : Triple} → Counted u y → scaled_value (ellipsoid l) y ≡ (ellipsoid l).along *ℚ (ellipsoid l).across *ℚ criterion l u
  unfolding ◌-ℚ◌ ◌/ℚ◌ criterion
  scaled {u} {y} k =
      let e = ellipsoid l in
      let s = e.along in
      let t = e.across in
      let first = (u.along /ℚ whole l.xt -ℚ u.along /ℚ whole l.xc) +ℚ (u.along *ℚ u.along) /ℚ whole (l.xt *ℤ l.xc) in
      let second = (u.across /ℚ whole l.yt -ℚ u.across /ℚ whole l.yc) +ℚ (u.across *ℚ u.across) /ℚ whole (l.yt *ℤ l.yc) in
      split s t e.coupling e.shift_along e.shift_across y.along y.across y.shear
      ∙ (λ i. t *ℚ axis_terms along u.along y.along k.along i +ℚ s *ℚ axis_terms across u.across y.across k.across i
      +ℚ s *ℚ t *ℚ (sheared (whole l.s) (inverse (whole (l.s *ℤ l.s))) u.shear y.shear shear-inverse k.shear i +ℚ mixed k i))
      ∙ gathered s t (u.along /ℚ whole l.xt -ℚ u.along /ℚ whole l.xc) ((u.along *ℚ u.along) /ℚ whole (l.xt *ℤ l.xc))
      (u.across /ℚ whole l.yt -ℚ u.across /ℚ whole l.yc) ((u.across *ℚ u.across) /ℚ whole (l.yt *ℤ l.yc)) ((u.shear *ℚ u.shear) /ℚ whole (l.s *ℤ l.s))
      ((whole (pos 2 *ℤ l.f12) *ℚ (u.along *ℚ u.across)) /ℚ whole unit)
    where
      split : (s t c b d x y z : ℚ) → scaled_value (record { along = s; across = t; coupling = c; shift_along = b; shift_across = d }) (record { along = x; across = y; shear = z })
          ≡ t *ℚ (x *ℚ x +ℚ s *ℚ (b *ℚ x)) +ℚ s *ℚ (y *ℚ y +ℚ t *ℚ (d *ℚ y)) +ℚ s *ℚ t *ℚ (z *ℚ z +ℚ whole (pos 2) *ℚ (c *ℚ (x *ℚ y)))
      split s t c b d x y z =
          solve 8 (λ s t c b d x y z. (t ⊗ (x ⊗ x) ⊕ s ⊗ (y ⊗ y) ⊕ s ⊗ t ⊗ (z ⊗ z) ⊕ int (pos 2) ⊗ (c ⊗ s ⊗ t) ⊗ (x ⊗ y)) ⊕ s ⊗ t ⊗ (b ⊗ x ⊕ d ⊗ y)
          ≐ t ⊗ (x ⊗ x ⊕ s ⊗ (b ⊗ x)) ⊕ s ⊗ (y ⊗ y ⊕ t ⊗ (d ⊗ y)) ⊕ s ⊗ t ⊗ (z ⊗ z ⊕ int (pos 2) ⊗ (c ⊗ (x ⊗ y)))) refl s t c b d x y z

      gathered : (s t a b c d e f : ℚ) → t *ℚ (s *ℚ (a +ℚ b)) +ℚ s *ℚ (t *ℚ (c +ℚ d)) +ℚ s *ℚ t *ℚ (e +ℚ f) ≡ s *ℚ t *ℚ (a +ℚ c +ℚ b +ℚ d +ℚ e +ℚ f)
      gathered s t a b c d e f =
          solve 8 (λ s t a b c d e f. t ⊗ (s ⊗ (a ⊕ b)) ⊕ s ⊗ (t ⊗ (c ⊕ d)) ⊕ s ⊗ t ⊗ (e ⊕ f) ≐ s ⊗ t ⊗ (a ⊕ c ⊕ b ⊕ d ⊕ e ⊕ f)) refl s t a b c d e f

      shear-inverse : whole l.s *ℚ whole l.s *ℚ inverse (whole (l.s *ℤ l.s)) ≡ whole (pos 1)
      shear-inverse =
          let positive = (whole-lt (pos 0) l.s).1 p.s in
          ap (λ x. x *ℚ inverse (whole (l.s *ℤ l.s))) (sym (whole-product l.s l.s)) ∙ times-inverse (subst (λ x. whole (pos 0) <ℚ x) (sym (whole-product l.s l.s)) (positive *ₚ positive))

      sheared : (s i u z : ℚ) → s *ℚ s *ℚ i ≡ whole (pos 1) → s *ℚ z ≡ u → z *ℚ z ≡ (u *ℚ u) *ℚ i
      sheared s i u z e f = squared s i z e ∙ ap (λ x. (x *ℚ x) *ℚ i) f
        where
          squared : (s i z : ℚ) → s *ℚ s *ℚ i ≡ whole (pos 1) → z *ℚ z ≡ ((s *ℚ z) *ℚ (s *ℚ z)) *ℚ i
          squared s i z e = sym (from₁ (z *ℚ z) e (by_ring (s ∷ i ∷ z ∷ []) (search quotes depth 20) refl))

      mixed : {u : OnAxis} {y : Triple} → Counted u y → whole (pos 2) *ℚ ((ellipsoid l).coupling *ℚ (y.along *ℚ y.across)) ≡ (whole (pos 2 *ℤ l.f12) *ℚ (u.along *ℚ u.across)) *ℚ inverse (whole unit)
      mixed {u} {y} k =
          over (whole unit) (inverse (whole unit)) (ellipsoid l).coupling (y.along *ℚ y.across) (times-inverse unit-positive)
          ∙ ap (λ x. whole (pos 2) *ℚ (x *ℚ (y.along *ℚ y.across)) *ℚ inverse (whole unit)) coupling-is
          ∙ ap (λ x. x *ℚ inverse (whole unit)) (
          solve 5 (λ f a b x y. int (pos 2) ⊗ (f ⊗ (a ⊗ b) ⊗ (x ⊗ y)) ≐ (int (pos 2) ⊗ f) ⊗ ((a ⊗ x) ⊗ (b ⊗ y))) refl (whole l.f12) (whole (int_min l.xt l.xc)) (whole (int_min l.yt l.yc)) y.along y.across
          ∙ (λ i. sym (whole-product (pos 2) l.f12) i *ℚ (k.along i *ℚ k.across i)))
        where
          over : (n i c x : ℚ) → n *ℚ i ≡ whole (pos 1) → whole (pos 2) *ℚ (c *ℚ x) ≡ whole (pos 2) *ℚ ((n *ℚ c) *ℚ x) *ℚ i
          over n i c x e = sym (from₁ (whole (pos 2) *ℚ (c *ℚ x)) e (by_ring (n ∷ i ∷ c ∷ x ∷ []) (search quotes depth 20) refl))

  area : whole (pos 0) <ℚ (ellipsoid l).along *ℚ (ellipsoid l).across
  area = is_ellipsoid.along *ₚ is_ellipsoid.across

  pub within_surface : {u : OnAxis} {y : Triple} → Counted u y → criterion l u ≤ℚ whole (pos 1) → Within (ellipsoid l) y
  within_surface {u} {y} k inside =
      subst₂ (λ a b. a ≤ℚ b) (sym (scaled k)) (solve 1 (λ a. a ⊗ int (pos 1) ≐ a) refl ((ellipsoid l).along *ℚ (ellipsoid l).across)) (with_factor _ (weaken area) inside)

  pub inside_surface : {u : OnAxis} {y : Triple} → Counted u y → Within (ellipsoid l) y → criterion l u ≤ℚ whole (pos 1)
  inside_surface {u} {y} k within =
      without_factor _ area (subst₂ (λ a b. a ≤ℚ b) (scaled k) (solve 1 (λ a. a ≐ a ⊗ int (pos 1)) refl ((ellipsoid l).along *ℚ (ellipsoid l).across)) within)
