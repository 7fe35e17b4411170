-- The value by the code's formula is that of the criterion, less 1, over 4096.
use Rattle.std.proofs.Common.{◌≡◌, refl, sym, ◌∙◌, ap, ap₂, [], ◌∷◌, ◌^◌, ℤ, pos, ◌*ℤ◌, ◌-ℤ◌, ◌≤ℤ◌, ◌<ℤ◌, arith}
use Rattle.std.specs.Int.{int_min, int_max}
use Rattle.std.proofs.lemmas.Int.{ints, clamps}
use Rattle.lam_fraction.specs.Fraction.{ℚ, whole, fraction, ◌+ℚ◌, ◌-ℚ◌, ◌*ℚ◌, ◌/ℚ◌, inverse, opposite, ◌<ℚ◌}
use Rattle.lam_fraction.specs.inside.WholeNumbers.{product_positive}
use Rattle.lam_fraction.proofs.FractionPairs.{whole-le, whole-lt}
use Rattle.lam_fraction.proofs.FractionRing.{whole-product, product_comm, product_one}
use Rattle.lam_fraction.proofs.WholeFractions.{inverse-product, inverse-whole, whole-difference}
use Rattle.lam_fraction.proofs.Rationals.{quotes, by_ring, from₁, decide, inverse_positive, ◌*ₚ◌}
use Rattle.lam_stock.specs.declared.item.Lamina.{Lamina}
use Rattle.lam_stock.specs.PlyLaw.{OnAxis}
use Rattle.lam_stock.specs.TsaiWu.{criterion}
use Rattle.lam_stock.proofs.StrengthBounds.{PositiveStrengths}
use Rattle.lam_fraction.specs.numbers.Arithmetic.{exact}
use Rattle.lam_tsai.specs.declared.components.Components.{Components}
use Rattle.lam_tsai.specs.inside.Formulas as by
use Rattle.lam_tsai.proofs.CriterionTerms.{linear_term, linear_term_turned, square_term, cross_term, shear_term}

abbrev pub sixteenth : ℚ
sixteenth = inverse (whole (pos 16))

-- 1/4096
abbrev pub unit_value : ℚ
unit_value = sixteenth *ℚ sixteenth *ℚ sixteenth

pub unit_positive : whole (pos 0) <ℚ unit_value
unit_positive =
    let p = inverse_positive ((whole-lt (pos 0) (pos 16)).1 (omega (arith, ints))) in
    (p *ₚ p) *ₚ p

inverse_256 : inverse (whole (pos 256)) ≡ sixteenth *ℚ sixteenth
inverse_256 = inverse-product (pos 16) (pos 16) (omega (arith, ints)) (omega (arith, ints)) (omega (arith, ints))

pub inverse_4096 : inverse (whole (pos 4096)) ≡ unit_value
inverse_4096 =
    inverse-product (pos 256) (pos 16) (omega (arith, ints)) (omega (arith, ints)) (omega (arith, ints))
    ∙ ap (λ z. z *ℚ sixteenth) inverse_256

-- a numerator over a product
over_product : (n k m : ℤ) → pos 0 <ℤ k → pos 0 <ℤ m → fraction n (k *ℤ m) ≡ whole n *ℚ (inverse (whole k) *ℚ inverse (whole m))
unfolding fraction ◌/ℚ◌
over_product n k m p q = ap (λ z. whole n *ℚ z) (inverse-product k m p q (product_positive k m p q))

linear_form : (t c m : ℤ) → pos 0 <ℤ m → fraction (c -ℤ t) (pos 256 *ℤ m) ≡ (whole c -ℚ whole t) *ℚ ((sixteenth *ℚ sixteenth) *ℚ inverse (whole m))
linear_form t c m p =
    over_product (c -ℤ t) (pos 256) m (omega (arith, ints)) p
    ∙ ap₂ ◌*ℚ◌ (whole-difference c t) (ap (λ z. z *ℚ inverse (whole m)) inverse_256)

quadratic_form : (x m : ℤ) → pos 0 <ℤ m → fraction x (pos 16 *ℤ m) ≡ whole x *ℚ (sixteenth *ℚ inverse (whole m))
quadratic_form x m p = over_product x (pos 16) m (omega (arith, ints)) p

-- ---- the terms of an axis
axis_sum : (d a b p : ℚ) → a ≡ d *ℚ b → (q : ℚ) (e : ℚ) → e ≡ d *ℚ q → p ≡ q → a +ℚ e ≡ d *ℚ (b +ℚ p)
axis_sum d a b p h q e k g =
    ap₂ ◌+ℚ◌ h (k ∙ ap (λ z. d *ℚ z) (sym g)) ∙ by_ring (d ∷ b ∷ p ∷ []) (search quotes depth 30) refl

lesser_first : (t c : ℤ) (u : ℚ) → pos 0 <ℤ t → pos 0 <ℤ c → t ≤ℤ c
    → by.axis exact (by.linear exact t c) (by.quadratic exact t c) (u *ℚ (sixteenth *ℚ inverse (whole (int_max t c))))
    ≡ unit_value *ℚ ((u /ℚ whole t -ℚ u /ℚ whole c) +ℚ (u *ℚ u) /ℚ whole (t *ℤ c))
unfolding ◌/ℚ◌
lesser_first t c u p q h =
    let least : int_min t c ≡ t = omega (arith, ints, clamps, h) in
    let most : int_max t c ≡ c = omega (arith, ints, clamps, h) in
    rw (least, most) (rw (linear_form t c t p, quadratic_form c t p) (
    axis_sum _ _ _ _ (linear_term (whole t) (whole c) (inverse (whole t)) (inverse (whole c)) sixteenth u (inverse-whole t p) (inverse-whole c q))
    _ _ (square_term (whole c) (inverse (whole c)) (inverse (whole t)) sixteenth u (inverse-whole c q))
    (ap (λ z. (u *ℚ u) *ℚ z) (inverse-product t c p q (product_positive t c p q) ∙ product_comm (inverse (whole t)) (inverse (whole c))))))

greater_first : (t c : ℤ) (u : ℚ) → pos 0 <ℤ t → pos 0 <ℤ c → c ≤ℤ t
    → by.axis exact (by.linear exact t c) (by.quadratic exact t c) (u *ℚ (sixteenth *ℚ inverse (whole (int_max t c))))
    ≡ unit_value *ℚ ((u /ℚ whole t -ℚ u /ℚ whole c) +ℚ (u *ℚ u) /ℚ whole (t *ℤ c))
unfolding ◌/ℚ◌
greater_first t c u p q h =
    let least : int_min t c ≡ c = omega (arith, ints, clamps, h) in
    let most : int_max t c ≡ t = omega (arith, ints, clamps, h) in
    rw (least, most) (rw (linear_form t c c q, quadratic_form t c q) (
    axis_sum _ _ _ _ (linear_term_turned (whole t) (whole c) (inverse (whole t)) (inverse (whole c)) sixteenth u (inverse-whole t p) (inverse-whole c q))
    _ _ (square_term (whole t) (inverse (whole t)) (inverse (whole c)) sixteenth u (inverse-whole t p))
    (ap (λ z. (u *ℚ u) *ℚ z) (inverse-product t c p q (product_positive t c p q)))))

pub axis_is : (t c : ℤ) (u : ℚ) → pos 0 <ℤ t → pos 0 <ℤ c
    → by.axis exact (by.linear exact t c) (by.quadratic exact t c) (u *ℚ (sixteenth *ℚ inverse (whole (int_max t c))))
    ≡ unit_value *ℚ ((u /ℚ whole t -ℚ u /ℚ whole c) +ℚ (u *ℚ u) /ℚ whole (t *ℤ c))
axis_is t c u p q =
    decide (whole t) (whole c)
    (λ h. lesser_first t c u p q ((whole-le t c).0 h))
    (λ h. greater_first t c u p q (let k = (whole-lt c t).0 h in omega (arith, ints, k)))

-- ---- the terms of both axes, and the shear
-- 1 over 8 million billions, by 2/16 and one over 10 ^ 18
pub eighth : inverse (whole (pos 8)) ≡ whole (pos 2) *ℚ sixteenth
eighth =
    let e : inverse (whole (pos 16)) ≡ inverse (whole (pos 2)) *ℚ inverse (whole (pos 8)) = inverse-product (pos 2) (pos 8) (omega (arith, ints)) (omega (arith, ints)) (omega (arith, ints)) in
    rw e (halves (inverse (whole (pos 2))) (inverse (whole (pos 8))) (inverse-whole (pos 2) (omega (arith, ints))))
  where
    halves : (a b : ℚ) → whole (pos 2) *ℚ a ≡ whole (pos 1) → b ≡ whole (pos 2) *ℚ (a *ℚ b)
    halves a b h = from₁ (opposite b) h (by_ring (a ∷ b ∷ []) (search quotes depth 20) refl)

mixed_form : (f x y : ℤ) → fraction (f *ℤ (x *ℤ y)) (pos 8000000000000000000) ≡ sixteenth *ℚ ((whole (pos 2 *ℤ f) *ℚ inverse (whole (pos (10 ^ 18)))) *ℚ (whole x *ℚ whole y))
mixed_form f x y =
    over_product (f *ℤ (x *ℤ y)) (pos 8) (pos (10 ^ 18)) (omega (arith, ints)) (omega (arith, ints))
    ∙ ap₂ ◌*ℚ◌ (whole-product f (x *ℤ y) ∙ ap (λ z. whole f *ℚ z) (whole-product x y)) (ap (λ z. z *ℚ inverse (whole (pos (10 ^ 18)))) eighth)
    ∙ moved (whole f) (whole x) (whole y) sixteenth (inverse (whole (pos (10 ^ 18)))) (whole (pos 2 *ℤ f)) (whole-product (pos 2) f)
  where
    moved : (f x y d i g : ℚ) → g ≡ whole (pos 2) *ℚ f → (f *ℚ (x *ℚ y)) *ℚ ((whole (pos 2) *ℚ d) *ℚ i) ≡ d *ℚ ((g *ℚ i) *ℚ (x *ℚ y))
    moved f x y d i g e = from₁ (opposite (d *ℚ i *ℚ (x *ℚ y))) e (by_ring (f ∷ x ∷ y ∷ d ∷ i ∷ g ∷ []) (search quotes depth 40 fits 9000) refl)

-- the sums of the scaled terms
gathered : (d a b c e a' b' c' e' : ℚ) → a ≡ d *ℚ a' → b ≡ d *ℚ b' → c ≡ d *ℚ c' → e ≡ d *ℚ e' → (a +ℚ b +ℚ (c +ℚ e)) -ℚ d ≡ d *ℚ ((a' +ℚ b' +ℚ (c' +ℚ e')) -ℚ whole (pos 1))
gathered d a b c e a' b' c' e' p q r s =
    ap (λ z. z -ℚ d) (ap₂ ◌+ℚ◌ (ap₂ ◌+ℚ◌ p q) (ap₂ ◌+ℚ◌ r s))
    ∙ by_ring (d ∷ a' ∷ b' ∷ c' ∷ e' ∷ []) (search quotes depth 30) refl

rearranged : (p q r s t g v i : ℚ) → ((p +ℚ r) +ℚ (q +ℚ s)) +ℚ ((g *ℚ i) *ℚ v +ℚ t) ≡ p +ℚ q +ℚ r +ℚ s +ℚ t +ℚ (g *ℚ v) *ℚ i
rearranged p q r s t g v i = by_ring (p ∷ q ∷ r ∷ s ∷ t ∷ g ∷ v ∷ i ∷ []) (search quotes depth 40 fits 9000) refl

pub one_part : fraction (pos 1) (pos 4096) ≡ unit_value
unfolding fraction ◌/ℚ◌
one_part = ap (λ z. whole (pos 1) *ℚ z) inverse_4096 ∙ product_comm (whole (pos 1)) unit_value ∙ product_one unit_value

shear_part : (u : ℚ) (s : ℤ) → pos 0 <ℤ s
    → fraction (pos 1) (pos 16) *ℚ ((u *ℚ (sixteenth *ℚ inverse (whole s))) *ℚ (u *ℚ (sixteenth *ℚ inverse (whole s)))) ≡ unit_value *ℚ ((u *ℚ u) /ℚ whole (s *ℤ s))
unfolding fraction ◌/ℚ◌
shear_part u s p =
    ap (λ z. z *ℚ ((u *ℚ (sixteenth *ℚ inverse (whole s))) *ℚ (u *ℚ (sixteenth *ℚ inverse (whole s))))) (product_comm (whole (pos 1)) sixteenth ∙ product_one sixteenth)
    ∙ shear_term (inverse (whole s)) sixteenth u
    ∙ ap (λ z. unit_value *ℚ ((u *ℚ u) *ℚ z)) (sym (inverse-product s s p p (product_positive s s p p)))

greater_positive : (t c : ℤ) → pos 0 <ℤ t → pos 0 <ℤ int_max t c
greater_positive t c p = omega (arith, ints, clamps, p)

mixed_part : (l : Lamina) (u v : ℚ) → PositiveStrengths l
    → by.mixed exact l *ℚ ((u *ℚ (sixteenth *ℚ inverse (whole (int_max l.xt l.xc)))) *ℚ (v *ℚ (sixteenth *ℚ inverse (whole (int_max l.yt l.yc)))))
    ≡ unit_value *ℚ ((whole (pos 2 *ℤ l.f12) *ℚ inverse (whole (pos (10 ^ 18)))) *ℚ (u *ℚ v))
mixed_part l u v h =
    let x = int_max l.xt l.xc in
    let y = int_max l.yt l.yc in
    ap (λ z. z *ℚ ((u *ℚ (sixteenth *ℚ inverse (whole x))) *ℚ (v *ℚ (sixteenth *ℚ inverse (whole y))))) (mixed_form l.f12 x y)
    ∙ cross_term (whole x) (whole y) (inverse (whole x)) (inverse (whole y)) sixteenth u v (whole (pos 2 *ℤ l.f12) *ℚ inverse (whole (pos (10 ^ 18))))
    (inverse-whole x (greater_positive l.xt l.xc h.xt)) (inverse-whole y (greater_positive l.yt l.yc h.yt))

-- a stress times a factor, over 16 times a strength
abbrev pub share_of : ℚ → ℤ → ℚ
share_of u x = u *ℚ (sixteenth *ℚ inverse (whole x))

abbrev pub shares_of : Lamina → OnAxis → Components ℚ
shares_of l u = record {
  along = share_of u.along (int_max l.xt l.xc);
  across = share_of u.across (int_max l.yt l.yc);
  shear = share_of u.shear l.s;
}

-- a square over 16
over_sixteen : (x : ℚ) → x /ℚ whole (pos 16) ≡ fraction (pos 1) (pos 16) *ℚ x
unfolding fraction ◌/ℚ◌
over_sixteen x = by_ring (x ∷ sixteenth ∷ []) (search quotes depth 20) refl

pub value-is : (l : Lamina) (u : OnAxis) → PositiveStrengths l
    → by.centre exact (by.coefficients exact l) (shares_of l u) ≡ unit_value *ℚ (criterion l u -ℚ whole (pos 1))
unfolding criterion ◌/ℚ◌
value-is l u h =
    rw (one_part) (
    gathered unit_value _ _ _ _ _ _ _ _ (axis_is l.xt l.xc u.along h.xt h.xc) (axis_is l.yt l.yc u.across h.yt h.yc) (mixed_part l u.along u.across h)
    (over_sixteen (share_of u.shear l.s *ℚ share_of u.shear l.s) ∙ shear_part u.shear l.s h.s)
    ∙ ap (λ z. unit_value *ℚ (z -ℚ whole (pos 1))) (rearranged _ _ _ _ _ (whole (pos 2 *ℤ l.f12)) (u.along *ℚ u.across) (inverse (whole (pos (10 ^ 18))))))
