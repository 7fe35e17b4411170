-- The order of the fractions is total, and agrees with sums and products.
use Rattle.std.proofs.Common.{◌≡◌, ◌⊎◌, inl, inr, ℤ, pos, ◌+ℤ◌, ◌*ℤ◌, ◌≤ℤ◌, ◌<ℤ◌, Bool, true, false, T, true≢false, refl, sym, ◌∙◌, ap, subst}
use mathlib.Core.Bool.{Bool-set}
use mathlib.Core.HLevel.{Π_prop}
use mathlib.Core.Quot.{Quot-set}
use Rattle.lam_fraction.specs.inside.WholeNumbers.{sum-times, middle, last, le-times, product_positive}
use Rattle.lam_fraction.specs.Fraction.{ℚ, class_of, whole, sum_pair, product_pair, ◌+ℚ◌, ◌*ℚ◌, is_at_most, ◌≤ℚ◌, ◌<ℚ◌}
use Rattle.lam_fraction.specs.inside.Quotient.{of_two, on_two}
use Rattle.lam_fraction.proofs.Ring.{Ordered}
use Rattle.lam_fraction.proofs.Laws as Laws
use Rattle.lam_fraction.proofs.FractionPairs.{each_2, each_3, same_class, le_class, lt_class, positive_class}
use Rattle.lam_fraction.proofs.FractionRing.{rationals}

pub le_prop : (x y : ℚ) → IsProp (x ≤ℚ y)
le_prop x y h k = λ i. record { le = Bool-set _ _ h.le k.le i }

pub lt_prop : (x y : ℚ) → IsProp (x <ℚ y)
lt_prop x y h k = λ i. record { lt = Bool-set _ _ h.lt k.lt i }

-- ---- whole numbers times a factor above 0

scaled : (a b k : ℤ) → pos 0 <ℤ k → a ≤ℤ b → (a *ℤ k) ≤ℤ (b *ℤ k)
scaled a b k above h = record { le = subst T (sym (le-times a b k above)) h.le }

unscaled : (a b k : ℤ) → pos 0 <ℤ k → (a *ℤ k) ≤ℤ (b *ℤ k) → a ≤ℤ b
unscaled a b k above h = record { le = subst T (le-times a b k above) h.le }

-- ---- total

pub either : (x y : ℚ) → (x ≤ℚ y) ⊎ (y <ℚ x)
either x y = by_test (is_at_most x y) refl
  where
    by_test : (t : Bool) → is_at_most x y ≡ t → (x ≤ℚ y) ⊎ (y <ℚ x)
    by_test true e = inl (record { le = e })
    by_test false e = inr (record { lt = e })

pub exclusive : (x y : ℚ) → x ≤ℚ y → ¬ (y <ℚ x)
exclusive x y h k = true≢false (sym h.le ∙ k.lt)

pub weaken : (x y : ℚ) → x <ℚ y → x ≤ℚ y
weaken = each_2 (λ x y. x <ℚ y → x ≤ℚ y) (λ x y. Π_prop (λ h. le_prop x y)) (λ a b h. (le_class a b).1 (Laws.weaken _ _ ((lt_class a b).0 h)))

pub antisymmetric : (x y : ℚ) → x ≤ℚ y → y ≤ℚ x → x ≡ y
antisymmetric = each_2 (λ x y. x ≤ℚ y → y ≤ℚ x → x ≡ y) (λ x y. Π_prop (λ h. Π_prop (λ k. Quot-set x y)))
    (λ a b h k. same_class a b (Laws.antisymmetric _ _ ((le_class a b).0 h) ((le_class b a).0 k)))

pub transitive : (x y z : ℚ) → x ≤ℚ y → y ≤ℚ z → x ≤ℚ z
transitive = each_3 (λ x y z. x ≤ℚ y → y ≤ℚ z → x ≤ℚ z) (λ x y z. Π_prop (λ h. Π_prop (λ k. le_prop x z)))
    (λ a b c h k. (le_class a c).1 (chain a.num a.den b.num b.den c.num c.den a.positive b.positive c.positive ((le_class a b).0 h) ((le_class b c).0 k)))
  where
    chain : (x d y e z f : ℤ) → pos 0 <ℤ d → pos 0 <ℤ e → pos 0 <ℤ f → (x *ℤ e) ≤ℤ (y *ℤ d) → (y *ℤ f) ≤ℤ (z *ℤ e) → (x *ℤ f) ≤ℤ (z *ℤ d)
    chain x d y e z f p q r h k =
        let first = subst (λ t. t ≤ℤ ((y *ℤ d) *ℤ f)) (last x e f) (scaled (x *ℤ e) (y *ℤ d) f r h) in
        let second = subst (λ t. t ≤ℤ ((z *ℤ e) *ℤ d)) (last y f d) (scaled (y *ℤ f) (z *ℤ e) d p k) in
        unscaled (x *ℤ f) (z *ℤ d) e q (subst (λ t. ((x *ℤ f) *ℤ e) ≤ℤ t) (last z e d) (Laws.transitive _ _ _ first second))

-- ---- sums and products

pub shifted : (x y z : ℚ) → x ≤ℚ y → x +ℚ z ≤ℚ y +ℚ z
unfolding class_of ◌+ℚ◌ on_two of_two
shifted = each_3 (λ x y z. x ≤ℚ y → x +ℚ z ≤ℚ y +ℚ z) (λ x y z. Π_prop (λ h. le_prop (x +ℚ z) (y +ℚ z)))
    (λ a b c h. (le_class (sum_pair a c) (sum_pair b c)).1 (cross a.num a.den b.num b.den c.num c.den c.positive ((le_class a b).0 h)))
  where
    split : (x d y e z f : ℤ) → (x *ℤ f +ℤ z *ℤ d) *ℤ (e *ℤ f) ≡ (x *ℤ e) *ℤ (f *ℤ f) +ℤ (z *ℤ d) *ℤ (e *ℤ f)
    split x d y e z f = sum-times (x *ℤ f) (z *ℤ d) (e *ℤ f) ∙ ap (λ t. t +ℤ (z *ℤ d) *ℤ (e *ℤ f)) (middle x f e f)

    cross : (x d y e z f : ℤ) → pos 0 <ℤ f → (x *ℤ e) ≤ℤ (y *ℤ d) → ((x *ℤ f +ℤ z *ℤ d) *ℤ (e *ℤ f)) ≤ℤ ((y *ℤ f +ℤ z *ℤ e) *ℤ (d *ℤ f))
    cross x d y e z f above h =
        subst (λ t. t ≤ℤ ((y *ℤ f +ℤ z *ℤ e) *ℤ (d *ℤ f))) (sym (split x d y e z f))
        (subst (λ t. ((x *ℤ e) *ℤ (f *ℤ f) +ℤ (z *ℤ d) *ℤ (e *ℤ f)) ≤ℤ t) (ap (λ t. (y *ℤ d) *ℤ (f *ℤ f) +ℤ t) (middle z d e f) ∙ sym (split y e x d z f))
        (Laws.shifted _ _ ((z *ℤ d) *ℤ (e *ℤ f)) (scaled (x *ℤ e) (y *ℤ d) (f *ℤ f) (product_positive f f above above) h)))

pub positive_product : (x y : ℚ) → whole (pos 0) <ℚ x → whole (pos 0) <ℚ y → whole (pos 0) <ℚ x *ℚ y
unfolding class_of ◌*ℚ◌ on_two of_two
positive_product = each_2 (λ x y. whole (pos 0) <ℚ x → whole (pos 0) <ℚ y → whole (pos 0) <ℚ x *ℚ y) (λ x y. Π_prop (λ h. Π_prop (λ k. lt_prop (whole (pos 0)) (x *ℚ y))))
    (λ a b h k. (positive_class (product_pair a b)).1 (product_positive a.num b.num ((positive_class a).0 h) ((positive_class b).0 k)))

abbrev pub ordered_rationals : Ordered
ordered_rationals = record {
  ring = rationals;
  ◌⊴◌ = λ x y. x ≤ℚ y;
  ◌◁◌ = λ x y. x <ℚ y;
  either = either;
  exclusive = exclusive;
  weaken = weaken;
  antisymmetric = antisymmetric;
  transitive = transitive;
  shifted = shifted;
  positive_product = positive_product;
}
