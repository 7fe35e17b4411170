-- The fractions are a commutative ring, and each number but 0 has an inverse.
use Rattle.std.proofs.Common.{◌≡◌, ◌≢◌, ℤ, pos, negsuc, zero, suc, ◌+ℤ◌, ◌*ℤ◌, neg_ℤ, refl, sym, ◌∙◌, ap, arith}
use Rattle.std.proofs.lemmas.Int.{ints}
use mathlib.Core.Path.{ap₂}
use mathlib.Core.Quot.{Quot-set, sound}
use mathlib.Core.HLevel.{Π_prop}
use Rattle.lam_fraction.specs.inside.WholeNumbers.{times-comm, times-assoc, sum-times, neg-times, middle, last}
use Rattle.lam_fraction.specs.inside.CrossProducts.{sum_turned, product_turned}
use Rattle.lam_fraction.specs.Fraction.{ℚ, class_of, whole, ◌+ℚ◌, ◌*ℚ◌, opposite, inverse, turned_over}
use Rattle.lam_fraction.specs.inside.Quotient.{of_two, on_one, on_two}
use Rattle.lam_fraction.proofs.Ring.{Ring, Field}
use Rattle.lam_fraction.proofs.Laws as Laws
use Rattle.lam_fraction.proofs.FractionPairs.{each, equal_1, equal_2, equal_3}

-- pairs with equal parts
equal_parts : {n m d e : ℤ} → n ≡ m → d ≡ e → n *ℤ e ≡ m *ℤ d
equal_parts p q = ap₂ ◌*ℤ◌ p (sym q)

pub sum_assoc : (x y z : ℚ) → (x +ℚ y) +ℚ z ≡ x +ℚ (y +ℚ z)
unfolding class_of ◌+ℚ◌ of_two on_two
sum_assoc = equal_3 (λ x y z. (x +ℚ y) +ℚ z) (λ x y z. x +ℚ (y +ℚ z)) (λ a b c. sound (equal_parts (nums a.num a.den b.num b.den c.num c.den) (times-assoc a.den b.den c.den)))
  where
    nums : (x d y e z f : ℤ) → (x *ℤ e +ℤ y *ℤ d) *ℤ f +ℤ z *ℤ (d *ℤ e) ≡ x *ℤ (e *ℤ f) +ℤ (y *ℤ f +ℤ z *ℤ e) *ℤ d
    nums x d y e z f =
        ap₂ ◌+ℤ◌ (sum-times (x *ℤ e) (y *ℤ d) f) (sym (times-assoc z d e) ∙ last z d e)
        ∙ Laws.sum_assoc ((x *ℤ e) *ℤ f) ((y *ℤ d) *ℤ f) ((z *ℤ e) *ℤ d)
        ∙ ap₂ ◌+ℤ◌ (times-assoc x e f) (ap (λ t. t +ℤ (z *ℤ e) *ℤ d) (last y d f) ∙ sym (sum-times (y *ℤ f) (z *ℤ e) d))

pub sum_comm : (x y : ℚ) → x +ℚ y ≡ y +ℚ x
unfolding class_of ◌+ℚ◌ of_two on_two
sum_comm = equal_2 ◌+ℚ◌ (λ x y. y +ℚ x) (λ a b. sound (sum_turned a b))

pub sum_zero : (x : ℚ) → x +ℚ whole (pos 0) ≡ x
unfolding class_of whole ◌+ℚ◌ of_two on_two
sum_zero = equal_1 (λ x. x +ℚ whole (pos 0)) (λ x. x) (λ a. sound (equal_parts (num a.num a.den) (Laws.product_one a.den)))
  where
    num : (x d : ℤ) → x *ℤ pos 1 +ℤ pos 0 *ℤ d ≡ x
    num x d = omega (arith, ints)

pub sum_opposite : (x : ℚ) → x +ℚ opposite x ≡ whole (pos 0)
unfolding class_of whole ◌+ℚ◌ opposite on_one of_two on_two
sum_opposite = equal_1 (λ x. x +ℚ opposite x) (λ x. whole (pos 0)) (λ a. sound (nothing a.num a.den))
  where
    nothing : (x d : ℤ) → (x *ℤ d +ℤ neg_ℤ x *ℤ d) *ℤ pos 1 ≡ pos 0 *ℤ (d *ℤ d)
    nothing x d = ap (λ t. (x *ℤ d +ℤ t) *ℤ pos 1) (neg-times x d) ∙ omega (arith, ints)

pub product_assoc : (x y z : ℚ) → (x *ℚ y) *ℚ z ≡ x *ℚ (y *ℚ z)
unfolding class_of ◌*ℚ◌ of_two on_two
product_assoc = equal_3 (λ x y z. (x *ℚ y) *ℚ z) (λ x y z. x *ℚ (y *ℚ z)) (λ a b c. sound (equal_parts (times-assoc a.num b.num c.num) (times-assoc a.den b.den c.den)))

pub product_comm : (x y : ℚ) → x *ℚ y ≡ y *ℚ x
unfolding class_of ◌*ℚ◌ of_two on_two
product_comm = equal_2 ◌*ℚ◌ (λ x y. y *ℚ x) (λ a b. sound (product_turned a b))

pub product_one : (x : ℚ) → x *ℚ whole (pos 1) ≡ x
unfolding class_of whole ◌*ℚ◌ of_two on_two
product_one = equal_1 (λ x. x *ℚ whole (pos 1)) (λ x. x) (λ a. sound (equal_parts (Laws.product_one a.num) (Laws.product_one a.den)))

pub distributes : (x y z : ℚ) → x *ℚ (y +ℚ z) ≡ x *ℚ y +ℚ x *ℚ z
unfolding class_of ◌+ℚ◌ ◌*ℚ◌ of_two on_two
distributes = equal_3 (λ x y z. x *ℚ (y +ℚ z)) (λ x y z. x *ℚ y +ℚ x *ℚ z) (λ a b c. sound (cross a.num a.den b.num b.den c.num c.den))
  where
    num : (x d y e z f : ℤ) → (x *ℤ y) *ℤ (d *ℤ f) +ℤ (x *ℤ z) *ℤ (d *ℤ e) ≡ (x *ℤ d) *ℤ (y *ℤ f +ℤ z *ℤ e)
    num x d y e z f = ap₂ ◌+ℤ◌ (middle x y d f) (middle x z d e) ∙ sym (Laws.distributes (x *ℤ d) (y *ℤ f) (z *ℤ e))

    cross : (x d y e z f : ℤ) → (x *ℤ (y *ℤ f +ℤ z *ℤ e)) *ℤ ((d *ℤ e) *ℤ (d *ℤ f)) ≡ ((x *ℤ y) *ℤ (d *ℤ f) +ℤ (x *ℤ z) *ℤ (d *ℤ e)) *ℤ (d *ℤ (e *ℤ f))
    cross x d y e z f =
        ap (λ t. (x *ℤ (y *ℤ f +ℤ z *ℤ e)) *ℤ t) (middle d e d f) ∙ middle x (y *ℤ f +ℤ z *ℤ e) (d *ℤ d) (e *ℤ f)
        ∙ ap (λ t. t *ℤ ((y *ℤ f +ℤ z *ℤ e) *ℤ (e *ℤ f))) (sym (times-assoc x d d)) ∙ middle (x *ℤ d) d (y *ℤ f +ℤ z *ℤ e) (e *ℤ f)
        ∙ ap (λ t. t *ℤ (d *ℤ (e *ℤ f))) (sym (num x d y e z f))

pub whole-sum : (m n : ℤ) → whole (m +ℤ n) ≡ whole m +ℚ whole n
unfolding class_of whole ◌+ℚ◌ of_two on_two
whole-sum m n = let e : m +ℤ n ≡ m *ℤ pos 1 +ℤ n *ℤ pos 1 = omega (arith, ints) in sound (equal_parts e refl)

pub whole-product : (m n : ℤ) → whole (m *ℤ n) ≡ whole m *ℚ whole n
unfolding class_of whole ◌*ℚ◌ of_two on_two
whole-product m n = refl

abbrev pub rationals : Ring
rationals = record {
  Carrier = ℚ;
  ◌⊞◌ = λ x y. x +ℚ y;
  ◌⊡◌ = λ x y. x *ℚ y;
  opposite = λ x. opposite x;
  image = λ z. whole z;
  sum_assoc = sum_assoc;
  sum_comm = sum_comm;
  sum_zero = sum_zero;
  sum_opposite = sum_opposite;
  product_assoc = product_assoc;
  product_comm = product_comm;
  product_one = product_one;
  distributes = distributes;
  image_sum = whole-sum;
  image_product = whole-product;
}

pub product_inverse : (x : ℚ) → x ≢ whole (pos 0) → x *ℚ inverse x ≡ whole (pos 1)
unfolding class_of whole ◌*ℚ◌ inverse on_one of_two on_two
product_inverse = each (λ x. x ≢ whole (pos 0) → x *ℚ inverse x ≡ whole (pos 1)) (λ x. Π_prop (λ h. Quot-set _ _)) (λ a h. sound (cross a.num a.den (λ e. h (sound (zero_over a.num a.den e)))))
  where
    ones : {p q : ℤ} → p ≡ q → p *ℤ pos 1 ≡ pos 1 *ℤ q
    ones {p} {q} e = ap (λ t. t *ℤ pos 1) e ∙ times-comm q (pos 1)

    zero_over : (x d : ℤ) → x ≡ pos 0 → x *ℤ pos 1 ≡ pos 0 *ℤ d
    zero_over x d e = omega (arith, ints)

    cross : (x d : ℤ) → x ≢ pos 0 → (x *ℤ (turned_over x d).num) *ℤ pos 1 ≡ pos 1 *ℤ (d *ℤ (turned_over x d).den)
    cross (pos zero) d h = absurd (h refl)
    cross (pos (suc n)) d h = ones (times-comm (pos (suc n)) d)
    cross (negsuc n) d h = ones (times-comm (negsuc n) (neg_ℤ d) ∙ neg-times d (negsuc n) ∙ ap neg_ℤ (times-comm d (negsuc n)) ∙ sym (neg-times (negsuc n) d) ∙ times-comm (pos (suc n)) d)

abbrev pub field_of_rationals : Field
field_of_rationals = record { ring = rationals; inverse = λ x. inverse x; product_inverse = product_inverse }
