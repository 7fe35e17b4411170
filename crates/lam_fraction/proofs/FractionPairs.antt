-- From pairs to the numbers that they stand for, and back.
use Rattle.std.proofs.Common.{◌≡◌, ◌↔◌, ℤ, pos, negsuc, true, false, zero, suc, ◌+ℤ◌, ◌*ℤ◌, neg_ℤ, ◌≤ℤ◌, ◌<ℤ◌, refl, sym, ◌∙◌, ap, subst, arith}
use mathlib.Core.Path.{ap₂}
use Rattle.std.proofs.lemmas.Int.{ints}
use Rattle.lam_fraction.specs.Fraction.{Fraction, SameFraction, ℚ, class_of, whole_pair, sum_pair, product_pair, opposite_pair, inverse_pair, whole, ◌+ℚ◌, ◌*ℚ◌, ◌/ℚ◌, opposite, inverse, fraction, is_at_most, ◌≤ℚ◌, ◌<ℚ◌}
use Rattle.std.specs.Ordering.{MatchOrdering, int_cmp}
use Rattle.std.specs.declared.cmp.Ordering.{Ordering}
use Rattle.std.specs.declared.cmp.Ordering.TheVariants.{Less, Equal, Greater}
use Rattle.std.proofs.lemmas.Cmp.{int_ranked}
use Rattle.lam_fraction.proofs.Expression.{◌⊕◌, ◌⊗◌}
use Rattle.lam_fraction.proofs.Solver.{◌≐◌}
use Rattle.lam_fraction.proofs.Integers.{solve}
use Rattle.lam_fraction.specs.CrossLaws.{EqualByCrossProducts, SumByCrossProducts, ProductByCrossProducts, OrderByCrossProducts}
use Rattle.lam_fraction.specs.inside.WholeNumbers.{times-assoc, product_positive}
use Rattle.lam_fraction.specs.inside.Quotient.{of_two, on_one, on_two}
use mathlib.Core.Quot.{Quot-set, sound, ind}
use lib.Signed.{le_z}
use borrow.Author.Differences.{le-true, le-false, true_is_le, false_is_le, le_out, lt_out, at_most_in, below_in}

-- ---- what holds of every pair holds of every number

pub each : (P : ℚ → Type 0) → ((x : ℚ) → IsProp (P x)) → ((a : Fraction) → P (class_of a)) → (x : ℚ) → P x
unfolding class_of
each P prop h x = ind {r = SameFraction} {β = P} prop h x

pub each_2 : (P : ℚ → ℚ → Type 0) → ((x y : ℚ) → IsProp (P x y)) → ((a b : Fraction) → P (class_of a) (class_of b)) → (x y : ℚ) → P x y
each_2 P prop h x y = each (λ x. P x y) (λ x. prop x y) (λ a. each (P (class_of a)) (prop (class_of a)) (h a) y) x

pub each_3 : (P : ℚ → ℚ → ℚ → Type 0) → ((x y z : ℚ) → IsProp (P x y z)) → ((a b c : Fraction) → P (class_of a) (class_of b) (class_of c)) → (x y z : ℚ) → P x y z
each_3 P prop h x y z = each (λ x. P x y z) (λ x. prop x y z) (λ a. each_2 (P (class_of a)) (prop (class_of a)) (h a) y z) x

pub equal_1 : (f g : ℚ → ℚ) → ((a : Fraction) → f (class_of a) ≡ g (class_of a)) → (x : ℚ) → f x ≡ g x
equal_1 f g = each (λ x. f x ≡ g x) (λ x. Quot-set (f x) (g x))

pub equal_2 : (f g : ℚ → ℚ → ℚ) → ((a b : Fraction) → f (class_of a) (class_of b) ≡ g (class_of a) (class_of b)) → (x y : ℚ) → f x y ≡ g x y
equal_2 f g = each_2 (λ x y. f x y ≡ g x y) (λ x y. Quot-set (f x y) (g x y))

pub equal_3 : (f g : ℚ → ℚ → ℚ → ℚ) → ((a b c : Fraction) → f (class_of a) (class_of b) (class_of c) ≡ g (class_of a) (class_of b) (class_of c)) → (x y z : ℚ) → f x y z ≡ g x y z
equal_3 f g = each_3 (λ x y z. f x y z ≡ g x y z) (λ x y z. Quot-set (f x y z) (g x y z))

-- ---- a number's sums, products and order by its pairs

pub same_class : (a b : Fraction) → SameFraction a b → class_of a ≡ class_of b
unfolding class_of
same_class a b same = sound same

pub sum_class : (a b : Fraction) → class_of a +ℚ class_of b ≡ class_of (sum_pair a b)
unfolding class_of ◌+ℚ◌ of_two on_two
sum_class a b = refl

pub product_class : (a b : Fraction) → class_of a *ℚ class_of b ≡ class_of (product_pair a b)
unfolding class_of ◌*ℚ◌ of_two on_two
product_class a b = refl

pub opposite_class : (a : Fraction) → opposite (class_of a) ≡ class_of (opposite_pair a)
unfolding class_of opposite on_one
opposite_class a = refl

pub inverse_class : (a : Fraction) → inverse (class_of a) ≡ class_of (inverse_pair a)
unfolding class_of inverse on_one
inverse_class a = refl

test_is : (p q : ℤ) → (le_z p q ≡ true) ↔ (p ≤ℤ q)
test_is p q = (λ e. at_most_in p q (le-true p q e), λ h. sym (true_is_le p q (le_out p q h)))

test_fails : (p q : ℤ) → (le_z p q ≡ false) ↔ (q <ℤ p)
test_fails p q = (λ e. below_in q p (le-false p q e), λ h. sym (false_is_le p q (lt_out q p h)))

pub le_class : (a b : Fraction) → (class_of a ≤ℚ class_of b) ↔ ((a.num *ℤ b.den) ≤ℤ (b.num *ℤ a.den))
unfolding class_of is_at_most of_two
le_class a b = let t = test_is (a.num *ℤ b.den) (b.num *ℤ a.den) in (λ h. t.0 h.le, λ h. record { le = t.1 h })

pub lt_class : (a b : Fraction) → (class_of a <ℚ class_of b) ↔ ((a.num *ℤ b.den) <ℤ (b.num *ℤ a.den))
unfolding class_of is_at_most of_two
lt_class a b = let t = test_fails (b.num *ℤ a.den) (a.num *ℤ b.den) in (λ h. t.0 h.lt, λ h. record { lt = t.1 h })

at_most_itself : (a : Fraction) → class_of a ≤ℚ class_of a
at_most_itself a = (le_class a a).1 (omega (arith, ints))

-- equal numbers have equal cross products, whichever pairs are taken
pub class_is : (a b : Fraction) → class_of a ≡ class_of b → SameFraction a b
class_is a b e =
    let below : (a.num *ℤ b.den) ≤ℤ (b.num *ℤ a.den) = (le_class a b).0 (subst (λ (x : ℚ). class_of a ≤ℚ x) e (at_most_itself a)) in
    let above : (b.num *ℤ a.den) ≤ℤ (a.num *ℤ b.den) = (le_class b a).0 (subst (λ (x : ℚ). x ≤ℚ class_of a) e (at_most_itself a)) in
    omega (arith, ints)

-- ---- the order against 0

pub positive_class : (a : Fraction) → (whole (pos 0) <ℚ class_of a) ↔ (pos 0 <ℤ a.num)
unfolding whole
positive_class a = (λ h. let k = (lt_class (whole_pair (pos 0)) a).0 h in omega (arith, ints, k), λ h. (lt_class (whole_pair (pos 0)) a).1 (omega (arith, ints)))

pub not_negative_class : (a : Fraction) → (whole (pos 0) ≤ℚ class_of a) ↔ (pos 0 ≤ℤ a.num)
unfolding whole
not_negative_class a = (λ h. let k = (le_class (whole_pair (pos 0)) a).0 h in omega (arith, ints, k), λ h. (le_class (whole_pair (pos 0)) a).1 (omega (arith, ints)))

-- ---- whole numbers

pub whole-le : (m n : ℤ) → (whole m ≤ℚ whole n) ↔ (m ≤ℤ n)
unfolding whole
whole-le m n = (λ h. let k = (le_class (whole_pair m) (whole_pair n)).0 h in omega (arith, ints, k), λ h. (le_class (whole_pair m) (whole_pair n)).1 (omega (arith, ints)))

pub whole-lt : (m n : ℤ) → (whole m <ℚ whole n) ↔ (m <ℤ n)
unfolding whole
whole-lt m n = (λ h. let k = (lt_class (whole_pair m) (whole_pair n)).0 h in omega (arith, ints, k), λ h. (lt_class (whole_pair m) (whole_pair n)).1 (omega (arith, ints)))

pub whole_injective : (m n : ℤ) → whole m ≡ whole n → m ≡ n
unfolding whole
whole_injective m n e = let k = class_is (whole_pair m) (whole_pair n) e in omega (arith, ints, k)

-- ---- a numerator over a denominator

pub fraction_class : (n d : ℤ) (above : pos 0 <ℤ d) → fraction n d ≡ class_of (record { num = n; den = d; positive = above })
unfolding class_of fraction whole ◌/ℚ◌ ◌*ℚ◌ inverse on_one on_two of_two
fraction_class n (pos zero) above = absurd (omega (arith, ints))
fraction_class n (pos (suc d)) above = sound (over_one n (pos (suc d)))
  where
    over_one : (n d : ℤ) → (n *ℤ pos 1) *ℤ d ≡ n *ℤ (pos 1 *ℤ d)
    over_one n d = times-assoc n (pos 1) d
fraction_class n (negsuc d) above = absurd (omega (arith, ints))

pair : (n d : ℤ) → pos 0 <ℤ d → Fraction
pair n d above = record { num = n; den = d; positive = above }

pub fraction-equal : EqualByCrossProducts
unfolding pair
fraction-equal n d m e p q = (
  λ same. class_is (pair n d p) (pair m e q) (sym (fraction_class n d p) ∙ same ∙ fraction_class m e q),
  λ same. fraction_class n d p ∙ same_class (pair n d p) (pair m e q) same ∙ sym (fraction_class m e q),
)

pub fraction-sum : SumByCrossProducts
unfolding pair
fraction-sum n d m e p q =
    ap₂ ◌+ℚ◌ (fraction_class n d p) (fraction_class m e q) ∙ sum_class (pair n d p) (pair m e q)
    ∙ sym (fraction_class (n *ℤ e +ℤ m *ℤ d) (d *ℤ e) (product_positive d e p q))

pub fraction-product : ProductByCrossProducts
unfolding pair
fraction-product n d m e p q =
    ap₂ ◌*ℚ◌ (fraction_class n d p) (fraction_class m e q) ∙ product_class (pair n d p) (pair m e q)
    ∙ sym (fraction_class (n *ℤ m) (d *ℤ e) (product_positive d e p q))

pub fraction-order : OrderByCrossProducts
unfolding pair
fraction-order n d m e p q =
    let x = fraction_class n d p in
    let y = fraction_class m e q in (
      (
        λ h. (le_class (pair n d p) (pair m e q)).0 (subst (λ t. class_of (pair n d p) ≤ℚ t) y (subst (λ s. s ≤ℚ fraction m e) x h)),
        λ h. subst (λ t. fraction n d ≤ℚ t) (sym y) (subst (λ s. s ≤ℚ class_of (pair m e q)) (sym x) ((le_class (pair n d p) (pair m e q)).1 h)),
      ),
      (
        λ h. (lt_class (pair n d p) (pair m e q)).0 (subst (λ t. class_of (pair n d p) <ℚ t) y (subst (λ s. s <ℚ fraction m e) x h)),
        λ h. subst (λ t. fraction n d <ℚ t) (sym y) (subst (λ s. s <ℚ class_of (pair m e q)) (sym x) ((lt_class (pair n d p) (pair m e q)).1 h)),
      ),
    )

pub fraction-times_whole : (n d k : ℤ) → pos 0 <ℤ d → fraction (n *ℤ k) d ≡ fraction n d *ℚ whole k
unfolding class_of whole ◌*ℚ◌ on_two of_two
fraction-times_whole n d k above =
    fraction_class (n *ℤ k) d above ∙ sound (over_same (n *ℤ k) d) ∙ ap (λ x. x *ℚ whole k) (sym (fraction_class n d above))
  where
    over_same : (n d : ℤ) → n *ℤ (d *ℤ pos 1) ≡ n *ℤ d
    over_same n d = ap (λ t. n *ℤ t) (omega (arith, ints))

pub fraction-one : (n : ℤ) → fraction n (pos 1) ≡ whole n
unfolding whole
fraction-one n = fraction_class n (pos 1) (omega (arith, ints))

-- a common factor above 0 goes
pub fraction-cancel : (n d k : ℤ) → pos 0 <ℤ d → pos 0 <ℤ k → fraction (n *ℤ k) (d *ℤ k) ≡ fraction n d
fraction-cancel n d k p q = (fraction-equal (n *ℤ k) (d *ℤ k) n d (product_positive d k p q) p).1 (solve 3 (λ n d k. n ⊗ k ⊗ d ≐ n ⊗ (d ⊗ k)) refl n d k)

pub fraction-sum_same_den : (n m d : ℤ) → pos 0 <ℤ d → fraction n d +ℚ fraction m d ≡ fraction (n +ℤ m) d
fraction-sum_same_den n m d p =
    fraction-sum n d m d p p
    ∙ (fraction-equal (n *ℤ d +ℤ m *ℤ d) (d *ℤ d) (n +ℤ m) d (product_positive d d p p) p).1 (solve 3 (λ n m d. (n ⊗ d ⊕ m ⊗ d) ⊗ d ≐ (n ⊕ m) ⊗ (d ⊗ d)) refl n m d)

pub fraction-opposite : (n d : ℤ) → pos 0 <ℤ d → opposite (fraction n d) ≡ fraction (neg_ℤ n) d
unfolding pair
fraction-opposite n d p = ap opposite (fraction_class n d p) ∙ opposite_class (pair n d p) ∙ sym (fraction_class (neg_ℤ n) d p)

-- what holds of each numerator over each denominator holds of every number
pub each_fraction : (P : ℚ → Type 0) → ((x : ℚ) → IsProp (P x)) → ((n d : ℤ) → pos 0 <ℤ d → P (fraction n d)) → (x : ℚ) → P x
each_fraction P prop h = each P prop (λ a. subst P (fraction_class a.num a.den a.positive) (h a.num a.den a.positive))

-- ---- what `Frac` computes

pub ranked : (n d m e l r : ℤ) (o : Ordering) → pos 0 <ℤ d → pos 0 <ℤ e → o ≡ int_cmp l r → l ≡ n *ℤ e → r ≡ m *ℤ d
    → MatchOrdering o (fraction n d <ℚ fraction m e) (fraction n d ≡ fraction m e) (fraction m e <ℚ fraction n d)
ranked n d m e l r o p q is left right = by_cases o (int_ranked (n *ℤ e) (m *ℤ d) o (is ∙ ap₂ int_cmp left right))
  where
    by_cases : (o : Ordering) → MatchOrdering o ((n *ℤ e) <ℤ (m *ℤ d)) (n *ℤ e ≡ m *ℤ d) ((m *ℤ d) <ℤ (n *ℤ e))
        → MatchOrdering o (fraction n d <ℚ fraction m e) (fraction n d ≡ fraction m e) (fraction m e <ℚ fraction n d)
    by_cases Less h = (fraction-order n d m e p q).1.1 h
    by_cases Equal h = (fraction-equal n d m e p q).1 h
    by_cases Greater h = (fraction-order m e n d q p).1.1 h

pub times_value : (n d k num den : ℤ) → pos 0 <ℤ d → num ≡ n *ℤ k → den ≡ d → fraction num den ≡ fraction n d *ℚ whole k
times_value n d k num den above top bottom = ap₂ fraction top bottom ∙ fraction-times_whole n d k above
