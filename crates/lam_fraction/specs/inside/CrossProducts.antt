-- Sums, products, inverses and the order depend on no choice of pairs: what is made of the same fractions is the same.
use Rattle.std.proofs.Common.{◌≡◌, ℤ, pos, negsuc, ◌+ℤ◌, ◌*ℤ◌, neg_ℤ, ◌<ℤ◌, zero, suc, true, refl, sym, ◌∙◌, ap, ap₂, subst, arith}
use Rattle.std.proofs.lemmas.Int.{ints}
use lib.Signed.{le_z}
use Rattle.lam_fraction.specs.inside.WholeNumbers.{times-comm, sum-times, sum-comm, neg-times, middle, last, suc_positive, product_positive, le-times}
use Rattle.lam_fraction.specs.Pair.{Fraction, SameFraction, sum_pair, product_pair, opposite_pair, turned_over, inverse_pair, pair_at_most}

-- ---- sums, products, opposites

pub sum_same : (a b c : Fraction) → SameFraction a b → SameFraction (sum_pair a c) (sum_pair b c)
sum_same a b c same = cross a.num a.den b.num b.den c.num c.den same
  where
    cross : (x d y e z f : ℤ) → x *ℤ e ≡ y *ℤ d → (x *ℤ f +ℤ z *ℤ d) *ℤ (e *ℤ f) ≡ (y *ℤ f +ℤ z *ℤ e) *ℤ (d *ℤ f)
    cross x d y e z f h =
        sum-times (x *ℤ f) (z *ℤ d) (e *ℤ f)
        ∙ ap₂ ◌+ℤ◌ (middle x f e f ∙ ap (λ t. t *ℤ (f *ℤ f)) h ∙ sym (middle y f d f)) (middle z d e f)
        ∙ sym (sum-times (y *ℤ f) (z *ℤ e) (d *ℤ f))

pub sum_turned : (a b : Fraction) → SameFraction (sum_pair a b) (sum_pair b a)
sum_turned a b = ap₂ ◌*ℤ◌ (sum-comm (a.num *ℤ b.den) (b.num *ℤ a.den)) (times-comm b.den a.den)

pub product_same : (a b c : Fraction) → SameFraction a b → SameFraction (product_pair a c) (product_pair b c)
product_same a b c same = middle a.num c.num b.den c.den ∙ ap (λ t. t *ℤ (c.num *ℤ c.den)) same ∙ sym (middle b.num c.num a.den c.den)

pub product_turned : (a b : Fraction) → SameFraction (product_pair a b) (product_pair b a)
product_turned a b = ap₂ ◌*ℤ◌ (times-comm a.num b.num) (times-comm b.den a.den)

opposite_cross : (x d y e : ℤ) → x *ℤ e ≡ y *ℤ d → neg_ℤ x *ℤ e ≡ neg_ℤ y *ℤ d
opposite_cross x d y e h = neg-times x e ∙ ap neg_ℤ h ∙ sym (neg-times y d)

pub opposite_same : (a b : Fraction) → SameFraction a b → SameFraction (opposite_pair a) (opposite_pair b)
opposite_same a b same = opposite_cross a.num a.den b.num b.den same

-- ---- inverses

not_positive : (y d : ℤ) → pos 0 <ℤ d → le_z y (pos 0) ≡ true → pos 0 <ℤ (y *ℤ d) → ⊥
not_positive (pos zero) (pos m) d_positive h k = omega (arith, ints)
not_positive (pos zero) (negsuc m) d_positive h k = omega (arith, ints)
not_positive (pos (suc n)) d d_positive h k = omega (arith, ints)
not_positive (negsuc n) (pos zero) d_positive h k = omega (arith, ints)
not_positive (negsuc n) (pos (suc m)) d_positive h k = omega (arith, ints)
not_positive (negsuc n) (negsuc m) d_positive h k = omega (arith, ints)

-- numbers with equal cross products have one sign
one_sign : (x d y e : ℤ) → pos 0 <ℤ d → pos 0 <ℤ e → x *ℤ e ≡ y *ℤ d → pos 0 <ℤ x → le_z y (pos 0) ≡ true → ⊥
one_sign x d y e d_positive e_positive same above below = not_positive y d d_positive below (subst (λ z. pos 0 <ℤ z) same (product_positive x e above e_positive))

turned_cross : (n m d e : ℤ) → n *ℤ e ≡ m *ℤ d → d *ℤ m ≡ e *ℤ n
turned_cross n m d e same = times-comm d m ∙ sym same ∙ times-comm n e

turned_over_same : (n d m e : ℤ) → pos 0 <ℤ d → pos 0 <ℤ e → n *ℤ e ≡ m *ℤ d → SameFraction (turned_over n d) (turned_over m e)
turned_over_same (pos zero) d (pos zero) e p q same = refl
turned_over_same (pos zero) d (pos (suc k)) e p q same = absurd (one_sign (pos (suc k)) e (pos 0) d q p (sym same) (suc_positive k) refl)
turned_over_same (pos zero) d (negsuc k) e p q same = absurd (one_sign (pos (suc k)) e (pos 0) d q p (sym (opposite_cross (pos 0) d (negsuc k) e same)) (suc_positive k) refl)
turned_over_same (pos (suc j)) d (pos zero) e p q same = absurd (one_sign (pos (suc j)) d (pos 0) e p q same (suc_positive j) refl)
turned_over_same (pos (suc j)) d (pos (suc k)) e p q same = turned_cross (pos (suc j)) (pos (suc k)) d e same
turned_over_same (pos (suc j)) d (negsuc k) e p q same = absurd (one_sign (pos (suc j)) d (negsuc k) e p q same (suc_positive j) refl)
turned_over_same (negsuc j) d (pos zero) e p q same = absurd (one_sign (pos (suc j)) d (pos 0) e p q (opposite_cross (negsuc j) d (pos 0) e same) (suc_positive j) refl)
turned_over_same (negsuc j) d (pos (suc k)) e p q same = absurd (one_sign (pos (suc k)) e (negsuc j) d q p (sym same) (suc_positive k) refl)
turned_over_same (negsuc j) d (negsuc k) e p q same =
    opposite_cross d (pos (suc j)) e (pos (suc k)) (turned_cross (pos (suc j)) (pos (suc k)) d e (opposite_cross (negsuc j) d (negsuc k) e same))

pub inverse_same : (a b : Fraction) → SameFraction a b → SameFraction (inverse_pair a) (inverse_pair b)
inverse_same a b same = turned_over_same a.num a.den b.num b.den a.positive b.positive same

-- ---- the order

crossed : (x d y e f : ℤ) → x *ℤ e ≡ y *ℤ d → (x *ℤ f) *ℤ e ≡ (y *ℤ f) *ℤ d
crossed x d y e f h = last x f e ∙ ap (λ t. t *ℤ f) h ∙ last y d f

pub at_most_same_left : (a b c : Fraction) → SameFraction a b → pair_at_most a c ≡ pair_at_most b c
at_most_same_left a b c same =
    sym (le-times (a.num *ℤ c.den) (c.num *ℤ a.den) b.den b.positive)
    ∙ ap₂ le_z (crossed a.num a.den b.num b.den c.den same) (last c.num a.den b.den)
    ∙ le-times (b.num *ℤ c.den) (c.num *ℤ b.den) a.den a.positive

pub at_most_same_right : (c a b : Fraction) → SameFraction a b → pair_at_most c a ≡ pair_at_most c b
at_most_same_right c a b same =
    sym (le-times (c.num *ℤ a.den) (a.num *ℤ c.den) b.den b.positive)
    ∙ ap₂ le_z (last c.num a.den b.den) (crossed a.num a.den b.num b.den c.den same)
    ∙ le-times (c.num *ℤ b.den) (b.num *ℤ c.den) a.den a.positive
