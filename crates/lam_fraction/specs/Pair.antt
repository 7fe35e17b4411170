-- A fraction is a pair of whole numbers, a numerator and a denominator above 0. Two pairs are the same
-- fraction where their cross products are equal, and pairs are added, multiplied and ordered by cross-multiplying.
use Rattle.std.specs.Prelude.{◌≡◌, ℤ, pos, negsuc, ◌+ℤ◌, ◌*ℤ◌, neg_ℤ, ◌<ℤ◌, zero, suc, Bool, int_le}
use Rattle.lam_fraction.specs.inside.WholeNumbers.{one_positive, suc_positive, product_positive}

pub record Fraction : Type 0 where
  pub num : ℤ
  pub den : ℤ
  pub positive : pos 0 <ℤ den

abbrev pub SameFraction : Fraction → Fraction → Type 0
SameFraction a b = a.num *ℤ b.den ≡ b.num *ℤ a.den

-- a whole number over 1
abbrev pub whole_pair : ℤ → Fraction
whole_pair z = record { num = z; den = pos 1; positive = one_positive }

abbrev pub sum_pair : Fraction → Fraction → Fraction
sum_pair a b = record { num = a.num *ℤ b.den +ℤ b.num *ℤ a.den; den = a.den *ℤ b.den; positive = product_positive a.den b.den a.positive b.positive }

abbrev pub product_pair : Fraction → Fraction → Fraction
product_pair a b = record { num = a.num *ℤ b.num; den = a.den *ℤ b.den; positive = product_positive a.den b.den a.positive b.positive }

abbrev pub opposite_pair : Fraction → Fraction
opposite_pair a = record a { num = neg_ℤ a.num }

-- a denominator over a numerator, with its sign; 0 where the numerator is 0
abbrev pub turned_over : (num den : ℤ) → Fraction
turned_over (pos zero) den = whole_pair (pos 0)
turned_over (pos (suc n)) den = record { num = den; den = pos (suc n); positive = suc_positive n }
turned_over (negsuc n) den = record { num = neg_ℤ den; den = pos (suc n); positive = suc_positive n }

abbrev pub inverse_pair : Fraction → Fraction
inverse_pair a = turned_over a.num a.den

abbrev pub pair_at_most : Fraction → Fraction → Bool
pair_at_most a b = int_le (a.num *ℤ b.den) (b.num *ℤ a.den)
