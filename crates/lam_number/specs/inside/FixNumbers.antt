-- Fixed point as a kind of enclosure: the formulas' ends.
use Rattle.std.specs.Prelude.{◌≡◌, ℕ, ◌+◌, ◌*◌, ◌^◌, Bool, true, false, cond, not, T, ℤ, pos, ◌+ℤ◌, ◌-ℤ◌, ◌*ℤ◌, ◌≤ℤ◌, unsigned_abs, int_lt, refl}
use Rattle.std.specs.Int.{int_min, int_max}
use mathlib.Core.Path.{sym, subst}
use lib.Signed.{≤ℤ_refl, lt_z_no}
use Rattle.lam_fraction.specs.inside.FixedEnds.{product_low, product_high, ratio_low, ratio_high}
use Rattle.lam_fraction.specs.numbers.Numbers.{Numbers}
use Rattle.lam_fraction.specs.numbers.Rounding.{floor_over, ceil_over, root_floor}
use Rattle.lam_number.specs.declared.fix.Fix.{Fix}

pub max-bound : (x y : ℤ) → x ≤ℤ int_max x y
max-bound x y = by_test (int_lt y x) refl
  where
    by_test : (b : Bool) → int_lt y x ≡ b → x ≤ℤ cond b x y
    by_test true e = ≤ℤ_refl x
    by_test false e = lt_z_no (subst (λ t. T (not t)) (sym e) tt)

-- from a low end to a high one, which is raised to the low one where it is below it
unfoldable pub fix_of : (s : ℕ) → ℤ → ℤ → Fix s
fix_of s low high = record { low = low; high = int_max low high; ordered = max-bound low high }

abbrev pub fix_numbers : (s : ℕ) → Numbers (Fix s)
fix_numbers s = record {
  scale = s;
  slop = 2;
  low = λ x. x.low;
  high = λ x. x.high;
  calc = record {
    ratio = λ num den. fix_of s (ratio_low s num den) (ratio_high s num den);
    sum = λ x y. fix_of s (x.low +ℤ y.low) (x.high +ℤ y.high);
    difference = λ x y. fix_of s (x.low -ℤ y.high) (x.high -ℤ y.low);
    product = λ x y. fix_of s (product_low s x.low x.high y.low y.high) (product_high s x.low x.high y.low y.high);
    multiple = λ x k. fix_of s (int_min (x.low *ℤ k) (x.high *ℤ k)) (int_max (x.low *ℤ k) (x.high *ℤ k));
    quotient = λ x k. fix_of s (floor_over x.low (unsigned_abs k)) (ceil_over x.high (unsigned_abs k));
    square = λ x. fix_of s (product_low s x.low x.high x.low x.high) (product_high s x.low x.high x.low x.high);
  };
  root = λ x. fix_of s (pos 0) (pos (root_floor (unsigned_abs x.high * 2 ^ s) + 1));
  hull = λ x y. fix_of s (int_min x.low y.low) (int_max x.high y.high);
}
