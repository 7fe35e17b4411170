-- Quotients that are rounded down or up: that they fit 64 bits, and their order; and that a whole root is the only one.
use Rattle.std.proofs.Common.{inl, inr, ◌≡◌, ℕ, zero, suc, ◌+◌, ◌*◌, ◌^◌, ◌<◌, ◌≤◌, arith, ℤ, pos, negsuc, neg_ℤ, ◌+ℤ◌, ◌-ℤ◌, ◌*ℤ◌, ◌≤ℤ◌, ◌<ℤ◌, FitsSigned, unsigned_abs, lt_of_le_of_lt, div-le_self, mul-le-mul_right}
use Rattle.std.proofs.lemmas.Int.{ints, unsigned_abs-mul, fits_signed_from_abs}
use Rattle.std.proofs.Math.Nat.{div-le_of_le-mul}
use Rattle.std.proofs.lemmas.Nat.{div_below, pow_pos, mul-le}
use Rattle.std.proofs.lemmas.Bool.{cases_lt}
use Rattle.std.specs.Int.{w64}
use lib.Signed.{≤ℤ_refl}
use Rattle.lam_fraction.specs.inside.FixedEnds.{product_low, product_high, product_centre, product_spread, ratio_low, ratio_high}
use Rattle.lam_fraction.specs.numbers.Rounding.{floor_over, ceil_over, root_floor}
use Rattle.lam_fraction.proofs.numbers.Rounded.{floor-ceil, root_floor-is}
use Rattle.lam_number.proofs.Sizes.{units_fit}

pub floor-within : (z : ℤ) (n b : ℕ) → 0 < n → unsigned_abs z ≤ b * n → unsigned_abs (floor_over z n) ≤ b
unfolding floor_over
floor-within (pos a) n b p h = div-le_of_le-mul n (omega (arith, h))
floor-within (negsuc a) n b p h = omega (arith, div_below a n b p (omega (arith, h)))

neg-size : (z : ℤ) → unsigned_abs (neg_ℤ z) ≡ unsigned_abs z
neg-size z = omega (arith, ints)

pub ceil-within : (z : ℤ) (n b : ℕ) → 0 < n → unsigned_abs z ≤ b * n → unsigned_abs (ceil_over z n) ≤ b
unfolding ceil_over
ceil-within z n b p h = omega (arith, neg-size (floor_over (neg_ℤ z) n), floor-within (neg_ℤ z) n b p (omega (arith, neg-size z, h)))

-- rounded quotients of a number of 64 bits
pub floor_fits : (z : ℤ) (n : ℕ) → FitsSigned w64 z → FitsSigned w64 (floor_over z n)
unfolding floor_over
floor_fits (pos a) n f = record { sfits = lt_of_le_of_lt (div-le_self a n) f.sfits }
floor_fits (negsuc a) n f = record { sfits = lt_of_le_of_lt (div-le_self a n) f.sfits }

pub ceil_fits : (z : ℤ) (n : ℕ) → FitsSigned w64 z → FitsSigned w64 (ceil_over z n)
unfolding floor_over ceil_over
ceil_fits (pos zero) n f = omega (arith, ints, div-le_self 0 n)
ceil_fits (pos (suc a)) n f = record { sfits = omega (arith, div-le_self a n, f.sfits) }
ceil_fits (negsuc a) n f = omega (arith, ints, div-le_self (suc a) n, f.sfits)

size_positive : (d : ℤ) → pos 0 <ℤ d → 0 < unsigned_abs d
size_positive d p = omega (arith, ints, p)

-- the ends of a ratio fit 64 bits
ratio_units : (num den : ℤ) (s : ℕ) → unsigned_abs num ≤ 6 * unsigned_abs den → unsigned_abs (num *ℤ pos (2 ^ s)) ≤ (6 * 2 ^ s) * unsigned_abs den
ratio_units num den s h = omega (arith, unsigned_abs-mul num (pos (2 ^ s)), mul-le-mul_right (2 ^ s) h)

pub ratio_low_fits : (s : ℕ) (num den : ℤ) → s ≤ 60 → pos 0 <ℤ den → unsigned_abs num ≤ 6 * unsigned_abs den → FitsSigned w64 (ratio_low s num den)
unfolding ratio_low
ratio_low_fits s num den h p room = fits_signed_from_abs w64 _ (units_fit _ s h (floor-within _ _ _ (size_positive den p) (ratio_units num den s room)))

pub ratio_high_fits : (s : ℕ) (num den : ℤ) → s ≤ 60 → pos 0 <ℤ den → unsigned_abs num ≤ 6 * unsigned_abs den → FitsSigned w64 (ratio_high s num den)
unfolding ratio_high
ratio_high_fits s num den h p room = fits_signed_from_abs w64 _ (units_fit _ s h (ceil-within _ _ _ (size_positive den p) (ratio_units num den s room)))

pub ratio_ordered : (s : ℕ) (num den : ℤ) → pos 0 <ℤ den → ratio_low s num den ≤ℤ ratio_high s num den
unfolding ratio_low ratio_high
ratio_ordered s num den p = floor-ceil _ _ _ (size_positive den p) (≤ℤ_refl _)

pub quotient_ordered : (low high k : ℤ) → low ≤ℤ high → pos 1 ≤ℤ k → floor_over low (unsigned_abs k) ≤ℤ ceil_over high (unsigned_abs k)
quotient_ordered low high k h p = floor-ceil low high (unsigned_abs k) (omega (arith, ints, p)) h

lower-higher : (z : ℤ) (n : ℕ) → (z -ℤ pos n) ≤ℤ (z +ℤ pos n)
lower-higher z n = omega (arith, ints)

pub product_ordered : (s : ℕ) (low high low' high' : ℤ) → product_low s low high low' high' ≤ℤ product_high s low high low' high'
unfolding product_low product_high
product_ordered s low high low' high' =
    floor-ceil _ _ _ (pow_pos (s + 2)) (lower-higher (product_centre low high low' high') (product_spread low high low' high'))

-- ---- whole roots
no_root_between : (q r n : ℕ) → q < r → r * r ≤ n → n < (q + 1) * (q + 1) → ⊥
no_root_between q r n h square next = omega (arith, mul-le (q + 1) (q + 1) r r (omega (arith, h)) (omega (arith, h)), square, next)

root_below : (q r n : ℕ) → r * r ≤ n → n < (q + 1) * (q + 1) → r ≤ q
root_below q r n square next = elim (cases_lt q r) [ inl h ↦ absurd (no_root_between q r n h square next) | inr h ↦ h ]

-- the whole root is the only number between whose square and the next lies n
pub root_only : (r n : ℕ) → r * r ≤ n → n < (r + 1) * (r + 1) → r ≡ root_floor n
root_only r n square next =
    let f = root_floor-is n in
    omega (arith, root_below (root_floor n) r n square f.next, root_below r (root_floor n) n f.square next)
