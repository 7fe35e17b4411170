-- How far the formulas' ends reach.
use Rattle.std.proofs.Common.{◌≡◌, ap, ℕ, ◌+◌, ◌*◌, ◌^◌, ◌<◌, ◌≤◌, ◌⊎◌, inl, inr, arith, ℤ, pos, ◌+ℤ◌, ◌-ℤ◌, ◌*ℤ◌, ◌≤ℤ◌, ◌<ℤ◌, unsigned_abs, max}
use Rattle.std.proofs.lemmas.Bool.{cases_lt}
use Rattle.std.proofs.lemmas.Int.{ints, unsigned_abs-mul, clamps}
use Rattle.std.proofs.lemmas.Nat.{pow_pos}
use Rattle.std.proofs.Math.Nat.{mul-le-mul_right}
use Rattle.std.specs.Int.{int_min, int_max}
use Rattle.lam_fraction.specs.numbers.Ends.{reach}
use Rattle.lam_fraction.specs.inside.FixedEnds.{product_centre, product_spread, product_low, product_high, ratio_low, ratio_high}
use Rattle.lam_fraction.specs.numbers.Rounding.{floor_over, ceil_over}
use Rattle.lam_fraction.proofs.numbers.Rounded.{floor-size, ceil-size}
use Rattle.lam_fraction.proofs.numbers.Sizes.{low-reach, high-reach, four_units, product_size}

-- ---- within a bound
-- the reach is the size of one of the ends
reach_is : (low high : ℤ) → (reach low high ≡ unsigned_abs low) ⊎ (reach low high ≡ unsigned_abs high)
unfolding reach
reach_is low high = elim (cases_lt (unsigned_abs low) (unsigned_abs high)) [ inl h ↦ inr (omega (arith, h)) | inr h ↦ inl (omega (arith, h)) ]

both_within : (low high : ℤ) (k n : ℕ) → unsigned_abs low * k ≤ n → unsigned_abs high * k ≤ n → reach low high * k ≤ n
both_within low high k n g h = elim (reach_is low high) [ inl e ↦ omega (arith, ap (λ m. m * k) e, g) | inr e ↦ omega (arith, ap (λ m. m * k) e, h) ]

-- ends that are rounded outwards
rounded_far : (low high : ℤ) (n : ℕ) → 0 < n → reach (floor_over low n) (ceil_over high n) * n ≤ reach low high + 2 * n
rounded_far low high n p = both_within (floor_over low n) (ceil_over high n) n _ (omega (arith, floor-size low n p, low-reach low high)) (omega (arith, ceil-size high n p, high-reach low high))

-- ---- the formulas' ends
pub sum_far : (low high low' high' : ℤ) → reach (low +ℤ low') (high +ℤ high') ≤ reach low high + reach low' high' + 2
unfolding reach
sum_far low high low' high' = omega (arith, ints)

pub difference_far : (low high low' high' : ℤ) → reach (low -ℤ high') (high -ℤ low') ≤ reach low high + reach low' high' + 2
unfolding reach
difference_far low high low' high' = omega (arith, ints)

same_reach : (z : ℤ) → reach z z ≡ unsigned_abs z
unfolding reach
same_reach z = omega arith

pub ratio_far : (s : ℕ) (num den : ℤ) → pos 0 <ℤ den → reach (ratio_low s num den) (ratio_high s num den) * unsigned_abs den ≤ unsigned_abs num * 2 ^ s + 2 * unsigned_abs den
unfolding ratio_low ratio_high
ratio_far s num den p =
    let z = num *ℤ pos (2 ^ s) in
    let positive : 0 < unsigned_abs den = omega (arith, ints, p) in
    omega (arith, rounded_far z z (unsigned_abs den) positive, same_reach z, unsigned_abs-mul num (pos (2 ^ s)))

spread_far : (centre : ℤ) (spread : ℕ) → reach (centre -ℤ pos spread) (centre +ℤ pos spread) ≤ unsigned_abs centre + spread
unfolding reach
spread_far centre spread = omega (arith, ints)

pub product_far : (s : ℕ) (low high low' high' : ℤ) → low ≤ℤ high → low' ≤ℤ high' → reach (product_low s low high low' high') (product_high s low high low' high') * 2 ^ s ≤ reach low high * reach low' high' + 2 * 2 ^ s
unfolding product_low product_high
product_far s low high low' high' h k =
    let c = product_centre low high low' high' in
    let e = product_spread low high low' high' in
    let r = reach (product_low s low high low' high') (product_high s low high low' high') in
    omega (
      arith,
      rounded_far (c -ℤ pos e) (c +ℤ pos e) (2 ^ (s + 2)) (pow_pos (s + 2)),
      spread_far c e,
      product_size low high low' high' h k,
      ap (λ n. r * n) (four_units s),
      four_units s,
    )

min-max-reach : (x y : ℤ) (n : ℕ) → unsigned_abs x ≤ n → unsigned_abs y ≤ n → reach (int_min x y) (int_max x y) ≤ n
unfolding reach
min-max-reach x y n h k = omega (arith, ints, clamps, h, k)

pub times_far : (low high k : ℤ) → reach (int_min (low *ℤ k) (high *ℤ k)) (int_max (low *ℤ k) (high *ℤ k)) ≤ reach low high * unsigned_abs k + 2
times_far low high k =
    let n = unsigned_abs k in
    min-max-reach (low *ℤ k) (high *ℤ k) _
    (omega (arith, unsigned_abs-mul low k, mul-le-mul_right n (low-reach low high)))
    (omega (arith, unsigned_abs-mul high k, mul-le-mul_right n (high-reach low high)))

pub quotient_far : (low high k : ℤ) → pos 1 ≤ℤ k → reach (floor_over low (unsigned_abs k)) (ceil_over high (unsigned_abs k)) * unsigned_abs k ≤ reach low high + 2 * unsigned_abs k
quotient_far low high k p = let positive : 0 < unsigned_abs k = omega (arith, ints, p) in rounded_far low high (unsigned_abs k) positive

pub hull_far : (low high low' high' : ℤ) → reach (int_min low low') (int_max high high') ≤ max (reach low high) (reach low' high') + 2
unfolding reach
hull_far low high low' high' = omega (arith, ints, clamps)

-- ---- a high end that is raised to the low one where it is below it
raised : (low high : ℤ) → reach low (int_max low high) ≤ reach low high
unfolding reach
raised low high = omega (arith, ints, clamps)

pub raised_reach : (low high : ℤ) (n : ℕ) → reach low high ≤ n → reach low (int_max low high) ≤ n
raised_reach low high n h = omega (arith, h, raised low high)

pub raised_scaled_reach : (low high : ℤ) (k n : ℕ) → reach low high * k ≤ n → reach low (int_max low high) * k ≤ n
raised_scaled_reach low high k n h = omega (arith, h, mul-le-mul_right k (raised low high))
