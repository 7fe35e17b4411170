-- How wide the formulas' ends are.
use Rattle.std.proofs.Common.{◌⊎◌, inl, inr, ◌≡◌, refl, sym, ap, ◌∙◌, subst, ℕ, zero, suc, ◌+◌, ◌*◌, ◌^◌, ◌<◌, ◌≤◌, arith, ℤ, pos, neg_ℤ, ◌+ℤ◌, ◌-ℤ◌, ◌*ℤ◌, ◌≤ℤ◌, ◌<ℤ◌, unsigned_abs}
use Rattle.std.proofs.lemmas.Int.{ints, unsigned_abs-mul, clamps}
use Rattle.std.proofs.Math.Nat.{le_of_mul-le-mul_right, mul-le-mul_right}
use Rattle.std.proofs.lemmas.Nat.{pow_pos}
use Rattle.std.specs.Int.{int_min, int_max}
use Rattle.lam_fraction.proofs.Laws.{integers}
use Rattle.lam_fraction.proofs.Expression.{◌⊖◌, ◌⊗◌}
use Rattle.lam_fraction.proofs.Solver as Solver
use Rattle.lam_fraction.proofs.Solver.{◌≐◌}
use Rattle.lam_fraction.specs.numbers.Ends.{reach, width}
use Rattle.lam_fraction.specs.inside.FixedEnds.{product_centre, product_spread, product_low, product_high, ratio_low, ratio_high}
use Rattle.lam_fraction.specs.numbers.Rounding.{floor_over, ceil_over, root_floor}
use Rattle.lam_fraction.proofs.numbers.Rounded.{floor-ceil, floor-near, ceil-near, root_floor-is}
use Rattle.lam_fraction.proofs.numbers.Sizes.{middle-width, four_units}

-- ---- widths
-- an ordered pair's width, as a whole number
pub width-pos : (low high : ℤ) → low ≤ℤ high → pos (width low high) ≡ high -ℤ low
unfolding width
width-pos low high h = omega (arith, ints)

scaled_gap : (f c n : ℤ) → c *ℤ n -ℤ f *ℤ n ≡ (c -ℤ f) *ℤ n
scaled_gap = Solver.solve integers 3 (λ f c n. c ⊗ n ⊖ f ⊗ n ≐ (c ⊖ f) ⊗ n) refl

-- rounding both ends outwards adds two at most
pub rounded_width : (low high : ℤ) (n : ℕ) → 0 < n → low ≤ℤ high → width (floor_over low n) (ceil_over high n) * n ≤ width low high + 2 * n
rounded_width low high n p h =
    let f = floor_over low n in
    let c = ceil_over high n in
    let w : pos (width f c) ≡ c -ℤ f = width-pos f c (floor-ceil low high n p h) in
    let gap : pos (width f c) *ℤ pos n ≡ c *ℤ pos n -ℤ f *ℤ pos n = ap (λ z. z *ℤ pos n) w ∙ sym (scaled_gap f c (pos n)) in
    omega (arith, ints, gap, width-pos low high h, floor-near low n p, ceil-near high n p)

width-same : (z : ℤ) → width z z ≡ 0
unfolding width
width-same z = omega (arith, ints)

pub ratio_width : (s : ℕ) (num den : ℤ) → pos 0 <ℤ den → width (ratio_low s num den) (ratio_high s num den) ≤ 2
unfolding ratio_low ratio_high
ratio_width s num den p =
    let n = unsigned_abs den in
    let z = num *ℤ pos (2 ^ s) in
    let q : 0 < n = omega (arith, ints, p) in
    let same : z ≤ℤ z = omega (arith, ints) in
    let w = width (floor_over z n) (ceil_over z n) in
    let bound : w * n ≤ 2 * n = omega (arith, rounded_width z z n q same, width-same z) in
    le_of_mul-le-mul_right bound q

pub sum_width : (low high low' high' : ℤ) → low ≤ℤ high → low' ≤ℤ high' → width (low +ℤ low') (high +ℤ high') ≤ width low high + width low' high' + 2
unfolding width
sum_width low high low' high' h k = omega (arith, ints)

pub difference_width : (low high low' high' : ℤ) → low ≤ℤ high → low' ≤ℤ high' → width (low -ℤ high') (high -ℤ low') ≤ width low high + width low' high' + 2
unfolding width
difference_width low high low' high' h k = omega (arith, ints)

-- the spread, against the reaches and the widths
spread_bound : (m m' r r' p p' : ℕ) → m + r ≡ 2 * p → m' + r' ≡ 2 * p' → 2 * (m * r' + m' * r + r * r') ≤ 4 * (p * r' + p' * r)
spread_bound m m' r r' p p' e f = omega (arith, ap (λ n. n * r') e, ap (λ n. n * r) f)

spread_width : (centre : ℤ) (spread : ℕ) → width (centre -ℤ pos spread) (centre +ℤ pos spread) ≡ 2 * spread
unfolding width
spread_width centre spread = omega (arith, ints)

pub product_width : (s : ℕ) (low high low' high' : ℤ) → low ≤ℤ high → low' ≤ℤ high' → width (product_low s low high low' high') (product_high s low high low' high') * 2 ^ s ≤ reach low high * width low' high' + reach low' high' * width low high + 2 * 2 ^ s
unfolding product_low product_high product_spread
product_width s low high low' high' h k =
    let c = product_centre low high low' high' in
    let e = product_spread low high low' high' in
    let r = rounded_width (c -ℤ pos e) (c +ℤ pos e) (2 ^ (s + 2)) (pow_pos (s + 2)) (omega (arith, ints)) in
    let w = width (product_low s low high low' high') (product_high s low high low' high') in
    omega (
      arith,
      r,
      spread_width c e,
      ap (λ n. w * n) (four_units s),
      four_units s,
      spread_bound (unsigned_abs (low +ℤ high)) (unsigned_abs (low' +ℤ high')) (width low high) (width low' high') (reach low high) (reach low' high') (middle-width low high h) (middle-width low' high' k),
    )

pub square_width : (s : ℕ) (low high : ℤ) → low ≤ℤ high → width (product_low s low high low high) (product_high s low high low high) * 2 ^ s ≤ 2 * (reach low high * width low high) + 2 * 2 ^ s
square_width s low high h = omega (arith, product_width s low high low high h h)

-- ---- multiples
times_gap : (low high k : ℤ) → high *ℤ k -ℤ low *ℤ k ≡ (high -ℤ low) *ℤ k
times_gap = Solver.solve integers 3 (λ low high k. high ⊗ k ⊖ low ⊗ k ≐ (high ⊖ low) ⊗ k) refl

min-max-width : (x y : ℤ) → width (int_min x y) (int_max x y) ≡ unsigned_abs (y -ℤ x)
unfolding width
min-max-width x y = omega (arith, ints, clamps)

pub times_width : (low high k : ℤ) → width (int_min (low *ℤ k) (high *ℤ k)) (int_max (low *ℤ k) (high *ℤ k)) ≤ width low high * unsigned_abs k + 2
unfolding width
times_width low high k =
    omega (arith, min-max-width (low *ℤ k) (high *ℤ k), ap unsigned_abs (times_gap low high k), unsigned_abs-mul (high -ℤ low) k)

-- ---- roots
square_step : (k : ℕ) → (suc k * suc k) + 1 ≤ suc (suc k) * suc (suc k)
square_step k = omega arith

-- one above the whole root: at most two, or its square less two is below the number
pub root_near : (r n : ℕ) → r * r ≤ n → (pos (r + 1) ≤ℤ pos 2) ⊎ (((pos (r + 1) -ℤ pos 2) *ℤ (pos (r + 1) -ℤ pos 2)) <ℤ pos n)
root_near zero n h = inl (omega (arith, ints))
root_near (suc zero) n h = inl (omega (arith, ints))
root_near (suc (suc k)) n h =
    let e : pos (suc (suc k) + 1) -ℤ pos 2 ≡ pos (suc k) = omega (arith, ints) in
    let square : (pos (suc k) *ℤ pos (suc k)) <ℤ pos n = omega (arith, ints, square_step k, h) in
    inr (subst (λ z. (z *ℤ z) <ℤ pos n) (sym e) square)

pub quotient_width : (low high k : ℤ) → low ≤ℤ high → pos 1 ≤ℤ k → width (floor_over low (unsigned_abs k)) (ceil_over high (unsigned_abs k)) * unsigned_abs k ≤ width low high + 2 * unsigned_abs k
quotient_width low high k h p = let q : 0 < unsigned_abs k = omega (arith, ints, p) in rounded_width low high (unsigned_abs k) q h

pub root_bounds : (s : ℕ) (high : ℤ) → pos 0 ≤ℤ high → let end = int_max (pos 0) (pos (root_floor (unsigned_abs high * 2 ^ s) + 1)) in
    (end ≤ℤ pos 2) ⊎ (((end -ℤ pos 2) *ℤ (end -ℤ pos 2)) <ℤ (high *ℤ pos (2 ^ s)))
root_bounds s high h =
    let n = unsigned_abs high * 2 ^ s in
    let size : high ≡ pos (unsigned_abs high) = omega (arith, ints, h) in
    let product : high *ℤ pos (2 ^ s) ≡ pos n = ap (λ z. z *ℤ pos (2 ^ s)) size in
    let end : int_max (pos 0) (pos (root_floor n + 1)) ≡ pos (root_floor n + 1) = omega (arith, ints, clamps) in
    subst (λ z. (z ≤ℤ pos 2) ⊎ (((z -ℤ pos 2) *ℤ (z -ℤ pos 2)) <ℤ (high *ℤ pos (2 ^ s)))) (sym end)
    (subst (λ z. (pos (root_floor n + 1) ≤ℤ pos 2) ⊎ (((pos (root_floor n + 1) -ℤ pos 2) *ℤ (pos (root_floor n + 1) -ℤ pos 2)) <ℤ z)) (sym product)
    (root_near (root_floor n) n (root_floor-is n).square))

pub root_least : neg_ℤ (pos 2) ≤ℤ pos 0
root_least = omega (arith, ints)

-- ---- hulls
pub hull_width : (low high low' high' : ℤ) → width (int_min low low') (int_max high high') ≤ width (int_min low low') (int_max high high') + 2
hull_width low high low' high' = omega arith

-- ---- a high end that is raised to the low one where it is below it
raised : (low high : ℤ) → width low (int_max low high) ≤ width low high
unfolding width
raised low high = omega (arith, ints, clamps)

pub raised_width : (low high : ℤ) (n : ℕ) → width low high ≤ n → width low (int_max low high) ≤ n
raised_width low high n h = omega (arith, h, raised low high)

pub raised_scaled_width : (low high : ℤ) (k n : ℕ) → width low high * k ≤ n → width low (int_max low high) * k ≤ n
raised_scaled_width low high k n h = omega (arith, h, mul-le-mul_right k (raised low high))
