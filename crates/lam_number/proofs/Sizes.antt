-- The sizes of ends, sums and products, in 64 and 128 bits.
use Rattle.std.proofs.Common.{◌≡◌, refl, ap, inl, inr, ℕ, ◌+◌, ◌*◌, ◌^◌, ◌<◌, ◌≤◌, arith, ℤ, pos, ◌+ℤ◌, ◌*ℤ◌, ◌≤ℤ◌, FitsSigned, unsigned_abs}
use Rattle.std.proofs.lemmas.Int.{unsigned_abs-mul, fits_signed_from_abs}
use Rattle.std.proofs.Math.Nat.{pow-le-pow_right, mul-le-mul_right}
use Rattle.std.proofs.lemmas.Nat.{mul-le}
use Rattle.std.proofs.lemmas.Bool.{cases_lt}
use Rattle.std.specs.Int.{w128}
use Rattle.lam_fraction.specs.numbers.Ends.{reach, width}
use Rattle.lam_fraction.specs.inside.FixedEnds.{product_centre, product_spread}
use Rattle.lam_fraction.proofs.numbers.Sizes.{four_units, product_size}

pub unit_bound : (s : ℕ) → s ≤ 60 → 2 ^ s ≤ 2 ^ 60
unit_bound s h = pow-le-pow_right (omega arith) h

pub product_room : (low high low' high' : ℤ) (u : ℕ) → low ≤ℤ high → low' ≤ℤ high' → reach low high * reach low' high' ≤ 6 * (u * u) → unsigned_abs (product_centre low high low' high') + product_spread low high low' high' ≤ 24 * (u * u)
product_room low high low' high' u h h' room = omega (arith, product_size low high low' high' h h', room)

root_too_great : (r n u : ℕ) → 2 ^ 62 ≤ r → n ≤ 2 ^ 63 → u ≤ 2 ^ 60 → r * r ≤ n * u → ⊥
root_too_great r n u h k l square =
    let a : 2 ^ 62 * 2 ^ 62 ≤ r * r = mul-le _ _ _ _ h h in
    let b : n * u ≤ 2 ^ 63 * 2 ^ 60 = mul-le _ _ _ _ k l in
    omega (arith, a, b, square)

-- a root of an end over a scale
pub root_bound : (r n u s : ℕ) → n ≤ 2 ^ 63 → u ≡ 2 ^ s → s ≤ 60 → r * r ≤ n * u → r < 2 ^ 62
root_bound r n u s k e h square =
    let l : u ≤ 2 ^ 60 = omega (arith, e, unit_bound s h) in
    elim (cases_lt r (2 ^ 62)) [ inl p ↦ p | inr q ↦ absurd (root_too_great r n u q k l square) ]

-- a bound of an end by units
pub units_fit : (n s : ℕ) → s ≤ 60 → n ≤ 6 * 2 ^ s → n < 2 ^ 63
units_fit n s h k = omega (arith, unit_bound s h, k)

pub unit_square : (s : ℕ) → s ≤ 60 → 2 ^ s * 2 ^ s ≤ 2 ^ 120
unit_square s h = mul-le _ _ _ _ (unit_bound s h) (unit_bound s h)

pub units_over : (n s : ℕ) → n ≤ 24 * (2 ^ s * 2 ^ s) → n ≤ (6 * 2 ^ s) * 2 ^ (s + 2)
units_over n s h = omega (arith, h, ap (λ k. (6 * 2 ^ s) * k) (four_units s))

-- both parts of a product, in 128 bits
pub centre_fits : (low high low' high' : ℤ) (s : ℕ) → low ≤ℤ high → low' ≤ℤ high' → s ≤ 60 → reach low high * reach low' high' ≤ 6 * (2 ^ s * 2 ^ s) → FitsSigned w128 ((low +ℤ high) *ℤ (low' +ℤ high'))
unfolding product_centre
centre_fits low high low' high' s h h' k room = fits_signed_from_abs w128 _ (omega (arith, product_room low high low' high' (2 ^ s) h h' room, unit_square s k))

pub spread_room : (low high low' high' : ℤ) (s : ℕ) → low ≤ℤ high → low' ≤ℤ high' → s ≤ 60 → reach low high * reach low' high' ≤ 6 * (2 ^ s * 2 ^ s) → product_spread low high low' high' < 2 ^ 127
spread_room low high low' high' s h h' k room = omega (arith, product_room low high low' high' (2 ^ s) h h' room, unit_square s k)

pub spread_is : (m m' r r' : ℕ) (low high low' high' : ℤ) → m ≡ unsigned_abs (low +ℤ high) → m' ≡ unsigned_abs (low' +ℤ high') → r ≡ width low high → r' ≡ width low' high' → m * r' + m' * r + r * r' ≡ product_spread low high low' high'
unfolding product_spread
spread_is m m' r r' low high low' high' a b d e = rw (a, b, d, e) refl

-- an end of an enclosure whose reach times a number has room
pub times_room : (n r k m : ℕ) → n ≤ r → r * k ≤ m → n * k ≤ m
times_room n r k m h room = omega (arith, mul-le-mul_right k h, room)

-- a numerator in units
pub units_size : (num : ℤ) (s : ℕ) → s ≤ 60 → unsigned_abs num ≤ 2 ^ 66 → unsigned_abs (num *ℤ pos (2 ^ s)) ≤ 2 ^ 126
units_size num s h k = let p : unsigned_abs num * 2 ^ s ≤ 2 ^ 66 * 2 ^ 60 = mul-le _ _ _ _ k (unit_bound s h) in omega (arith, unsigned_abs-mul num (pos (2 ^ s)), p)

-- the square of a reach of at most two units
pub square_room : (r u : ℕ) → r ≤ 2 * u → r * r ≤ 6 * (u * u)
square_room r u h = omega (arith, mul-le r r (2 * u) (2 * u) h h)
