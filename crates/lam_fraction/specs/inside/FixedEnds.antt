-- The ends that fixed point arithmetic gives, from the ends of its arguments.
-- A product is taken round the doubled middles: m is the sum of the ends and r their distance, and
-- four times a product lies within |m| r' + |m'| r + r r' of m m'.
use Rattle.std.specs.Prelude.{ℕ, ◌+◌, ◌*◌, ◌^◌, ◌≤◌, ℤ, pos, ◌+ℤ◌, ◌-ℤ◌, ◌*ℤ◌, unsigned_abs}
use Rattle.lam_fraction.specs.numbers.Ends.{width}
use Rattle.lam_fraction.specs.numbers.Rounding.{floor_over, ceil_over}

-- a scale that fixed point arithmetic serves
abbrev pub IsScale : ℕ → Type 0
IsScale s = (28 ≤ s) × (s ≤ 60)

-- the product of the doubled middles
unfoldable pub product_centre : ℤ → ℤ → ℤ → ℤ → ℤ
product_centre low high low' high' = (low +ℤ high) *ℤ (low' +ℤ high')

-- how far four times a product of held numbers lies from it at most
unfoldable pub product_spread : ℤ → ℤ → ℤ → ℤ → ℕ
product_spread low high low' high' =
    unsigned_abs (low +ℤ high) * width low' high' + unsigned_abs (low' +ℤ high') * width low high
    + width low high * width low' high'

-- the ends of a product: what lies within the spread of the centre, over four units
unfoldable pub product_low : ℕ → ℤ → ℤ → ℤ → ℤ → ℤ
product_low s low high low' high' =
    floor_over (product_centre low high low' high' -ℤ pos (product_spread low high low' high')) (2 ^ (s + 2))

unfoldable pub product_high : ℕ → ℤ → ℤ → ℤ → ℤ → ℤ
product_high s low high low' high' =
    ceil_over (product_centre low high low' high' +ℤ pos (product_spread low high low' high')) (2 ^ (s + 2))

-- the ends of a ratio
unfoldable pub ratio_low : ℕ → ℤ → ℤ → ℤ
ratio_low s num den = floor_over (num *ℤ pos (2 ^ s)) (unsigned_abs den)

unfoldable pub ratio_high : ℕ → ℤ → ℤ → ℤ
ratio_high s num den = ceil_over (num *ℤ pos (2 ^ s)) (unsigned_abs den)
