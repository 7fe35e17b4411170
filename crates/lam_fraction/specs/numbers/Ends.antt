-- The two ends of an enclosure, whole numbers over a power of two.
use Rattle.std.specs.Prelude.{ℕ, ℤ, ◌-ℤ◌, unsigned_abs, max}

-- the greater size of the two ends
unfoldable pub reach : ℤ → ℤ → ℕ
reach low high = max (unsigned_abs low) (unsigned_abs high)

-- how far the two ends are apart
unfoldable pub width : ℤ → ℤ → ℕ
width low high = unsigned_abs (high -ℤ low)
