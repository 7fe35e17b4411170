-- Whole numbers, cut and rounded.
use Rattle.std.specs.Prelude.{ℕ, ◌+◌, ◌-◌, ◌/◌, ℤ, neg_ℤ}
use Rattle.std.specs.Int.{int_min, int_max}

-- a number, or the nearest that is at most so large
abbrev pub cut : ℤ → ℤ → ℤ
cut most z = int_max (int_min z most) (neg_ℤ most)

-- m over k, rounded up
abbrev pub over_up : ℕ → ℕ → ℕ
over_up m k = (m + (k - 1)) / k
