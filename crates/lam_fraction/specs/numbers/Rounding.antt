-- Whole quotients, rounded to either side.
use Rattle.std.specs.Prelude.{ℕ, zero, suc, ◌+◌, ◌*◌, ◌/◌, cond, nat_le, ℤ, pos, negsuc, neg_ℤ}

-- z over n, rounded down
unfoldable pub floor_over : ℤ → ℕ → ℤ
floor_over (pos a) n = pos (a / n)
floor_over (negsuc a) n = negsuc (a / n)

-- z over n, rounded up
unfoldable pub ceil_over : ℤ → ℕ → ℤ
ceil_over z n = neg_ℤ (floor_over (neg_ℤ z) n)

-- the whole root of n, rounded down
unfoldable pub root_floor : ℕ → ℕ
root_floor zero = 0
root_floor (suc n) = let r = root_floor n in cond (nat_le ((r + 1) * (r + 1)) (suc n)) (r + 1) r
