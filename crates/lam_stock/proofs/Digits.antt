-- How large a number of a few digits is.
use Rattle.std.proofs.Common.{ℕ, ◌^◌, ◌<◌, ◌≤◌, arith}
use Rattle.std.proofs.Math.Nat.{pow-le-pow_right}

-- a number of at most n digits is below the power of ten of more digits
pub below_power : (v k n : ℕ) → v < 10 ^ k → k ≤ n → v < 10 ^ n
below_power v k n small few =
    let more : 10 ^ k ≤ 10 ^ n = pow-le-pow_right {n = 10} (omega arith) few in omega arith
