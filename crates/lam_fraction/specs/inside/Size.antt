-- The size of a whole number.
use Rattle.std.specs.Prelude.{ℕ, ◌≤◌, ℤ, unsigned_abs}

pub record AtMost (n : ℕ) (z : ℤ) : Type 0 where
  pub size : unsigned_abs z ≤ n
