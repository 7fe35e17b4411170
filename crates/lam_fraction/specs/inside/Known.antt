-- What is known of an enclosure inside a formula, by numbers that are computed along it.
use Rattle.std.specs.Prelude.{ℕ, ◌*◌, ◌≤◌, pos}
use Rattle.lam_fraction.specs.Fraction.{ℚ, whole, ◌*ℚ◌, opposite, ◌≤ℚ◌}
use Rattle.lam_fraction.specs.numbers.Numbers.{Numbers, Holds, width}

-- a size in parts of which d make one, and a width in slops over d
pub record Bounds : Type 0 where
  pub size : ℕ
  pub wide : ℕ

-- the enclosure holds x, which is at most size / d in size, and is at most wide / d slops wide
pub record Known {A : Type 0} (n : Numbers A) (d : ℕ) (b : Bounds) (z : A) (x : ℚ) : Type 0 where
  pub held : Holds n z x
  pub narrow : width n z * d ≤ b.wide * n.slop
  pub least : opposite (whole (pos b.size)) ≤ℚ whole (pos d) *ℚ x
  pub most : whole (pos d) *ℚ x ≤ℚ whole (pos b.size)
