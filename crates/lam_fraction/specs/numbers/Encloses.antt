-- What an enclosure holds: every number that lies from its low end to its high end, over two to the power of its scale.
use Rattle.std.specs.Prelude.{ℕ, ◌^◌, ℤ, pos}
use Rattle.lam_fraction.specs.Fraction.{ℚ, whole, ◌*ℚ◌, ◌≤ℚ◌}

pub record Encloses (scale : ℕ) (low high : ℤ) (x : ℚ) : Type 0 where
  pub from : whole low ≤ℚ x *ℚ whole (pos (2 ^ scale))
  pub to : x *ℚ whole (pos (2 ^ scale)) ≤ℚ whole high
