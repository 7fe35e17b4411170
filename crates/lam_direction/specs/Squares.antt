-- The whole numbers from which the squares and the product of a direction's cosine and sine come.
use Rattle.std.specs.Prelude.{◌≤◌, pos, ◌*ℤ◌, ◌≤ℤ◌, unsigned_abs}
use Rattle.lam_direction.specs.Circle.{CirclePoint}
use Rattle.lam_direction.specs.declared.squares.DirectionSquares.{DirectionSquares}

-- p², q², q p and h²
abbrev pub squares_of : CirclePoint → DirectionSquares
squares_of d = record { cosine_square = d.p *ℤ d.p; sine_square = d.q *ℤ d.q; product = d.q *ℤ d.p; size = d.h *ℤ d.h }

-- the size is from 1 to a million, and the others do not exceed it
pub record AreWithinSize (t : DirectionSquares) : Type 0 where
  pub least : pos 1 ≤ℤ t.size
  pub greatest : t.size ≤ℤ pos 1000000
  pub cosine_square : unsigned_abs t.cosine_square ≤ unsigned_abs t.size
  pub sine_square : unsigned_abs t.sine_square ≤ unsigned_abs t.size
  pub product : unsigned_abs t.product ≤ unsigned_abs t.size
