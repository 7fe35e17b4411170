-- How far the enclosures inside the formulas reach, a slop past their sizes, and how large whole numbers are.
use Rattle.std.specs.Prelude.{◌≡◌, ℕ, ◌+◌, ◌+ℤ◌, ◌*ℤ◌}
use Rattle.lam_direction.specs.declared.squares.DirectionSquares.{DirectionSquares}
use Rattle.lam_fraction.specs.numbers.Numbers.{Numbers}
use Rattle.lam_fraction.specs.inside.Size.{AtMost}
use Rattle.lam_fraction.specs.inside.Reaches.{Reaches, sixteenths}
use Rattle.lam_support.specs.declared.slopes.PlyWeight.{PlyWeight}
use Rattle.lam_support.specs.declared.slopes.Slopes.{Slopes}
use Rattle.lam_support.specs.declared.surface.Surface.{Surface}

pub record ReachSlopes {A : Type 0} (n : Numbers A) (s : Slopes A) : Type 0 where
  pub along : Reaches n (sixteenths 16 + 4) s.along
  pub across : Reaches n (sixteenths 16 + 4) s.across
  pub shear : Reaches n (sixteenths 16 + 4) s.shear

pub record ReachSurface {A : Type 0} (n : Numbers A) (s : Surface A) : Type 0 where
  pub along : Reaches n (sixteenths 4 + 4) s.along
  pub across : Reaches n (sixteenths 4 + 4) s.across
  pub coupling : Reaches n (sixteenths 4 + 4) s.coupling
  pub rest : Reaches n (sixteenths 17 + 256) s.rest
  pub shift_along : Reaches n (sixteenths 16 + 4) s.shift_along
  pub shift_across : Reaches n (sixteenths 16 + 4) s.shift_across

-- none of the three is larger
pub record AreSmall (most : ℕ) (w : PlyWeight) : Type 0 where
  pub along : AtMost most w.along
  pub across : AtMost most w.across
  pub shear : AtMost most w.shear

-- the squares of a cosine and a sine and their product
pub record OnCircle (t : DirectionSquares) : Type 0 where
  pub sum : t.cosine_square +ℤ t.sine_square ≡ t.size
  pub product : t.product *ℤ t.product ≡ t.cosine_square *ℤ t.sine_square
