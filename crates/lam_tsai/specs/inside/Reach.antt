-- How far the numbers on the way reach, which is all that the calls need: in sixteenths of one, and some slops more.
use Rattle.std.specs.Prelude.{◌+◌, ◌^◌, ℤ, pos, ◌*ℤ◌, ◌≤ℤ◌}
use Rattle.lam_fraction.specs.numbers.Numbers.{Numbers}
use Rattle.lam_fraction.specs.inside.Reaches.{Reaches, sixteenths}
use Rattle.lam_stock.specs.Limits.{IsStrength}
use Rattle.lam_lamina.specs.inside.Known.{ReachModuli}
use Rattle.lam_tsai.specs.declared.angle.Angle.{Angle}
use Rattle.lam_tsai.specs.declared.coefficients.Coefficients.{Coefficients}
use Rattle.lam_tsai.specs.declared.components.Components.{Components}
use Rattle.lam_tsai.specs.declared.criterion.Criterion.{Criterion}
use Rattle.lam_tsai.specs.declared.loaded.Round.{Round}

pub record ReachAngle {A : Type 0} (n : Numbers A) (a : Angle A) : Type 0 where
  pub cosine_square : Reaches n (sixteenths 16 + 4) a.cosine_square
  pub sine_square : Reaches n (sixteenths 16 + 4) a.sine_square
  pub product : Reaches n (sixteenths 16 + 4) a.product
  pub difference : Reaches n (sixteenths 16 + 4) a.difference

pub record ReachCoefficients {A : Type 0} (n : Numbers A) (c : Coefficients A) : Type 0 where
  pub along : Reaches n (sixteenths 1 + 4) c.along
  pub across : Reaches n (sixteenths 1 + 4) c.across
  pub along_square : Reaches n (sixteenths 16 + 4) c.along_square
  pub across_square : Reaches n (sixteenths 16 + 4) c.across_square
  pub mixed : Reaches n (sixteenths 28 + 4) c.mixed
  pub one : Reaches n (2 ^ 16 + 4) c.one

-- of an eighth of a strain of the wall, in ply axes
pub record ReachStrain {A : Type 0} (n : Numbers A) (e : Components A) : Type 0 where
  pub along : Reaches n (sixteenths 36 + 64) e.along
  pub across : Reaches n (sixteenths 36 + 64) e.across
  pub shear : Reaches n (sixteenths 60 + 128) e.shear

-- of an eighth of a stress over q0
pub record ReachStress {A : Type 0} (n : Numbers A) (t : Components A) : Type 0 where
  pub along : Reaches n (sixteenths 72 + 256) t.along
  pub across : Reaches n (sixteenths 72 + 256) t.across
  pub shear : Reaches n (sixteenths 72 + 256) t.shear

-- of a middle, and of the distances from it
pub record ReachRound {A : Type 0} (n : Numbers A) (y : Round A) : Type 0 where
  pub middle : Reaches n (sixteenths 18 + 8) y.middle
  pub spread : Reaches n (sixteenths 1 + 8) y.spread

pub record ReachMiddle {A : Type 0} (n : Numbers A) (m : Components A) : Type 0 where
  pub along : Reaches n (sixteenths 18 + 8) m.along
  pub across : Reaches n (sixteenths 18 + 8) m.across
  pub shear : Reaches n (sixteenths 18 + 8) m.shear

pub record ReachSpread {A : Type 0} (n : Numbers A) (d : Components A) : Type 0 where
  pub along : Reaches n (sixteenths 1 + 8) d.along
  pub across : Reaches n (sixteenths 1 + 8) d.across
  pub shear : Reaches n (sixteenths 1 + 8) d.shear

-- a strength, and the loads up to a factor of 20 that it bears over two to the power of 24
pub record Bears (q0 x : ℤ) : Type 0 where
  pub strength : IsStrength x
  pub room : (q0 *ℤ pos 20000) ≤ℤ (pos (2 ^ 25) *ℤ x)

pub record ReachCriterion {A : Type 0} (n : Numbers A) (c : Criterion A) : Type 0 where
  pub reduced : ReachModuli n c.reduced
  pub plus : ReachAngle n c.plus
  pub minus : ReachAngle n c.minus
  pub coefficients : ReachCoefficients n c.coefficients
  pub along : Bears c.q0 c.along
  pub across : Bears c.q0 c.across
  pub shear : Bears c.q0 c.shear
  pub least : pos 0 ≤ℤ c.q0
  pub greatest : c.q0 ≤ℤ pos 4194304
