-- How far the numbers of a plate reach, so that each call has room.
use Rattle.std.specs.Prelude.{◌+◌, ◌*◌, ◌^◌, ◌≤◌, ℤ, pos, ◌*ℤ◌, ◌≤ℤ◌, ◌<ℤ◌}
use Rattle.lam_fraction.specs.numbers.Numbers.{Numbers}
use Rattle.lam_fraction.specs.inside.Reaches.{Reaches, sixteenths}
use Rattle.lam_lamina.specs.declared.stiffness.Sym3.{Sym3}
use Rattle.lam_job.specs.Ranges.{IsFrom}
use Rattle.lam_plate.specs.declared.wave.Bending.{Bending}
use Rattle.lam_plate.specs.declared.plate.Plate.{Plate}

-- the entries that bending a plate takes are at most 2 in size
pub record ReachMatrix {A : Type 0} (n : Numbers A) (d : Sym3 A) : Type 0 where
  pub xx : Reaches n (sixteenths 32) d.xx
  pub xy : Reaches n (sixteenths 32) d.xy
  pub yy : Reaches n (sixteenths 32) d.yy
  pub ss : Reaches n (sixteenths 32) d.ss

pub record ReachBending {A : Type 0} (n : Numbers A) (b : Bending A) : Type 0 where
  pub along : Reaches n (sixteenths 8 + 4) b.along
  pub mixed : Reaches n (sixteenths 48 + 8) b.mixed
  pub across : Reaches n (sixteenths 8 + 4) b.across

-- the square of a length or width in mm
abbrev pub IsSideSquare : ℤ → Type 0
IsSideSquare z = IsFrom (pos 2500) (pos 400000000) z

-- the numbers of a plate are in range
pub record IsPlate {A : Type 0} (n : Numbers A) (p : Plate A) : Type 0 where
  pub bending : ReachBending n p.bending
  pub length : IsSideSquare p.length_square
  pub width : IsSideSquare p.width_square
  pub some_waves : 1 ≤ p.waves
  pub few_waves : p.waves ≤ 1903
  pub least_load : pos 0 ≤ℤ p.load
  pub most_load : p.load ≤ℤ pos 4494400000000000000000000
  pub shifted_load : (pos 20000 *ℤ p.load) <ℤ pos (2 ^ 62 * 2 ^ p.shift)
  pub few_bits : p.shift ≤ 66
  pub least_stiffness : pos 0 ≤ℤ p.stiffness
  pub most_stiffness : p.stiffness <ℤ pos (2 ^ 62)
