-- What the calls need of their arguments.
use Rattle.std.specs.Prelude.{◌≡◌, ℕ, ◌*◌, ◌+◌, ◌^◌, ℤ, pos, ◌≤ℤ◌}
use Rattle.lam_fraction.specs.numbers.Numbers.{Numbers}
use Rattle.lam_fraction.specs.inside.Reaches.{Reaches, sixteenths}
use Rattle.lam_fraction.specs.inside.Size.{AtMost}
use Rattle.lam_stock.specs.declared.scale.Scale.{Scale}
use Rattle.lam_job.specs.declared.load.Load.{Load}
use Rattle.lam_job.specs.LoadRange.{LoadInRange}
use Rattle.lam_wall.specs.declared.wall.Wall.{Wall}
use Rattle.lam_wall.specs.Assembled.{IsWallOf}
use Rattle.lam_solve.specs.declared.six.Six.{Six}
use Rattle.lam_solve.specs.declared.six.Ends.{Ends}
use Rattle.lam_solve.specs.declared.strains.Guess.{Guess}
use Rattle.lam_solve.specs.inside.Formulas as formulas

-- ---- a scale, a thickness and a load

pub record IsScaled (scale : Scale) : Type 0 where
  pub above : pos 1 ≤ℤ scale.q0
  pub most : scale.q0 ≤ℤ pos 2097152
  pub floor : pos 500 ≤ℤ scale.floor
  pub order : scale.floor ≤ℤ scale.q0

pub record IsPosed (scale : Scale) (h : ℤ) (load : Load) : Type 0 where
  pub scaled : IsScaled scale
  pub thick : pos 1 ≤ℤ h
  pub thin : h ≤ℤ pos 1280000
  pub range : LoadInRange scale.floor h load

-- the forces and moments are those of a load in range, on a wall of a catalogue's plies
pub record AreLoadsOn {A : Type 0} (n : Numbers A) (w : Wall A) (loads : Six A) : Type 0 where
  pub scale : Scale
  pub load : Load
  pub wall : IsWallOf n scale w
  pub range : LoadInRange scale.floor w.h load
  pub are : loads ≡ formulas.loads n.calc scale.q0 w.h load

-- ---- sizes, in 64 and in 128 bits

-- both ends are at most 2^61 in size
pub record SmallEntry {A : Type 0} (n : Numbers A) (z : A) : Type 0 where
  pub low : AtMost (2 ^ 61) (n.low z)
  pub high : AtMost (2 ^ 61) (n.high z)

pub record SmallRow {A : Type 0} (n : Numbers A) (row : Six A) : Type 0 where
  pub ex : SmallEntry n row.ex
  pub ey : SmallEntry n row.ey
  pub g : SmallEntry n row.g
  pub kx : SmallEntry n row.kx
  pub ky : SmallEntry n row.ky
  pub kg : SmallEntry n row.kg

abbrev pub SmallLoads : {A : Type 0} → Numbers A → Six A → Type 0
SmallLoads n loads = SmallRow n loads

pub record SmallGuess (guess : Guess) : Type 0 where
  pub ex : AtMost (2 ^ 62) guess.ex
  pub ey : AtMost (2 ^ 62) guess.ey
  pub g : AtMost (2 ^ 62) guess.g
  pub kx : AtMost (2 ^ 62) guess.kx
  pub ky : AtMost (2 ^ 62) guess.ky
  pub kg : AtMost (2 ^ 62) guess.kg

pub record SmallEnds (most : ℕ) (ends : Ends) : Type 0 where
  pub low : AtMost most ends.low
  pub high : AtMost most ends.high

pub record SmallResidual (residual : Six Ends) : Type 0 where
  pub ex : SmallEnds (50 * 2 ^ 120) residual.ex
  pub ey : SmallEnds (50 * 2 ^ 120) residual.ey
  pub g : SmallEnds (50 * 2 ^ 120) residual.g
  pub kx : SmallEnds (50 * 2 ^ 120) residual.kx
  pub ky : SmallEnds (50 * 2 ^ 120) residual.ky
  pub kg : SmallEnds (50 * 2 ^ 120) residual.kg

-- ---- a place over the thickness of the wall, at most 1 in size

abbrev pub IsPart : {A : Type 0} → Numbers A → A → Type 0
IsPart n z = Reaches n (sixteenths 16 + 4) z
