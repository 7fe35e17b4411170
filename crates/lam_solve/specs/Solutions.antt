-- What the enclosed strains of a wall hold, and how far they reach.
use Rattle.std.specs.Prelude.{ℕ, ◌*◌, ◌<◌, ◌≤◌, ◌⊎◌, ℤ, unsigned_abs, List}
use Rattle.lam_fraction.specs.numbers.Numbers.{Numbers, Holds, reach, unit}
use Rattle.lam_stock.specs.declared.item.Item.{Item}
use Rattle.lam_stock.specs.declared.item.ItemNo.{ItemNo}
use Rattle.lam_stock.specs.declared.scale.Scale.{Scale}
use Rattle.lam_stock.specs.PlyLaw.{OffAxis}
use Rattle.lam_number.specs.declared.strength.FaceStrain.{FaceStrain}
use Rattle.lam_job.specs.declared.load.Load.{Load}
use Rattle.lam_job.specs.Equilibrium.{Solves}
use Rattle.lam_job.specs.LaminateStrain.{LaminateStrain}
use Rattle.lam_job.specs.Schedule.{items_of}
use Rattle.lam_job.specs.Wall.{wall_thickness}
use Rattle.lam_wall.specs.declared.wall.Wall.{Wall}
use Rattle.lam_wall.specs.Assembled.{StandsFor}
use Rattle.lam_wall.specs.Matrices.{bending_strain}
use Rattle.lam_solve.specs.declared.strains.Strains.{Strains}
use Rattle.lam_solve.specs.declared.strains.Guess.{Guess}

-- ---- what is held

-- the six hold a laminate strain of a wall of thickness h in µm: the strains of its mid-plane, and those that its
-- curvatures add at the outer surface
pub record HoldsStrains {A : Type 0} (n : Numbers A) (strains : Strains A) (h : ℤ) (f : LaminateStrain) : Type 0 where
  pub ex : Holds n strains.ex f.mid_plane.x
  pub ey : Holds n strains.ey f.mid_plane.y
  pub g : Holds n strains.g f.mid_plane.s
  pub kx : Holds n strains.kx (bending_strain h f.curvature).x
  pub ky : Holds n strains.ky (bending_strain h f.curvature).y
  pub kg : Holds n strains.kg (bending_strain h f.curvature).s

-- every laminate strain of a wall under a load lies in the six
pub record HoldsEverySolution {A : Type 0} (n : Numbers A) (strains : Strains A) (wall : List Item) (load : Load) : Type 0 where
  pub each : (f : LaminateStrain) → Solves wall load f → HoldsStrains n strains (wall_thickness wall) f

-- something is so of the plies of each wall that the enclosed matrices stand for
abbrev pub ForEachWall : {A : Type 0} → Numbers A → Wall A → Scale → (List Item → Type 0) → Type 0
ForEachWall n w scale So = (stock : List Item) (numbers : List ItemNo) → StandsFor n w scale stock numbers → So (items_of stock numbers)

-- the three hold a strain at a face
pub record HoldsAtFace {A : Type 0} (n : Numbers A) (strains : FaceStrain A) (e : OffAxis) : Type 0 where
  pub ex : Holds n strains.ex e.x
  pub ey : Holds n strains.ey e.y
  pub g : Holds n strains.g e.s

-- ---- how far they reach

-- an enclosure reaches at most 11/4
abbrev pub IsShort : {A : Type 0} → Numbers A → A → Type 0
IsShort n z = 4 * reach n z ≤ 11 * unit n

-- each of the six does
pub record AreShort {A : Type 0} (n : Numbers A) (strains : Strains A) : Type 0 where
  pub ex : IsShort n strains.ex
  pub ey : IsShort n strains.ey
  pub g : IsShort n strains.g
  pub kx : IsShort n strains.kx
  pub ky : IsShort n strains.ky
  pub kg : IsShort n strains.kg

-- each of the three strains at a face reaches at most 6
pub record ReachesSix {A : Type 0} (n : Numbers A) (strains : FaceStrain A) : Type 0 where
  pub ex : reach n strains.ex ≤ 6 * unit n
  pub ey : reach n strains.ey ≤ 6 * unit n
  pub g : reach n strains.g ≤ 6 * unit n

-- ---- guesses

-- a number is above so many ones in size
abbrev pub IsAbove : {A : Type 0} → ℕ → Numbers A → ℤ → Type 0
IsAbove most n c = most * unit n < unsigned_abs c

-- a component of a guess is
abbrev pub HasComponentAbove : {A : Type 0} → ℕ → Numbers A → Guess → Type 0
HasComponentAbove most n guess =
    IsAbove most n guess.ex ⊎ (IsAbove most n guess.ey ⊎ (IsAbove most n guess.g
    ⊎ (IsAbove most n guess.kx ⊎ (IsAbove most n guess.ky ⊎ IsAbove most n guess.kg))))
