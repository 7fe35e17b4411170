-- The enclosed matrices of a wall, and what they stand for.
use Rattle.std.specs.Prelude.{◌≡◌, ℕ, ◌*◌, ◌≤◌, ℤ, pos, List, length}
use Rattle.lam_fraction.specs.numbers.Numbers.{Numbers, reach, unit}
use Rattle.lam_stock.specs.declared.item.Item.{Item}
use Rattle.lam_stock.specs.declared.item.ItemNo.{ItemNo}
use Rattle.lam_stock.specs.declared.scale.Scale.{Scale}
use Rattle.lam_stock.specs.Stock.{IsKnown, IsStock}
use Rattle.lam_lamina.specs.declared.stiffness.Sym3.{Sym3}
use Rattle.lam_lamina.specs.Held.{HoldsMatrix, NarrowMatrix}
use Rattle.lam_job.specs.Wall.{wall_thickness}
use Rattle.lam_job.specs.Schedule.{items_of}
use Rattle.lam_wall.specs.declared.wall.Wall.{Wall}
use Rattle.lam_wall.specs.Matrices.{Matrices}
use Rattle.lam_wall.specs.MatrixLaw.{AreMatrices}

-- a wall has at most so many plies
abbrev pub most_plies : ℕ
most_plies = 64

-- and is at most so thick, in µm: 64 plies of 20 mm
abbrev pub most_thickness : ℤ
most_thickness = pos 1280000

-- 1 to 64 plies of a catalogue of this scale
pub record ArePlies (scale : Scale) (stock : List Item) (numbers : List ItemNo) : Type 0 where
  pub catalogue : IsStock stock scale
  pub some : 1 ≤ length numbers
  pub few : length numbers ≤ most_plies
  pub known : IsKnown stock numbers

-- each entry of the three holds its number
pub record HoldsWall {A : Type 0} (n : Numbers A) (w : Wall A) (m : Matrices) : Type 0 where
  pub a : HoldsMatrix n w.a m.a
  pub b : HoldsMatrix n w.b m.b
  pub d : HoldsMatrix n w.d m.d

-- each entry of the three is at most so many slops wide
pub record NarrowWall {A : Type 0} (slops : ℕ) (n : Numbers A) (w : Wall A) : Type 0 where
  pub a : NarrowMatrix slops n w.a
  pub b : NarrowMatrix slops n w.b
  pub d : NarrowMatrix slops n w.d

-- the ends of an enclosure are at most 2 in size
abbrev pub IsSmall : {A : Type 0} → Numbers A → A → Type 0
IsSmall n z = reach n z ≤ 2 * unit n

-- those of each of the six are
pub record SmallMatrix {A : Type 0} (n : Numbers A) (r : Sym3 A) : Type 0 where
  pub xx : IsSmall n r.xx
  pub xy : IsSmall n r.xy
  pub yy : IsSmall n r.yy
  pub xs : IsSmall n r.xs
  pub ys : IsSmall n r.ys
  pub ss : IsSmall n r.ss

-- those of each entry of the three are
pub record SmallWall {A : Type 0} (n : Numbers A) (w : Wall A) : Type 0 where
  pub a : SmallMatrix n w.a
  pub b : SmallMatrix n w.b
  pub d : SmallMatrix n w.d

-- A wall stands for plies of a catalogue where it has the thickness of the listed items, and its enclosures hold the
-- matrices that give their force and moment sums at every laminate strain. No end of them is more than 2 in size, twice
-- what a matrix without units can reach.
pub record StandsFor {A : Type 0} (n : Numbers A) (w : Wall A) (scale : Scale) (stock : List Item) (numbers : List ItemNo) : Type 0 where
  pub plies : ArePlies scale stock numbers
  pub thickness : w.h ≡ wall_thickness (items_of stock numbers)
  pub matrices : (m : Matrices) × AreMatrices scale.q0 (items_of stock numbers) m × HoldsWall n w m
  pub reach : SmallWall n w

-- a wall of some plies of some catalogue of this scale
abbrev pub IsWallOf : {A : Type 0} → Numbers A → Scale → Wall A → Type 0
IsWallOf n scale w = (stock : List Item) × (numbers : List ItemNo) × StandsFor n w scale stock numbers
