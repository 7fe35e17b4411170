-- What the calls need of a ply and of a wall, while the wall is summed ply by ply.
use Rattle.std.specs.Prelude.{◌≡◌, ℤ, pos, neg_ℤ, ◌+ℤ◌, ◌*ℤ◌, ◌≤ℤ◌, List}
use Rattle.lam_fraction.specs.numbers.Numbers.{Numbers}
use Rattle.lam_fraction.specs.inside.Reaches.{Reaches, sixteenths}
use Rattle.lam_stock.specs.declared.item.Item.{Item}
use Rattle.lam_stock.specs.declared.item.ItemNo.{ItemNo}
use Rattle.lam_stock.specs.declared.scale.Scale.{Scale}
use Rattle.lam_lamina.specs.declared.stiffness.Sym3.{Sym3}
use Rattle.lam_job.specs.Schedule.{items_of}
use Rattle.lam_job.specs.Wall.{Placed, wall_thickness}
use Rattle.lam_wall.specs.declared.wall.Wall.{Wall}
use Rattle.lam_wall.specs.Assembled.{ArePlies, most_thickness}

-- a ply with its two faces
abbrev pub placed_at : Item → ℤ → ℤ → Placed
placed_at i inner outer = record { item = i; inner = inner; outer = outer }

-- a ply that begins at a place
abbrev pub laid_at : Item → ℤ → Placed
laid_at i z = placed_at i z (z +ℤ pos 2 *ℤ i.lamina.t)

-- a ply lies in a wall of thickness h, which is at most 1.28 m
pub record IsPlaced (h : ℤ) (p : Placed) : Type 0 where
  pub least : pos 1 ≤ℤ h
  pub greatest : h ≤ℤ most_thickness
  pub thick : pos 0 ≤ℤ p.item.lamina.t
  pub within : p.item.lamina.t ≤ℤ h
  pub inner : neg_ℤ h ≤ℤ p.inner
  pub order : p.inner ≤ℤ p.outer
  pub outer : p.outer ≤ℤ h

-- 1 to 64 plies of a catalogue of this scale, with h their thickness
pub record IsListed (scale : Scale) (h : ℤ) (stock : List Item) (numbers : List ItemNo) : Type 0 where
  pub plies : ArePlies scale stock numbers
  pub least : pos 1 ≤ℤ h
  pub greatest : h ≤ℤ most_thickness
  pub thickness : h ≡ wall_thickness (items_of stock numbers)

-- ---- no sum, share or entry of a stiffness reaches one and a half, so that each call has room

abbrev pub IsShort : {A : Type 0} → Numbers A → A → Type 0
IsShort n z = Reaches n (sixteenths 24) z

pub record ShortMatrix {A : Type 0} (n : Numbers A) (r : Sym3 A) : Type 0 where
  pub xx : IsShort n r.xx
  pub xy : IsShort n r.xy
  pub yy : IsShort n r.yy
  pub xs : IsShort n r.xs
  pub ys : IsShort n r.ys
  pub ss : IsShort n r.ss

pub record ShortWall {A : Type 0} (n : Numbers A) (w : Wall A) : Type 0 where
  pub a : ShortMatrix n w.a
  pub b : ShortMatrix n w.b
  pub d : ShortMatrix n w.d
