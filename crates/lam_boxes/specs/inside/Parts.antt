-- What the calls need of their arguments.
use Rattle.std.specs.Prelude.{◌≡◌, ℕ, ◌+◌, ◌*◌, ◌≤◌, ℤ, pos, ◌*ℤ◌, ◌≤ℤ◌, unsigned_abs, List, length, All}
use Rattle.lam_fraction.specs.numbers.Numbers.{Numbers, unit}
use Rattle.lam_fraction.specs.inside.Reaches.{Reaches, sixteenths}
use Rattle.lam_stock.specs.declared.item.Item.{Item}
use Rattle.lam_stock.specs.declared.item.ItemNo.{ItemNo}
use Rattle.lam_stock.specs.Scale.{scale_of}
use Rattle.lam_stock.specs.Stock.{IsKnown, IsStock}
use Rattle.lam_job.specs.Schedule.{items_of}
use Rattle.lam_job.specs.Wall.{wall_thickness}
use Rattle.lam_lamina.specs.declared.stiffness.Sym3.{Sym3}
use Rattle.lam_wall.specs.Assembled.{most_thickness}
use Rattle.lam_job.specs.declared.load.Load.{Load}
use Rattle.lam_boxes.specs.declared.three.Shape.{Shape}
use Rattle.lam_boxes.specs.declared.three.Three.{Three}

-- ---- shares of a thickness

pub record IsThickness (h : ℤ) : Type 0 where
  pub least : pos 1 ≤ℤ h
  pub greatest : h ≤ℤ most_thickness

-- some plies of a catalogue, no thicker than h
pub record AreFixed (h : ℤ) (stock : List Item) (numbers : List ItemNo) : Type 0 where
  pub catalogue : IsStock stock (scale_of stock)
  pub thickness : IsThickness h
  pub few : length numbers ≤ 64
  pub known : IsKnown stock numbers
  pub within : wall_thickness (items_of stock numbers) ≤ℤ h

-- so many plies of each item of a catalogue are no thicker than h
pub record FitEach (places h : ℤ) (stock : List Item) : Type 0 where
  pub catalogue : IsStock stock (scale_of stock)
  pub thickness : IsThickness h
  pub some : pos 0 ≤ℤ places
  pub within : All (λ i. (places *ℤ i.lamina.t) ≤ℤ h) stock

-- ---- how far enclosures reach

-- an entry reaches so many parts
pub record MatrixReaches {A : Type 0} (n : Numbers A) (e : ℕ) (m : Sym3 A) : Type 0 where
  pub xx : Reaches n e m.xx
  pub xy : Reaches n e m.xy
  pub yy : Reaches n e m.yy
  pub xs : Reaches n e m.xs
  pub ys : Reaches n e m.ys
  pub ss : Reaches n e m.ss

pub record ThreeReach {A : Type 0} (n : Numbers A) (e : ℕ) (t : Three A) : Type 0 where
  pub x : Reaches n e t.x
  pub y : Reaches n e t.y
  pub s : Reaches n e t.s

-- a share of a thickness reaches 1, an entry of a stiffness one and a half, and one of an extension a little more than 3
abbrev pub share_reach : ℕ
share_reach = sixteenths 16 + 4

abbrev pub entry_reach : ℕ
entry_reach = sixteenths 24

abbrev pub open_reach : ℕ
open_reach = sixteenths 25

abbrev pub extension_reach : ℕ
extension_reach = sixteenths 50

-- forces in range reach 1 at most, and an eighth of a guess reaches a half
abbrev pub force_reach : ℕ
force_reach = sixteenths 16 + 4

abbrev pub eighth_reach : ℕ
eighth_reach = sixteenths 8 + 4

-- what is left small reaches an eighth
abbrev pub small_reach : ℕ
small_reach = sixteenths 2

-- each component of a centre is at most 4 in size
pub record NearCentre {A : Type 0} (n : Numbers A) (c : Three ℤ) : Type 0 where
  pub x : unsigned_abs c.x ≤ 4 * unit n
  pub y : unsigned_abs c.y ≤ 4 * unit n
  pub s : unsigned_abs c.s ≤ 4 * unit n

-- what the completions of a partial schedule have in common, as far as the calls need it
pub record IsShape {A : Type 0} (n : Numbers A) (shape : Shape A) : Type 0 where
  pub extension : MatrixReaches n extension_reach shape.extension
  pub most : IsThickness shape.most
  pub least : IsThickness shape.least

-- a load has no moments
pub record IsMembrane (load : Load) : Type 0 where
  pub mx : load.mx ≡ pos 0
  pub my : load.my ≡ pos 0
  pub mxy : load.mxy ≡ pos 0
