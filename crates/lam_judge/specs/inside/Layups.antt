-- The wall of a schedule as it is computed.
use Rattle.std.specs.Prelude.{◌≡◌, ℕ, ℤ, List, Some, slice_get}
use Rattle.lam_fraction.specs.numbers.Numbers.{Numbers}
use Rattle.lam_stock.specs.declared.item.Item.{Item}
use Rattle.lam_stock.specs.declared.item.ItemNo.{ItemNo}
use Rattle.lam_stock.specs.Scale.{scale_of}
use Rattle.lam_job.specs.Schedule.{items_of}
use Rattle.lam_job.specs.Wall.{wall_thickness}
use Rattle.lam_wall.specs.Assembled.{ArePlies}
use Rattle.lam_wall.specs.Faces.{faces as faces_of}
use Rattle.lam_wall.specs.inside.Formulas.{assembled}
use Rattle.lam_solve.specs.inside.Elimination.{IsEliminationOf}
use Rattle.lam_judge.specs.declared.layup.Laid.{Laid}
use Rattle.lam_judge.specs.declared.layup.Layup.{Layup}

-- the matrices of some plies of a catalogue, and their unknowns eliminated
pub record IsLaid {A : Type 0} (n : Numbers A) (stock : List Item) (numbers : List ItemNo) (laid : Laid A) : Type 0 where
  pub wall : laid.wall ≡ assembled n.calc (scale_of stock).q0 (items_of stock numbers)
  pub eliminated : IsEliminationOf n laid.wall laid.elimination

-- the wall of the plies that are named
pub record IsLayupOf (stock : List Item) (l : Layup) : Type 0 where
  pub plies : ArePlies (scale_of stock) stock l.plies
  pub thickness : l.h ≡ wall_thickness (items_of stock l.plies)
  pub faces : (k : ℕ) (z : ℤ) → slice_get (faces_of (items_of stock l.plies)) k ≡ Some z → slice_get l.faces k ≡ Some z
