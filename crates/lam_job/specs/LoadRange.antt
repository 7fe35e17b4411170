-- The range of loads for which a wall is computed at all. A maker never comes near it: the mean stress of a force, and
-- the stress 2 M / h² of a moment, may be up to a quarter of the catalogue's floor. The floor is the least over the
-- items of 2 G12 and of the whole part of E1 E2 / (E1 + E2), in MPa.
use Rattle.std.specs.Prelude.{ℤ, pos, ◌*ℤ◌, ◌≤ℤ◌, unsigned_abs, List, slice_get, IsSomeAnd, ℕ}
use Rattle.lam_stock.specs.declared.item.Item.{Item}
use Rattle.lam_stock.specs.declared.item.ItemNo.{ItemNo}
use Rattle.lam_stock.specs.Scale.{scale_of}
use Rattle.lam_job.specs.declared.load.Load.{Load}
use Rattle.lam_job.specs.JobData.{JobData}
use Rattle.lam_job.specs.LoadOf.{load_of}
use Rattle.lam_job.specs.Schedule.{wall_of}
use Rattle.lam_job.specs.Wall.{wall_thickness}

-- the size of a whole number is at most a bound
abbrev pub SizeWithin : ℤ → ℤ → Type 0
SizeWithin bound z = pos (unsigned_abs z) ≤ℤ bound

-- a load is in range for a thickness h in µm and a floor in MPa: the mean stress of each force, and the stress 2 M / h²
-- of each moment, is at most a quarter of the floor
pub record LoadInRange (floor h : ℤ) (load : Load) : Type 0 where
  pub nx : SizeWithin (floor *ℤ h) load.nx
  pub ny : SizeWithin (floor *ℤ h) load.ny
  pub nxy : SizeWithin (floor *ℤ h) load.nxy
  pub mx : SizeWithin (floor *ℤ (h *ℤ h)) (pos 8000 *ℤ load.mx)
  pub my : SizeWithin (floor *ℤ (h *ℤ h)) (pos 8000 *ℤ load.my)
  pub mxy : SizeWithin (floor *ℤ (h *ℤ h)) (pos 8000 *ℤ load.mxy)

-- a wall of a catalogue's items is in range for a load
abbrev pub WallInRange : (stock wall : List Item) → Load → Type 0
WallInRange stock wall load = LoadInRange (scale_of stock).floor (wall_thickness wall) load

-- the job has such a case, counted from 0, and the wall of the schedule is not in range for it
abbrev pub OutOfRange : List Item → JobData → List ItemNo → ℕ → Type 0
OutOfRange stock job listed case =
    IsSomeAnd (slice_get job.cases case) (λ c. ¬ WallInRange stock (wall_of stock job listed) (load_of c.kind))
