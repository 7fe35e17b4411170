-- Schedules that hang: one that stands or falls within one part in 200 of a factor, and fails nothing by more. A
-- maker gets such a schedule named, since a computation with rounded numbers may not decide it.
use Rattle.std.specs.Prelude.{ℕ, ◌≤◌, ℤ, pos, ◌*ℤ◌, List, slice_get, IsSomeAnd}
use Rattle.lam_fraction.specs.Fraction.{ℚ, whole, fraction, ◌≤ℚ◌}
use Rattle.lam_stock.specs.declared.item.Item.{Item}
use Rattle.lam_stock.specs.declared.item.ItemNo.{ItemNo}
use Rattle.lam_stock.specs.PlyLaw.{Side}
use Rattle.lam_stock.specs.TsaiWu.{RatioAtLeast, tsai_wu}
use Rattle.lam_job.specs.declared.load.Load.{Load}
use Rattle.lam_job.specs.JobData.{PanelData, JobData}
use Rattle.lam_job.specs.LoadOf.{load_of}
use Rattle.lam_job.specs.Schedule.{wall_of}
use Rattle.lam_job.specs.Wall.{Placed, placed_plies}
use Rattle.lam_job.specs.Strength.{Face, PlyPlace, HasSide, EverySolution}
use Rattle.lam_job.specs.Plate.{PanelAtLeast, buckling_load, panel_load}
use Rattle.lam_job.specs.Rules.{Keeps}
use Rattle.lam_job.specs.Design.{InRangeForAll, MeetsFactors}

-- 199/200 of a factor, and 201/200 of it
abbrev pub just_below : ℤ → ℚ
just_below factor = fraction (pos 199 *ℤ factor) (pos 200)

abbrev pub just_above : ℤ → ℚ
just_above factor = fraction (pos 201 *ℤ factor) (pos 200)

-- at a face and on a side, in every laminate strain of the wall: the criterion's value is at most 1 at 199/200 of a factor, and at
-- least 1 at 201/200 of it
abbrev pub NearRatio : List Item → Load → Placed → Face → Side → ℤ → Type 0
NearRatio wall load p face side factor =
    EverySolution wall load p face side (λ l t. RatioAtLeast l t (just_below factor) × (whole (pos 1) ≤ℚ tsai_wu l t (just_above factor)))

-- a schedule has such a place, and is near the case's factor there
abbrev pub NearPly : List Item → JobData → List ItemNo → PlyPlace → Type 0
NearPly stock job listed at =
    let wall = wall_of stock job listed in
    IsSomeAnd (slice_get job.cases at.case) (λ case. IsSomeAnd (slice_get (placed_plies wall) at.ply) (λ p.
    HasSide p.item.kind at.side × NearRatio wall (load_of case.kind) p at.face at.side case.factor))

-- a panel of the wall stands 199/200 of a factor, and buckles by 201/200 of it
pub record NearFactor (wall : List Item) (panel : PanelData) (factor : ℤ) : Type 0 where
  pub stands : PanelAtLeast wall panel (just_below factor)
  pub buckles : (m : ℕ) × (1 ≤ m) × (buckling_load wall panel m ≤ℚ panel_load panel (just_above factor))

-- the job has such a panel, counted from 0, and the schedule is near its factor
abbrev pub NearPanel : List Item → JobData → List ItemNo → ℕ → Type 0
NearPanel stock job listed at =
    IsSomeAnd (slice_get job.panels at) (λ panel. NearFactor (wall_of stock job listed) panel panel.factor)

-- where a schedule hangs
pub data Spot : Type 0 where
  AtPly : PlyPlace → Spot
  AtPanel : ℕ → Spot

abbrev pub NearSpot : List Item → JobData → List ItemNo → Spot → Type 0
NearSpot stock job listed (AtPly place) = NearPly stock job listed place
NearSpot stock job listed (AtPanel panel) = NearPanel stock job listed panel

-- a schedule is near a factor at a spot, and in all else what may be built, but for one part in 200 of the factors
pub record Hangs (stock : List Item) (job : JobData) (listed : List ItemNo) (spot : Spot) : Type 0 where
  pub rules : Keeps stock job listed
  pub range : InRangeForAll stock job listed
  pub near : NearSpot stock job listed spot
  pub factors : MeetsFactors stock job listed just_below
