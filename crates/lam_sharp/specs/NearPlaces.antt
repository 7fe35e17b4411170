-- What values near 1 say of the places of a wall: where a schedule is near a factor, where it hangs, and how far a printed
-- ratio is from the exact one. Each law is of a wall whose items are within their limits.
use Rattle.std.specs.Prelude.{◌≡◌, ℕ, ℤ, pos, ◌+ℤ◌, ◌≤ℤ◌, List, Some, slice_get, IsSomeAnd, All}
use Rattle.lam_fraction.specs.Fraction.{whole, ◌≤ℚ◌}
use Rattle.lam_stock.specs.declared.item.Item.{Item}
use Rattle.lam_stock.specs.declared.item.ItemNo.{ItemNo}
use Rattle.lam_stock.specs.PlyLaw.{Side}
use Rattle.lam_stock.specs.Stock.{WithinLimits}
use Rattle.lam_stock.specs.TsaiWu.{tsai_wu}
use Rattle.lam_job.specs.declared.load.Load.{Load}
use Rattle.lam_job.specs.JobData.{CaseData, JobData}
use Rattle.lam_job.specs.LoadOf.{load_of}
use Rattle.lam_job.specs.Schedule.{wall_of}
use Rattle.lam_job.specs.Wall.{Placed, placed_plies}
use Rattle.lam_job.specs.LaminateStrain.{LaminateStrain}
use Rattle.lam_job.specs.Equilibrium.{Solves}
use Rattle.lam_job.specs.Strength.{Face, PlyPlace, HasSide, EverySolution, PlyRatio, CaseRatio, stress_at}
use Rattle.lam_job.specs.Plate.{PanelAtLeast}
use Rattle.lam_job.specs.Rules.{Keeps}
use Rattle.lam_job.specs.Design.{InRangeForAll}
use Rattle.lam_job.specs.Near.{just_below, NearPly, Hangs, AtPly}
use Rattle.lam_sharp.specs.NearOne.{nearly_one, past_ratio, IsNearOne, IsHardlyAbove}

-- at a face and on a side of a ply, in every laminate strain of the wall, the value at a factor is near 1
abbrev pub NearOneThere : List Item → Load → Placed → Face → Side → ℤ → Type 0
NearOneThere wall load p face side factor = EverySolution wall load p face side (λ l t. IsNearOne l t factor)

-- so it is at a place of a schedule, which is there, and at the factor of its case
abbrev pub NearOneAt : List Item → JobData → List ItemNo → PlyPlace → Type 0
NearOneAt stock job listed at =
    let wall = wall_of stock job listed in
    IsSomeAnd (slice_get job.cases at.case) (λ case. IsSomeAnd (slice_get (placed_plies wall) at.ply) (λ p.
    HasSide p.item.kind at.side × NearOneThere wall (load_of case.kind) p at.face at.side case.factor))

-- at both faces of each ply and on all its sides, the value at a factor is not far above 1
abbrev pub HardlyAbove : List Item → Load → ℤ → Type 0
HardlyAbove wall load factor =
    (ply : ℕ) (p : Placed) → slice_get (placed_plies wall) ply ≡ Some p
    → (face : Face) (side : Side) → HasSide p.item.kind side → EverySolution wall load p face side (λ l t. IsHardlyAbove l t factor)

-- ---- the laws

-- a schedule is near the factor where the value is near 1
abbrev pub NearOnePlaces : Type 0
NearOnePlaces = (stock : List Item) (job : JobData) (listed : List ItemNo) (at : PlyPlace)
    → All WithinLimits (wall_of stock job listed) → NearOneAt stock job listed at → NearPly stock job listed at

-- plies whose values are not far above 1 stand 199/200 of the factor
abbrev pub HardlyAboveStands : Type 0
HardlyAboveStands = (wall : List Item) (load : Load) (factor : ℤ)
    → All WithinLimits wall → HardlyAbove wall load factor → (ply : ℕ) → PlyRatio wall load ply (just_below factor)

-- a schedule hangs where the value is near 1, if it keeps the rules, is in range, has no value far above 1, and no panel of
-- it buckles before 199/200 of its factor
abbrev pub HangsWhereNear : Type 0
HangsWhereNear = (stock : List Item) (job : JobData) (listed : List ItemNo) (at : PlyPlace)
    → All WithinLimits (wall_of stock job listed)
    → Keeps stock job listed → InRangeForAll stock job listed
    → NearOneAt stock job listed at
    → All (λ case. HardlyAbove (wall_of stock job listed) (load_of case.kind) case.factor) job.cases
    → All (λ panel. PanelAtLeast (wall_of stock job listed) panel (just_below panel.factor)) job.panels
    → Hangs stock job listed (AtPly at)

-- a ply with a value of nearly 1 at one thousandth above a ratio, at a face, on a side and in a laminate strain, does not stand
-- past the ratio
abbrev pub RatioEnds : Type 0
RatioEnds = (wall : List Item) (load : Load) (ply : ℕ) (p : Placed) (face : Face) (side : Side) (f : LaminateStrain) (r : ℤ)
    → All WithinLimits wall → slice_get (placed_plies wall) ply ≡ Some p → HasSide p.item.kind side → Solves wall load f → pos 0 ≤ℤ r
    → nearly_one ≤ℚ tsai_wu p.item.lamina (stress_at f p face side) (whole (r +ℤ pos 1))
    → ¬ PlyRatio wall load ply (past_ratio r)

-- so it is of a case of a job
abbrev pub CaseRatioEnds : Type 0
CaseRatioEnds = (stock : List Item) (job : JobData) (listed : List ItemNo) (case ply : ℕ) (c : CaseData) (p : Placed) (face : Face) (side : Side) (f : LaminateStrain) (r : ℤ)
    → All WithinLimits (wall_of stock job listed) → slice_get job.cases case ≡ Some c → slice_get (placed_plies (wall_of stock job listed)) ply ≡ Some p
    → HasSide p.item.kind side → Solves (wall_of stock job listed) (load_of c.kind) f → pos 0 ≤ℤ r
    → nearly_one ≤ℚ tsai_wu p.item.lamina (stress_at f p face side) (whole (r +ℤ pos 1))
    → ¬ CaseRatio stock job listed case ply (past_ratio r)
