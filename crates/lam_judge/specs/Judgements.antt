-- Which schedules are judged, and what a judgement says of one.
use Rattle.std.specs.Prelude.{◌≡◌, ◌↔◌, ℕ, ◌≤◌, ◌<◌, List, length}
use Rattle.lam_stock.specs.declared.item.Item.{Item}
use Rattle.lam_stock.specs.declared.item.ItemNo.{ItemNo}
use Rattle.lam_stock.specs.Stock.{IsKnown}
use Rattle.lam_job.specs.declared.limits.TheConstants.{MOST_PLIES}
use Rattle.lam_job.specs.JobData.{JobData}
use Rattle.lam_job.specs.Schedule.{IsJobFor}
use Rattle.lam_job.specs.LoadRange as range
use Rattle.lam_job.specs.Strength.{Face, InnerFace, OuterFace, PlyPlace, FailsAt}
use Rattle.lam_job.specs.Plate as plate
use Rattle.lam_job.specs.Rules.{Keeps, IsLeastBroken}
use Rattle.lam_job.specs.Design as design
use Rattle.lam_job.specs.Near as near
use Rattle.lam_tsai.specs.declared.place.FaceSide.{FaceSide}
use Rattle.lam_tsai.specs.declared.place.FaceSide.TheVariants.{Inner, Outer}
use Rattle.lam_tsai.specs.declared.place.Place.{Place}
use Rattle.lam_tsai.specs.Levels.{side_of}
use Rattle.lam_judge.specs.declared.judgement.Judgement.{Judgement}
use Rattle.lam_judge.specs.declared.judgement.Judgement.TheVariants.{Admissible, Broken, OutOfRange, Fails, Buckles, StraddlesPly, StraddlesPanel}

-- a schedule that may be judged: 1 to 56 plies of the catalogue, for a job of this catalogue
pub record IsSchedule (stock : List Item) (job : JobData) (listed : List ItemNo) : Type 0 where
  pub job_for : IsJobFor stock job
  pub some : 1 ≤ length listed
  pub few : length listed ≤ MOST_PLIES
  pub known : IsKnown stock listed

-- ---- places, as the definitions of a design name them

abbrev pub face_of : FaceSide → Face
face_of Inner = InnerFace
face_of Outer = OuterFace

abbrev pub place_of : Place → PlyPlace
place_of at = record { case = at.case; ply = at.ply; face = face_of at.face; side = side_of at.side }

-- ---- judgements

-- the case of a number is the first for which the wall is not in range
pub record IsFirstOut (stock : List Item) (job : JobData) (listed : List ItemNo) (case : ℕ) : Type 0 where
  pub out : range.OutOfRange stock job listed case
  pub first : (other : ℕ) → other < case → ¬ range.OutOfRange stock job listed other

-- what a judgement says of a schedule is so. Where the computation does not decide, the schedule hangs at the place or the panel
abbrev pub IsSaid : List Item → JobData → List ItemNo → Judgement → Type 0
IsSaid stock job listed Admissible = design.Admissible stock job listed
IsSaid stock job listed (Broken rule) = IsLeastBroken rule.0 stock job listed
IsSaid stock job listed (OutOfRange case) = Keeps stock job listed × IsFirstOut stock job listed case
IsSaid stock job listed (Fails at) = FailsAt stock job listed (place_of at)
IsSaid stock job listed (Buckles panel) = plate.Buckles stock job listed panel
IsSaid stock job listed (StraddlesPly at) = near.Hangs stock job listed (near.AtPly (place_of at))
IsSaid stock job listed (StraddlesPanel panel) = near.Hangs stock job listed (near.AtPanel panel)

-- at no place and no panel is a schedule near its factor
abbrev pub IsNearNowhere : List Item → JobData → List ItemNo → Type 0
IsNearNowhere stock job listed = (spot : near.Spot) → ¬ near.NearSpot stock job listed spot

-- a schedule that is near nowhere is judged admissible exactly where it is
abbrev pub IsDecided : List Item → JobData → List ItemNo → Judgement → Type 0
IsDecided stock job listed judgement = IsNearNowhere stock job listed → judgement ≡ Admissible ↔ design.Admissible stock job listed
