-- What is sought: a schedule that keeps the rules and stands all cases and panels, and of those a cheapest one.
use Rattle.std.specs.Prelude.{ℕ, ℤ, ◌≤◌, List, length, All}
use Rattle.lam_fraction.specs.Fraction.{ℚ, whole}
use Rattle.lam_stock.specs.declared.item.Item.{Item}
use Rattle.lam_stock.specs.declared.item.ItemNo.{ItemNo}
use Rattle.lam_job.specs.JobData.{JobData}
use Rattle.lam_job.specs.LoadOf.{load_of}
use Rattle.lam_stock.specs.Stock.{IsKnown}
use Rattle.lam_job.specs.Schedule.{wall_of, cost_of}
use Rattle.lam_job.specs.LoadRange.{WallInRange}
use Rattle.lam_job.specs.Strength.{PlyRatio}
use Rattle.lam_job.specs.Plate.{PanelAtLeast}
use Rattle.lam_job.specs.Rules.{Keeps}

-- under each case each wall ply has the ratio, and each panel stands as many loads, as is asked of its factor
pub record MeetsFactors (stock : List Item) (job : JobData) (listed : List ItemNo) (asked : ℤ → ℚ) : Type 0 where
  pub cases : All (λ case. (ply : ℕ) → PlyRatio (wall_of stock job listed) (load_of case.kind) ply (asked case.factor)) job.cases
  pub panels : All (λ panel. PanelAtLeast (wall_of stock job listed) panel (asked panel.factor)) job.panels

-- the wall is in range for each case
abbrev pub InRangeForAll : List Item → JobData → List ItemNo → Type 0
InRangeForAll stock job listed = All (λ case. WallInRange stock (wall_of stock job listed) (load_of case.kind)) job.cases

-- a schedule may be built: it keeps the rules, its loads are in range, and it meets every factor; just meeting it is enough
pub record Admissible (stock : List Item) (job : JobData) (listed : List ItemNo) : Type 0 where
  pub rules : Keeps stock job listed
  pub range : InRangeForAll stock job listed
  pub factors : MeetsFactors stock job listed whole

-- a list of catalogue items of a length that the job allows
pub record IsSequence (stock : List Item) (job : JobData) (listed : List ItemNo) : Type 0 where
  pub some : 1 ≤ length listed
  pub short : length listed ≤ job.limit
  pub known : IsKnown stock listed

-- no schedule that may be built costs less
pub record Least (stock : List Item) (job : JobData) (listed : List ItemNo) : Type 0 where
  pub sequence : IsSequence stock job listed
  pub admissible : Admissible stock job listed
  pub cheapest : (other : List ItemNo) → IsSequence stock job other → Admissible stock job other → cost_of stock job listed ≤ cost_of stock job other

-- no schedule may be built
abbrev pub NoneMeets : List Item → JobData → Type 0
NoneMeets stock job = (listed : List ItemNo) → IsSequence stock job listed → ¬ Admissible stock job listed
