-- Panels of a wall that is fit for them, and what is sure of such a panel.
use Rattle.std.specs.Prelude.{ℕ, ◌≤◌, List, ◌++◌, if◌then◌else◌}
use Rattle.lam_fraction.specs.Fraction.{ℚ, ◌<ℚ◌}
use Rattle.lam_fraction.specs.numbers.Numbers.{Numbers}
use Rattle.lam_stock.specs.declared.item.Item.{Item}
use Rattle.lam_stock.specs.declared.item.ItemNo.{ItemNo}
use Rattle.lam_stock.specs.declared.scale.Scale.{Scale}
use Rattle.lam_job.specs.JobData.{JobData, PanelData}
use Rattle.lam_job.specs.Plate.{buckling_load, panel_load}
use Rattle.lam_job.specs.Rules.{Fit}
use Rattle.lam_wall.specs.declared.wall.Wall.{Wall}
use Rattle.lam_wall.specs.Assembled.{StandsFor}

-- the plies of a schedule that carry load: the listed ones, on those of the liner if it counts as a part of the wall
abbrev pub wall_numbers : JobData → List ItemNo → List ItemNo
wall_numbers job listed = if job.liner_in_wall then job.liner ++ listed else listed

-- the schedule is fit for a panel, and the wall stands for those of its plies that carry load
pub record StandsForFit {A : Type 0} (n : Numbers A) (w : Wall A) (scale : Scale) (stock : List Item) (job : JobData) (listed : List ItemNo) : Type 0 where
  pub fit : Fit stock job listed
  pub stands : StandsFor n w scale stock (wall_numbers job listed)

-- so it does for some schedule of some catalogue of this scale
abbrev pub IsFitWall : {A : Type 0} → Numbers A → Scale → Wall A → Type 0
IsFitWall n scale w = (stock : List Item) × (job : JobData) × (listed : List ItemNo) × StandsForFit n w scale stock job listed

-- whatever the number of half waves, a panel buckles only above r thousandths of its load
abbrev pub StandsAbove : List Item → PanelData → ℚ → Type 0
StandsAbove wall panel r = (m : ℕ) → 1 ≤ m → panel_load panel r <ℚ buckling_load wall panel m

-- in some number of half waves it buckles below that
abbrev pub BucklesBelow : List Item → PanelData → ℚ → Type 0
BucklesBelow wall panel r = (m : ℕ) × (1 ≤ m) × (buckling_load wall panel m <ℚ panel_load panel r)
