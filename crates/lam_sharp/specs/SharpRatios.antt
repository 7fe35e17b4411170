-- Printed ratios that are sharp: each is a lower bound of the exact ratio, and the exact one is not much above it.
use Rattle.std.specs.Prelude.{ℕ, ◌<◌, pos, List, length}
use Rattle.lam_fraction.specs.Fraction.{whole}
use Rattle.lam_stock.specs.declared.item.Item.{Item}
use Rattle.lam_stock.specs.declared.item.ItemNo.{ItemNo}
use Rattle.lam_job.specs.JobData.{JobData}
use Rattle.lam_job.specs.Schedule.{wall_of}
use Rattle.lam_job.specs.Strength.{CaseRatio}
use Rattle.lam_job.specs.Plate.{PanelRatio}
use Rattle.lam_sharp.specs.NearOne.{past_ratio}

-- the greatest ratio that is printed, in thousandths: it says nothing of what is above it
abbrev pub greatest_printed : ℕ
greatest_printed = 20000

-- a wall ply has a ratio of r thousandths under a case, and, where r is below the greatest, not one of 201/200 of it and two
-- thousandths more
pub record HasSharpRatio (stock : List Item) (job : JobData) (listed : List ItemNo) (case ply r : ℕ) : Type 0 where
  pub least : CaseRatio stock job listed case ply (whole (pos r))
  pub most : case < length job.cases → ply < length (wall_of stock job listed) → r < greatest_printed
      → ¬ CaseRatio stock job listed case ply (past_ratio (pos r))

-- so it is of a panel
pub record HasSharpPanel (stock : List Item) (job : JobData) (listed : List ItemNo) (panel r : ℕ) : Type 0 where
  pub least : PanelRatio stock job listed panel (whole (pos r))
  pub most : panel < length job.panels → r < greatest_printed → ¬ PanelRatio stock job listed panel (past_ratio (pos r))
