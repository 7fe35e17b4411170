-- What the lists of the printed ratios of a schedule are.
use Rattle.std.specs.Prelude.{◌≡◌, ℕ, ◌+◌, ◌*◌, List, [], length, Option, Some, None}
use Rattle.lam_stock.specs.declared.item.Item.{Item}
use Rattle.lam_stock.specs.declared.item.ItemNo.{ItemNo}
use Rattle.lam_job.specs.JobData.{JobData}
use Rattle.lam_job.specs.Design.{Admissible}
use Rattle.lam_job.specs.Schedule.{wall_of}
use Rattle.lam_tree.specs.declared.report.Best.{Best}
use Rattle.lam_tree.specs.Checks.{PanelChecks, RatioChecks}
use Rattle.lam_tree.specs.Promise.{HasPanels, HasRatios}
use Rattle.lam_tree.specs.ReportRanges.{AreListed, AreRatios}
use Rattle.lam_answers.specs.inside.Computed.{computed}

-- ---- the lists of a room

-- the ratios of the panels: none, where the schedule isn't fit for a panel
abbrev pub panels_in : Option (List ℕ) → List ℕ
panels_in None = []
panels_in (Some own) = own

-- ---- the lists of a schedule

-- the ratios of the wall plies and those of the panels: as they are computed, as the schedule has them, as many as are printed,
-- and none above the greatest
pub record ArePrintedOf (stock : List Item) (job : JobData) (listed : List ItemNo) (ratios panels : List ℕ) : Type 0 where
  pub ratios_computed : RatioChecks stock job (computed stock job) listed (length (wall_of stock job listed)) 6 0 ratios None
  pub panels_computed : PanelChecks stock job (computed stock job) listed (6 + length ratios) 0 panels None
  pub has_ratios : HasRatios stock job listed ratios
  pub has_panels : HasPanels stock job listed panels
  pub are_ratios : AreRatios (length job.cases * length (wall_of stock job listed)) ratios
  pub are_panels : AreRatios (length job.panels) panels

-- those of the best schedule; none, where there is none
abbrev pub ArePrintedOfBest : List Item → JobData → Option Best → (ratios panels : List ℕ) → Type 0
ArePrintedOfBest stock job None ratios panels = (ratios ≡ []) × (panels ≡ [])
ArePrintedOfBest stock job (Some b) ratios panels = ArePrintedOf stock job b.plies ratios panels

-- what is known of a best schedule whose ratios are to be printed
pub record MayBePrinted (stock : List Item) (job : JobData) (b : Best) : Type 0 where
  pub listed : AreListed stock b.plies
  pub admissible : Admissible stock job b.plies
