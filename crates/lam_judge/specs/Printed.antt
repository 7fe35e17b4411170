-- The printed ratios of a schedule, and what they say.
use Rattle.std.specs.Prelude.{◌≡◌, ℕ, ◌+◌, ◌*◌, ◌/◌, ◌%◌, List, length, slice_get, slice_index_or, Option, Some, None, MatchOption}
use Rattle.lam_stock.specs.declared.item.Item.{Item}
use Rattle.lam_stock.specs.declared.item.ItemNo.{ItemNo}
use Rattle.lam_job.specs.JobData.{JobData}
use Rattle.lam_job.specs.Schedule.{wall_of}
use Rattle.lam_job.specs.Rules.{Fit}
use Rattle.lam_sharp.specs.SharpRatios.{HasSharpRatio, HasSharpPanel}

-- the number of wall plies; the ratios in thousandths, for each case in order those of the wall plies in order; and those of the
-- panels in order, if the schedule is fit for a panel
pub record Printed : Type 0 where
  pub plies : ℕ
  pub ratios : List ℕ
  pub panels : Option (List ℕ)

-- the ratio of a wall ply under a case
abbrev pub ratio_of : Printed → (case ply : ℕ) → ℕ
ratio_of p case ply = slice_index_or p.ratios (case * p.plies + ply) 0

-- the ratio of a panel, if the schedule is fit
abbrev pub panel_in : Option (List ℕ) → (panel : ℕ) → Option ℕ
panel_in None panel = None
panel_in (Some ratios) panel = Some (slice_index_or ratios panel 0)

abbrev pub panel_of : Printed → (panel : ℕ) → Option ℕ
panel_of p panel = panel_in p.panels panel

-- ---- what they say

-- each wall ply has its ratio under each case, and it is sharp: ratio number i is that of ply i % plies under case i / plies
abbrev pub HaveRatios : List Item → JobData → List ItemNo → Printed → Type 0
HaveRatios stock job listed p =
    (i r : ℕ) → slice_get p.ratios i ≡ Some r → HasSharpRatio stock job listed (i / p.plies) (i % p.plies) r

-- a list has the ratios of all panels, and each panel has its ratio, which is sharp
pub record HavePanelRatios (stock : List Item) (job : JobData) (listed : List ItemNo) (ratios : List ℕ) : Type 0 where
  pub number : length ratios ≡ length job.panels
  pub each : (k r : ℕ) → slice_get ratios k ≡ Some r → HasSharpPanel stock job listed k r

-- the printed ratios are those of a schedule
pub record ArePrinted (stock : List Item) (job : JobData) (listed : List ItemNo) (p : Printed) : Type 0 where
  pub plies : p.plies ≡ length (wall_of stock job listed)
  pub number : length p.ratios ≡ length job.cases * p.plies
  pub ratios : HaveRatios stock job listed p
  pub panels : MatchOption p.panels (¬ Fit stock job listed) (λ ratios. Fit stock job listed × HavePanelRatios stock job listed ratios)
