-- The report of what a search found, with the printed ratios of its best schedule.
use Rattle.std.specs.Prelude.{◌≡◌, ℕ, ◌+◌, ◌*◌, List, [], length, Option, Some, None, ⊤}
use Rattle.lam_stock.specs.declared.item.Item.{Item}
use Rattle.lam_job.specs.JobData.{JobData}
use Rattle.lam_job.specs.Schedule.{wall_of}
use Rattle.lam_tree.specs.declared.report.Best.{Best}
use Rattle.lam_tree.specs.declared.report.Report.{Report}
use Rattle.lam_tree.specs.Tests.{Tests}
use Rattle.lam_tree.specs.Checks.{RatioChecks, PanelChecks}
use Rattle.lam_tree.specs.ReportRanges.{AreRatios}
use Rattle.lam_search.specs.declared.searching.Found.{Found}

abbrev pub report_of : (budget : ℕ) → Found → (ratios panels : List ℕ) → Report
report_of budget found ratios panels = record {
  budget = budget;
  answer = found.answer;
  best = found.best;
  ratios = ratios;
  panels = panels;
  tree = found.tree;
}

-- the lists are the computed ratios of the best schedule, if there is one
abbrev pub CheckAsPrinted : List Item → JobData → Tests → Option Best → (ratios panels : List ℕ) → Type 0
CheckAsPrinted stock job tests None ratios panels = ⊤
CheckAsPrinted stock job tests (Some b) ratios panels =
    RatioChecks stock job tests b.plies (length (wall_of stock job b.plies)) 6 0 ratios None
    × PanelChecks stock job tests b.plies (6 + length ratios) 0 panels None

-- they are so many, and in range
abbrev pub ArePrintable : List Item → JobData → Option Best → (ratios panels : List ℕ) → Type 0
ArePrintable stock job None ratios panels = (ratios ≡ []) × (panels ≡ [])
ArePrintable stock job (Some b) ratios panels =
    AreRatios (length job.cases * length (wall_of stock job b.plies)) ratios × AreRatios (length job.panels) panels
