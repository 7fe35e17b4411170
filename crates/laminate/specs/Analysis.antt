-- What an order to analyse is refused for, beyond its files, and what it is answered with.
use Rattle.std.specs.Prelude.{◌≡◌, ◌⊎◌, ℕ, ◌+◌, ◌<◌, List, length, Option, Ok, Err, MatchOption}
use Rattle.lam_stock.specs.declared.item.Item.{Item}
use Rattle.lam_stock.specs.declared.item.ItemNo.{ItemNo}
use Rattle.lam_job.specs.JobData.{JobData}
use Rattle.lam_job.specs.Design.{InRangeForAll}
use Rattle.lam_job.specs.Rules.{Fit}
use Rattle.lam_job.specs.Schedule.{wall_of}
use Rattle.lam_sharp.specs.SharpRatios.{HasSharpRatio, HasSharpPanel}
use Rattle.lam_judge.specs.Judgements.{IsFirstOut}
use Rattle.lam_report.specs.ReportText.{IsAnalysis}
use Rattle.laminate.specs.declared.fault.ScheduleFault.{ScheduleFault}
use Rattle.laminate.specs.declared.fault.ScheduleFault.TheVariants.{Range}
use Rattle.laminate.specs.declared.input.Input.{Input}
use Rattle.laminate.specs.Schedule.{schedule_of}

-- ---- refused

-- the schedule word is refused: for its names; or, with the plies that it lists, for the first case that is out of range
abbrev pub RefusesSchedule : Input → List ℕ → ScheduleFault → Type 0
RefusesSchedule input word fault =
    (schedule_of input.stock word ≡ Err fault)
    ⊎ ((listed : List ItemNo) × (case : ℕ) × (schedule_of input.stock word ≡ Ok listed)
    × IsFirstOut input.stock input.job listed case × (fault ≡ Range (case + 1)))

-- ---- answered

-- a text says a schedule's ratios: it is an analysis of the schedule, with its cost and the least rule that it breaks; each
-- wall ply has the ratio that is told of it under each case, and that ratio is sharp; and each panel has the ratio that is told
-- of it, which is sharp too, or the schedule isn't fit for a panel
pub record TellsRatios (stock : List Item) (job : JobData) (listed : List ItemNo) (text : List ℕ) : Type 0 where
  pub ratio : (case ply : ℕ) → ℕ
  pub panel : ℕ → Option ℕ
  pub lines : IsAnalysis stock job listed ratio panel text
  pub ratios : (case ply : ℕ) → case < length job.cases → ply < length (wall_of stock job listed)
      → HasSharpRatio stock job listed case ply (ratio case ply)
  pub panels : (k : ℕ) → k < length job.panels
      → MatchOption (panel k) (¬ Fit stock job listed) (λ r. Fit stock job listed × HasSharpPanel stock job listed k r)

-- a text is the analysis of the plies that the schedule word lists, which are in range for every case
pub record Analyses (input : Input) (word text : List ℕ) : Type 0 where
  pub listed : List ItemNo
  pub named : schedule_of input.stock word ≡ Ok listed
  pub range : InRangeForAll input.stock input.job listed
  pub told : TellsRatios input.stock input.job listed text
