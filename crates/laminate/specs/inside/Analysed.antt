-- What the steps of an analysis answer.
use Rattle.std.specs.Prelude.{◌≡◌, ℕ, List, Result, Ok, Err, ⊤}
use Rattle.lam_job.specs.Design.{InRangeForAll}
use Rattle.laminate.specs.declared.fault.Fault.TheVariants as fault
use Rattle.laminate.specs.declared.fault.ScheduleFault.{ScheduleFault}
use Rattle.laminate.specs.declared.fault.Stop.{Stop}
use Rattle.laminate.specs.declared.fault.Stop.TheVariants as stop
use Rattle.laminate.specs.declared.input.Input.{Input}
use Rattle.laminate.specs.declared.modes.analyse.Analysis.{Analysis}
use Rattle.laminate.specs.Analysis.{RefusesSchedule}
use Rattle.laminate.specs.Schedule.{schedule_of}
use Rattle.lam_judge.specs.Judgements.{IsSchedule}
use Rattle.lam_judge.specs.Printed.{ArePrinted, panel_of, ratio_of}
use Rattle.lam_report.specs.ReportText.{IsAnalysis}

-- an analysis has a schedule that may be analysed, and its printed ratios
pub record IsComputed (a : Analysis) : Type 0 where
  pub schedule : IsSchedule a.input.stock a.input.job a.listed
  pub range : InRangeForAll a.input.stock a.input.job a.listed
  pub printed : ArePrinted a.input.stock a.input.job a.listed a.room

-- a text is that of an analysis
abbrev pub IsTextOf : Analysis → List ℕ → Type 0
IsTextOf a text = IsAnalysis a.input.stock a.input.job a.listed (ratio_of a.room) (panel_of a.room) text

-- an analysis of the plies that the schedule word lists, or its refusal, or want of memory
abbrev pub AnalysesTo : Input → List ℕ → Result Analysis Stop → Type 0
AnalysesTo input word (Ok a) = (a.input ≡ input) × (schedule_of input.stock word ≡ Ok a.listed) × IsComputed a
AnalysesTo input word (Err (stop.Fault f)) = (s : ScheduleFault) × RefusesSchedule input word s × (f ≡ fault.Schedule s)
AnalysesTo input word (Err stop.Memory) = ⊤
