-- What the steps of a sample answer.
use Rattle.std.specs.Prelude.{◌≡◌, ℕ, ◌+◌, ◌*◌, ◌<◌, ◌≤◌, List, ◌++◌, length, Option, Result, Ok, Err, String, string_bytes, codes, decimal, ⊤}
use Rattle.std.specs.Global.{Global}
use Rattle.lam_job.specs.Schedule.{IsJobFor}
use Rattle.lam_tree.specs.declared.report.Answer.{Answer}
use Rattle.lam_tree.specs.declared.report.Report.{Report}
use Rattle.lam_tree.specs.Checks.{Accepts, best_cost}
use Rattle.lam_tree.specs.ReportRanges.{IsReport}
use Rattle.lam_outside.specs.SinkState.{SinkState, empty_sink}
use Rattle.lam_answers.specs.inside.Computed.{computed}
use Rattle.lam_check.specs.declared.accepted.Accepted.{Accepted}
use Rattle.lam_check.specs.Says.{Says}
use Rattle.lam_sample.specs.SampleJob.{sample_job}
use Rattle.lam_sample.specs.SampleStock.{sample_stock}
use Rattle.laminate.specs.declared.fault.Stop.{Stop}
use Rattle.laminate.specs.declared.fault.Stop.TheVariants as stop
use Rattle.laminate.specs.declared.input.Input.{Input}
use Rattle.laminate.specs.declared.modes.design.Design.{Design}
use Rattle.laminate.specs.declared.modes.sample.Word.{Word}
use Rattle.laminate.specs.declared.modes.sample.Word.TheVariants as word
use Rattle.laminate.specs.declared.status.Status.{Status}
use Rattle.laminate.specs.Design.{IsDesign}
use Rattle.laminate.specs.Sampling.{AreWords, Samples, summary_text}
use Rattle.laminate.specs.Outside.{SinkSeen}
use Rattle.laminate.specs.inside.Steps.{WritesText}

-- a step gives what is meant, or memory wants
abbrev pub OrMemory : {A : Type 0} → (A → Type 0) → Result A Stop → Type 0
OrMemory is (Ok a) = is a
OrMemory is (Err (stop.Fault f)) = ⊥
OrMemory is (Err stop.Memory) = ⊤

-- the job and the catalogue of a number
pub record IsSampleOf (number : ℕ) (input : Input) : Type 0 where
  pub stock : input.stock ≡ sample_stock number
  pub job : input.job ≡ sample_job number
  pub job_for : IsJobFor input.stock input.job

abbrev pub IsMade : (number : ℕ) → Result Input Stop → Type 0
IsMade number made = OrMemory (IsSampleOf number) made

-- a design for them
pub record IsDesignOf (number budget : ℕ) (design : Design) : Type 0 where
  pub sample : IsSampleOf number design.input
  pub few : length design.report.tree ≤ budget
  pub so : IsDesign design.input.stock design.input.job budget design.report

abbrev pub IsDesigned : (number budget : ℕ) → Result Design Stop → Type 0
IsDesigned number budget designed = OrMemory (IsDesignOf number budget) designed

-- a report of a search for an input
pub record IsOwn (input : Input) (report : Report) : Type 0 where
  pub job_for : IsJobFor input.stock input.job
  pub spelled : IsReport input.stock input.job report
  pub accepted : Accepts input.stock input.job (computed input.stock input.job) report

-- an empty sink has more room than the text of a report takes, in a turn
pub record HasRoom (report : Report) (sink : SinkState) : Type 0 where
  pub room : ℕ
  pub empty : sink ≡ empty_sink room room
  pub enough : 48 * length report.tree + 65535 < room

-- what the checker says of a report
abbrev pub IsSaid : Report → Result Accepted Stop → Type 0
IsSaid report said = OrMemory (Says report) said

-- the words of what a sample found
abbrev pub word_text : Word → List ℕ
word_text (word.Least cost) = codes "least " ++ decimal cost
word_text word.NoneMeets = codes "none"
word_text word.OpenBudget = codes "open budget"
word_text word.OpenStraddle = codes "open straddle"

abbrev pub IsWordOf : Answer → (best : Option ℕ) → Word → Type 0
IsWordOf given best said = AreWords given best (word_text said)

-- the line on a report
pub record IsSummaryOf (number : ℕ) (report : Report) (line : List ℕ) : Type 0 where
  pub words : List ℕ
  pub words_are : AreWords report.answer (best_cost report.best) words
  pub line_is : line ≡ summary_text number words (length report.tree) ++ codes "\n"

abbrev pub IsSummary : (number : ℕ) → Report → Result (String Global) Stop → Type 0
IsSummary number report told = OrMemory (λ line. IsSummaryOf number report (string_bytes line)) told

-- a sample writes its line, or a prefix of it where the sink failed; or memory wants, and the sink is as it was
abbrev pub SamplesTo : {K : Type 0} → (number budget : ℕ) → Result Status Stop → (before after : SinkSeen) → (whole whole_after : K) → Type 0
SamplesTo number budget (Ok ended) before after whole whole_after =
    (due : Status) × (text : List ℕ) × Samples number budget due text × WritesText due text ended before after
SamplesTo number budget (Err (stop.Fault f)) before after whole whole_after = ⊥
SamplesTo number budget (Err stop.Memory) before after whole whole_after = whole_after ≡ whole
