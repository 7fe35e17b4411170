-- From the steps of an analysis to its ending.
use Rattle.std.proofs.Common.{◌≡◌, ◌⊎◌, inl, inr, ℕ, List, Some, Ok, Err, refl, ap, subst, sym}
use Rattle.std.specs.Prelude.{IsErrOf}
use Rattle.lam_outside.specs.declared.writing.WriteFault.{WriteFault}
use Rattle.lam_outside.specs.declared.writing.WriteFault.TheVariants.{Failed, TookNone}
use Rattle.lam_words.specs.Reading.{OrderWords, design, analyse, check, sample}
use Rattle.lam_job.specs.Schedule.{IsJobFor}
use Rattle.laminate.specs.declared.fault.Fault.{Fault}
use Rattle.laminate.specs.declared.fault.Stop.{Stop}
use Rattle.laminate.specs.declared.fault.Stop.TheVariants as stop
use Rattle.laminate.specs.declared.input.Input.{Input}
use Rattle.laminate.specs.declared.modes.analyse.Analysis.{Analysis}
use Rattle.laminate.specs.declared.status.Status.{Status}
use Rattle.laminate.specs.declared.status.Status.TheVariants as status
use Rattle.laminate.specs.Analysis.{Analyses}
use Rattle.laminate.specs.Answers.{Refuses}
use Rattle.laminate.specs.Ending.{Ending}
use Rattle.laminate.specs.Faults.{fault_status}
use Rattle.laminate.specs.Orders.{FileNames, Say, files_of}
use Rattle.laminate.specs.Outside.{FilesSeen, Outside}
use Rattle.laminate.specs.Schedule.{schedule_of}
use Rattle.laminate.specs.inside.Analysed.{AnalysesTo, IsTextOf}
use Rattle.laminate.specs.inside.Steps.{Does, TakesInput, WritesText}
use Rattle.laminate.proofs.Endings.{text_ends}
use Rattle.laminate.proofs.InputSteps.{job_of_input}
use Rattle.laminate.proofs.JobFor.{job_is_for}
use Rattle.lam_judge.specs.Printed.{panel_of, ratio_of}
use Rattle.laminate.proofs.PrintedLines.{printed_panels, printed_ratios}
use Rattle.laminate.proofs.ModeSteps.{refusal_due, said_status, unread_due}

-- ---- every mode: the files stop it

-- what the files of an order say is refused
said_refuses : (files : FilesSeen) (o : OrderWords) (f : Fault) → Say files (files_of o) (Err f) → Refuses files o f
said_refuses files (design job catalogue options) f said = said
said_refuses files (analyse job catalogue word) f said = inl said
said_refuses files (check job catalogue report) f said = inl said
said_refuses files (sample number options) f (_, _, none, _, _) = absurd none

pub files_stop : {K : Type 0} (out : Outside K) (o : OrderWords) (why : Stop) → out.whole_after ≡ out.whole
    → TakesInput out.files out.files_after (files_of o) (Err why) → Does out (Some o) (Err why)
files_stop out o (stop.Fault f) same (inl (file, unread, e)) = (same, unread_due out.files out.files_after o file f e unread)
files_stop out o (stop.Fault f) same (inr said) =
    (same, refusal_due out.files out.files_after o f (said_status out.files (files_of o) f said) (said_refuses out.files o f said))
files_stop out o stop.Memory same _ = same

-- the input that files say has a job of its catalogue
pub job_for : (files : FilesSeen) (names : FileNames) (input : Input) → Say files names (Ok input) → IsJobFor input.stock input.job
job_for files names input (job, catalogue, _, _, e) =
    job_is_for input.stock job input.job (job_of_input job catalogue input e)

-- ---- an analysis

pub schedule_stops : {K : Type 0} (out : Outside K) (job catalogue word : List ℕ) (input : Input) (why : Stop) → out.whole_after ≡ out.whole
    → Say out.files (files_of (analyse job catalogue word)) (Ok input) → AnalysesTo input word (Err why)
    → Does out (Some (analyse job catalogue word)) (Err why)
schedule_stops out job catalogue word input (stop.Fault f) same says (s, refuses, e) = (
  same,
  refusal_due out.files out.files_after (analyse job catalogue word) f (ap fault_status e) (inr (input, s, says, refuses, e)),
)
schedule_stops out job catalogue word input stop.Memory same says _ = same

pub analyses : (input : Input) (word : List ℕ) (a : Analysis) (text : List ℕ) → AnalysesTo input word (Ok a) → IsTextOf a text
    → Analyses input word text
analyses input word a text (same, named, computed) is =
    subst (λ (x : Input). Analyses x word text) same (
    record {
      listed = a.listed;
      named = subst (λ (x : Input). schedule_of x.stock word ≡ Ok a.listed) (sym same) named;
      range = computed.range;
      told = record {
        ratio = ratio_of a.room;
        panel = panel_of a.room;
        lines = is;
        ratios = printed_ratios a.input.stock a.input.job a.listed a.room computed.printed;
        panels = printed_panels a.input.stock a.input.job a.listed a.room computed.printed;
      };
    }
    )

pub analysis_ends : {K : Type 0} (out : Outside K) (job catalogue word : List ℕ) (input : Input) (a : Analysis) (ended : Status)
    → Say out.files (files_of (analyse job catalogue word)) (Ok input) → AnalysesTo input word (Ok a)
    → (text : List ℕ) × IsTextOf a text × WritesText status.Done text ended out.sink out.sink_after
    → Ending out (Some (analyse job catalogue word)) ended
analysis_ends out job catalogue word input a ended says made (text, is, writes) =
    text_ends out (Some (analyse job catalogue word)) status.Done ended text
    (analyse job catalogue word, refl, (refl, (input, says, analyses input word a text made is))) writes

-- ---- a write that failed

pub one_failed : (e : WriteFault) {A B : Type 0} → (IsErrOf {T = Unit {0}} (Err e) Failed → A) → (IsErrOf {T = Unit {0}} (Err e) TookNone → B) → A ⊎ B
one_failed Failed first second = inl (first refl)
one_failed TookNone first second = inr (second refl)
