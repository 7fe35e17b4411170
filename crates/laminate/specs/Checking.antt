-- What an order to check is refused for, beyond its job and its catalogue, and what it is answered with.
use Rattle.std.specs.Prelude.{◌≡◌, ℕ, List, ◌++◌, Result, codes, decimal}
use Rattle.lam_tree.specs.declared.report.Report.{Report}
use Rattle.lam_tree.specs.Checks.{Accepts}
use Rattle.lam_report.specs.ReportGrammar.{Spells}
use Rattle.lam_answers.specs.inside.Computed.{computed}
use Rattle.lam_check.specs.declared.accepted.Accepted.{Accepted}
use Rattle.lam_check.specs.declared.accepted.Accepted.TheVariants as accepted
use Rattle.lam_stream.specs.declared.checking.Refusal.{Refusal}
use Rattle.lam_stream.specs.declared.checking.Refusal.TheVariants as code
use Rattle.lam_stream.specs.Checked.{IsAccepted, IsRefusedFor}
use Rattle.laminate.specs.declared.fault.Fault.{Fault}
use Rattle.laminate.specs.declared.fault.Fault.TheVariants as fault
use Rattle.laminate.specs.declared.fault.ReportRefusal.{ReportRefusal}
use Rattle.laminate.specs.declared.fault.ReportRefusal.TheVariants as refusal
use Rattle.laminate.specs.declared.fault.Source.TheVariants as source
use Rattle.laminate.specs.declared.input.Input.{Input}
use Rattle.laminate.specs.declared.status.Status.{Status}
use Rattle.laminate.specs.declared.status.Status.TheVariants as status
use Rattle.laminate.specs.Faults.{fault_line}
use Rattle.laminate.specs.Input.{within_length}
use Rattle.laminate.specs.Outside.{FilesSeen, IsContent}

-- the file of a report holds these bytes, where that is told; and what their length says
abbrev pub HoldsReport : FilesSeen → (report bytes : List ℕ) → Result (List ℕ) Fault → Type 0
HoldsReport files report bytes said = IsContent (files.contents report) bytes × (within_length source.Report bytes ≡ said)

-- ---- accepted

-- the line of an accepted report
abbrev pub accepted_text : Accepted → List ℕ
accepted_text (accepted.Least cost) = codes "accepted least " ++ decimal cost
accepted_text accepted.NoneMeets = codes "accepted none"
accepted_text accepted.Open = codes "accepted open"

abbrev pub accepted_line : Accepted → List ℕ
accepted_line said = accepted_text said ++ codes "\n"

-- bytes spell a report of the job and the catalogue that is accepted
abbrev pub AcceptsReport : Input → List ℕ → Type 0
AcceptsReport input bytes =
    (report : Report) × Spells input.stock input.job report bytes
    × Accepts input.stock input.job (computed input.stock input.job) report

-- they do, it says so much, and it keeps its promise
abbrev pub AcceptsAs : Input → List ℕ → Accepted → Type 0
AcceptsAs input bytes said = IsAccepted input.stock input.job (computed input.stock input.job) bytes said

-- ---- refused

abbrev pub refusal_of : ReportRefusal → Refusal
refusal_of (refusal.Form f) = code.Form f
refusal_of (refusal.Cause f) = code.Cause f

-- they do not, and this is the first fault
pub record RefusesReport (input : Input) (bytes : List ℕ) (why : ReportRefusal) : Type 0 where
  pub first : IsRefusedFor input.stock input.job (computed input.stock input.job) bytes (refusal_of why)
  pub never : ¬ AcceptsReport input bytes

-- ---- either

-- what is answered to the bytes of a report
abbrev pub ChecksAs : Input → List ℕ → Status → (text : List ℕ) → Type 0
ChecksAs input bytes status.Done text = (said : Accepted) × AcceptsAs input bytes said × (text ≡ accepted_line said)
ChecksAs input bytes status.ReportRefused text =
    (why : ReportRefusal) × RefusesReport input bytes why × (text ≡ fault_line (fault.Report why))
ChecksAs input bytes other text = ⊥
