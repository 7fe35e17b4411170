-- From the steps of a check to its ending.
use Rattle.std.proofs.Common.{◌≡◌, ◌≢◌, ◌⊎◌, inl, inr, ℕ, List, Option, Some, Result, Ok, Err, refl, sym, subst}
use Rattle.std.specs.Prelude.{String, string_bytes, IsOk, ◌↔◌}
use Rattle.std.specs.Global.{Global}
use Rattle.lam_outside.proofs.Growth.{Rose-after}
use Rattle.lam_tree.specs.declared.report.Report.{Report}
use Rattle.lam_tree.specs.Checks.{Accepts}
use Rattle.lam_report.specs.ReportGrammar.{Spells}
use Rattle.lam_answers.specs.inside.Computed.{computed}
use Rattle.lam_check.specs.declared.accepted.Accepted.{Accepted}
use Rattle.lam_stream.specs.declared.checking.Refusal.{Refusal}
use Rattle.lam_stream.specs.declared.checking.Refusal.TheVariants as code
use Rattle.lam_stream.specs.Checked.{IsRefusedFor}
use Rattle.lam_words.specs.Reading.{check}
use Rattle.laminate.specs.declared.fault.Fault.{Fault}
use Rattle.laminate.specs.declared.fault.ReportRefusal.TheVariants as refusal
use Rattle.laminate.specs.declared.fault.Source.TheVariants as source
use Rattle.laminate.specs.declared.fault.Stop.{Stop}
use Rattle.laminate.specs.declared.fault.Stop.TheVariants as stop
use Rattle.laminate.specs.declared.input.Input.{Input}
use Rattle.laminate.specs.declared.status.Status.{Status}
use Rattle.laminate.specs.declared.status.Status.TheVariants as status
use Rattle.laminate.specs.Checking.{AcceptsAs, AcceptsReport}
use Rattle.laminate.specs.Ending.{Due, Ending}
use Rattle.laminate.specs.Faults.{fault_line, fault_status}
use Rattle.laminate.specs.Orders.{Say, files_of}
use Rattle.laminate.specs.Outside.{FilesSeen, FilesStay, IsContent, Outside}
use Rattle.laminate.specs.inside.Checked.{ChecksTaken, ChecksTo, TellsAccepted, stop_for}
use Rattle.laminate.specs.inside.Steps.{Does, Takes, WritesText}
use Rattle.laminate.proofs.Endings.{text_ends}
use Rattle.laminate.proofs.InputSteps.{length_status}
use Rattle.laminate.proofs.ModeSteps.{refusal_due, same_content, unread_due}

-- ---- of the bytes of a report

-- a line of acceptance, or want of memory
pub accepted_to : (input : Input) (bytes : List ℕ) (said : Accepted) (told : Result (String Global) Stop) → AcceptsAs input bytes said
    → TellsAccepted said told → ChecksTo input bytes told
accepted_to input bytes said (Ok line) accepts e = (said, accepts, e)
accepted_to input bytes said (Err (stop.Fault f)) accepts e = absurd e
accepted_to input bytes said (Err stop.Memory) accepts _ = tt

-- no report of refused bytes is accepted
pub never_accepted : (input : Input) (bytes : List ℕ) (why : Refusal) → why ≢ code.Memory
    → ((report : Report) → Spells input.stock input.job report bytes
    → (◌≡◌ {A = Result Accepted Refusal} (Err why) (Err code.Memory))
    ⊎ (IsOk {T = Accepted} {E = Refusal} (Err why) ↔ Accepts input.stock input.job (computed input.stock input.job) report))
    → ¬ AcceptsReport input bytes
never_accepted input bytes why other agrees (report, spells, accepts) = by (agrees report spells) where
  by : (◌≡◌ {A = Result Accepted Refusal} (Err why) (Err code.Memory))
      ⊎ (IsOk {T = Accepted} {E = Refusal} (Err why) ↔ Accepts input.stock input.job (computed input.stock input.job) report) → ⊥
  by (inl e) = other cc
  by (inr both) = let ok = both.1 accepts in absurd cc

-- a refusal, or want of memory
pub refused_to : (input : Input) (bytes : List ℕ) (why : Refusal)
    → IsRefusedFor input.stock input.job (computed input.stock input.job) bytes why
    → ((report : Report) → Spells input.stock input.job report bytes
    → (◌≡◌ {A = Result Accepted Refusal} (Err why) (Err code.Memory))
    ⊎ (IsOk {T = Accepted} {E = Refusal} (Err why) ↔ Accepts input.stock input.job (computed input.stock input.job) report))
    → ChecksTo input bytes (Err (stop_for why))
refused_to input bytes code.Memory first agrees = tt
refused_to input bytes (code.Form f) first agrees =
    (refusal.Form f, record { first = first; never = never_accepted input bytes (code.Form f) (λ same. cc) agrees }, refl)
refused_to input bytes (code.Cause f) first agrees =
    (refusal.Cause f, record { first = first; never = never_accepted input bytes (code.Cause f) (λ same. cc) agrees }, refl)

-- ---- of a file that is taken

-- taking it stops the check
pub taken_stops : (input : Input) (told : Option (List ℕ)) (old new : ℕ) (why : Stop) → Takes source.Report told old new (Err why)
    → ChecksTaken input told old new (Err why)
taken_stops input told old new (stop.Fault f) stops = inl stops
taken_stops input told old new stop.Memory stops = tt

-- what it holds is checked
pub taken_checks : (input : Input) (told : Option (List ℕ)) (old new : ℕ) (bytes : List ℕ) (checked : Result (String Global) Stop)
    → Takes source.Report told old new (Ok bytes) → ChecksTo input bytes checked → ChecksTaken input told old new checked
taken_checks input told old new bytes (Ok line) takes checks = (bytes, takes.0, takes.1, checks)
taken_checks input told old new bytes (Err (stop.Fault f)) takes checks = inr (bytes, takes.0, takes.1, checks)
taken_checks input told old new bytes (Err stop.Memory) takes checks = tt

-- ---- the ending

module _ {K : Type 0} (out : Outside K) (mid : FilesSeen) (job catalogue report : List ℕ) (input : Input) (stay : FilesStay out.files mid)
    (says : Say out.files (files_of (check job catalogue report)) (Ok input)) where
  held_before : (bytes : List ℕ) → IsContent (mid.contents report) bytes → IsContent (out.files.contents report) bytes
  held_before bytes is = same_content (mid.contents report) (out.files.contents report) bytes (stay.contents report) is

  pub report_stops : (why : Stop) → out.whole_after ≡ out.whole
      → ChecksTaken input (mid.contents report) (mid.faults report) (out.files_after.faults report) (Err why)
      → Does out (Some (check job catalogue report)) (Err why)
  report_stops (stop.Fault f) same (inl (inl (rose, e))) = (
    same,
    unread_due out.files out.files_after (check job catalogue report) source.Report f e
        ((input, says), Rose-after (out.files.faults report) (mid.faults report) (out.files_after.faults report) (stay.faults report) rose),
  )
  report_stops (stop.Fault f) same (inl (inr (bytes, is, e))) = (
    same,
    refusal_due out.files out.files_after (check job catalogue report) f (length_status source.Report bytes f e)
        (inr (input, bytes, says, (held_before bytes is, e))),
  )
  report_stops (stop.Fault f) same (inr (bytes, is, short, (why, refuses, e))) = (
    same,
    subst (λ (x : Fault). Due out.files out.files_after (Some (check job catalogue report)) (fault_status x) (fault_line x)) (sym e)
        (check job catalogue report, refl, (input, bytes, says, (held_before bytes is, short), (why, refuses, refl))),
  )
  report_stops stop.Memory same _ = same

  pub check_ends : (line : String Global) (ended : Status)
      → ChecksTaken input (mid.contents report) (mid.faults report) (out.files_after.faults report) (Ok line)
      → WritesText status.Done (string_bytes line) ended out.sink out.sink_after → Ending out (Some (check job catalogue report)) ended
  check_ends line ended (bytes, is, short, (said, accepts, e)) writes =
      text_ends out (Some (check job catalogue report)) status.Done ended (string_bytes line)
      (check job catalogue report, refl, (input, bytes, says, (held_before bytes is, short), (said, accepts, e))) writes
