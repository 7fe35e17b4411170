-- What the steps of a check answer.
use Rattle.std.specs.Prelude.{◌≡◌, ◌⊎◌, ℕ, List, Option, Result, Ok, Err, String, string_bytes, ⊤}
use Rattle.std.specs.Global.{Global}
use Rattle.lam_check.specs.declared.accepted.Accepted.{Accepted}
use Rattle.laminate.specs.declared.fault.Fault.TheVariants as fault
use Rattle.lam_stream.specs.declared.checking.Refusal.{Refusal}
use Rattle.lam_stream.specs.declared.checking.Refusal.TheVariants as code
use Rattle.laminate.specs.declared.fault.ReportRefusal.{ReportRefusal}
use Rattle.laminate.specs.declared.fault.ReportRefusal.TheVariants as refusal
use Rattle.laminate.specs.declared.fault.Source.TheVariants as source
use Rattle.laminate.specs.declared.fault.Stop.{Stop}
use Rattle.laminate.specs.declared.fault.Stop.TheVariants as stop
use Rattle.laminate.specs.declared.input.Input.{Input}
use Rattle.laminate.specs.Checking.{AcceptsAs, RefusesReport, accepted_line}
use Rattle.laminate.specs.Input.{within_length}
use Rattle.laminate.specs.Outside.{IsContent}
use Rattle.laminate.specs.inside.Steps.{Takes}

-- what a refusal stops an order with
abbrev pub stop_for : Refusal → Stop
stop_for code.Memory = stop.Memory
stop_for (code.Form f) = stop.Fault (fault.Report (refusal.Form f))
stop_for (code.Cause f) = stop.Fault (fault.Report (refusal.Cause f))

-- the line of an accepted report, or want of memory
abbrev pub TellsAccepted : Accepted → Result (String Global) Stop → Type 0
TellsAccepted said (Ok line) = string_bytes line ≡ accepted_line said
TellsAccepted said (Err (stop.Fault f)) = ⊥
TellsAccepted said (Err stop.Memory) = ⊤

-- the same of the report that bytes spell, or why it is refused
abbrev pub ChecksTo : Input → List ℕ → Result (String Global) Stop → Type 0
ChecksTo input bytes (Ok line) = (said : Accepted) × AcceptsAs input bytes said × (string_bytes line ≡ accepted_line said)
ChecksTo input bytes (Err (stop.Fault f)) = (why : ReportRefusal) × RefusesReport input bytes why × (f ≡ fault.Report why)
ChecksTo input bytes (Err stop.Memory) = ⊤

-- the same of what a file holds
abbrev pub ChecksHeld : Input → (told : Option (List ℕ)) → Result (String Global) Stop → Type 0
ChecksHeld input told checked =
    (bytes : List ℕ) × IsContent told bytes × (within_length source.Report bytes ≡ Ok bytes) × ChecksTo input bytes checked

-- the same of a file that is taken
abbrev pub ChecksTaken : Input → (told : Option (List ℕ)) → (old new : ℕ) → Result (String Global) Stop → Type 0
ChecksTaken input told old new (Ok line) = ChecksHeld input told (Ok line)
ChecksTaken input told old new (Err (stop.Fault f)) =
    Takes source.Report told old new (Err (stop.Fault f)) ⊎ ChecksHeld input told (Err (stop.Fault f))
ChecksTaken input told old new (Err stop.Memory) = ⊤
