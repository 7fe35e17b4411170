-- How an answer tells what a part of a job holds, or its fault.
use Rattle.std.specs.Prelude.{◌≡◌, ⊤, ℕ, List, ◌∷◌, [], map, Bool, true, false, if◌then◌else◌, bytes_eq, Option, Some, None, Result, Ok, Err}
use Rattle.std.specs.Option.{option_or}
use Rattle.toml.specs.Data.{Members}
use Rattle.lam_job.specs.declared.fault.JobError.{JobError}
use Rattle.lam_job.specs.declared.fault.JobError.TheVariants.{Refused, Memory}
use Rattle.lam_job.specs.declared.fault.JobFault.{JobFault}
use Rattle.lam_job.specs.declared.fault.JobPlace.{JobPlace}
use Rattle.lam_job.specs.JobOf.{rows_fault, unknown_fault}
use Rattle.lam_job.specs.Keys.{Row, kind_row}

-- the data where there is no fault, else the fault
abbrev pub Tells : {A E : Type 0} → Result A E → Option E → A → Type 0
Tells (Ok a) fault held = (fault ≡ None) × (a ≡ held)
Tells (Err e) fault held = fault ≡ Some e

-- the same, or that memory ran out
abbrev pub TellsJob : {A : Type 0} → Result A JobError → Option JobFault → A → Type 0
TellsJob (Ok a) fault held = (fault ≡ None) × (a ≡ held)
TellsJob (Err (Refused e)) fault held = fault ≡ Some e
TellsJob (Err Memory) fault held = ⊤

-- what was found where there is no cause, else the cause
abbrev pub Takes : {A E : Type 0} → Result A E → Option E → Option A → Type 0
Takes (Ok a) cause found = (cause ≡ None) × (found ≡ Some a)
Takes (Err e) cause found = cause ≡ Some e

-- whether a text is the first of two, where it is one of them
abbrev pub first_text : (first second : List ℕ) → Option (List ℕ) → Option Bool
first_text first second None = None
first_text first second (Some text) = if bytes_eq first text then Some true else if bytes_eq second text then Some false else None

-- the first fault of a case after its kind: of the rows of its kind, and then of an unknown key
abbrev pub rest_fault : JobPlace → List Row → Members → Option JobFault
rest_fault place rows ms = option_or (rows_fault place rows ms) (unknown_fault place (map (λ row. row.key) (kind_row ∷ rows)) [] ms)
