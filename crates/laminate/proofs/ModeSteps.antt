-- From the steps of a mode to what it did.
use Rattle.std.proofs.Common.{◌≡◌, inl, inr, ℕ, List, [], Option, Some, None, Result, Ok, Err, refl, sym, subst, ◌∙◌, le_trans}
use Rattle.lam_outside.proofs.Growth.{Rose-after}
use Rattle.lam_words.specs.Reading.{OrderWords}
use Rattle.laminate.specs.declared.fault.Fault.{Fault}
use Rattle.laminate.specs.declared.fault.Fault.TheVariants as fault
use Rattle.laminate.specs.declared.fault.Source.{Source}
use Rattle.laminate.specs.declared.fault.Source.TheVariants as source
use Rattle.laminate.specs.declared.fault.Stop.{Stop}
use Rattle.laminate.specs.declared.fault.Stop.TheVariants as stop
use Rattle.laminate.specs.declared.input.Input.{Input}
use Rattle.laminate.specs.declared.status.Status.{Status}
use Rattle.laminate.specs.declared.status.Status.TheVariants as status
use Rattle.laminate.specs.Answers.{Refuses}
use Rattle.laminate.specs.Ending.{Due}
use Rattle.laminate.specs.Faults.{fault_line, fault_status}
use Rattle.laminate.specs.Input.{input_of}
use Rattle.laminate.specs.Orders.{FileNames, Say, Unread, files_of}
use Rattle.laminate.specs.Outside.{FilesSeen, FilesStay, IsContent}
use Rattle.laminate.specs.inside.Steps.{Gives, Takes, TakesInput}
use Rattle.laminate.proofs.InputSteps.{long_catalogue, long_job, refusal_status}

-- ---- taking the two files

pub files_stay_on : (a b c : FilesSeen) → FilesStay a b → FilesStay b c → FilesStay a c
files_stay_on a b c first second = record {
  contents = λ name. second.contents name ∙ first.contents name;
  faults = λ name. le_trans (first.faults name) (second.faults name);
}

-- some bytes are those of a file
some_content : (told : Option (List ℕ)) → (bytes : List ℕ) × IsContent told bytes
some_content None = ([], tt)
some_content (Some bytes) = (bytes, refl)

pub same_content : (a b : Option (List ℕ)) (bytes : List ℕ) → a ≡ b → IsContent a bytes → IsContent b bytes
same_content a b bytes e is = subst (λ (x : Option (List ℕ)). IsContent x bytes) e is

-- the names of a job and a catalogue that are taken, beside that of a report
abbrev pub two_names : (job catalogue : List ℕ) → Option (List ℕ) → FileNames
two_names job catalogue report = record { job = Some job; catalogue = Some catalogue; report = report }

pub stopped_at_job : (old new : FilesSeen) (job catalogue : List ℕ) (why : Stop)
    → Takes source.Job (old.contents job) (old.faults job) (new.faults job) (Err why)
    → (report : Option (List ℕ)) → TakesInput old new (two_names job catalogue report) (Err why)
stopped_at_job old new job catalogue (stop.Fault f) (inl (rose, e)) report = inl (source.Job, (tt, rose), e)
stopped_at_job old new job catalogue (stop.Fault f) (inr (bytes, is, e)) report =
    let other = some_content (old.contents catalogue) in
    inr (bytes, other.0, is, other.1, long_job bytes other.0 f e)
stopped_at_job old new job catalogue stop.Memory _ report = tt

pub stopped_at_catalogue : (old mid new : FilesSeen) (job catalogue bytes : List ℕ) (why : Stop) → FilesStay old mid
    → Takes source.Job (old.contents job) (old.faults job) (mid.faults job) (Ok bytes)
    → Takes source.Catalogue (mid.contents catalogue) (mid.faults catalogue) (new.faults catalogue) (Err why)
    → (report : Option (List ℕ)) → TakesInput old new (two_names job catalogue report) (Err why)
stopped_at_catalogue old mid new job catalogue bytes (stop.Fault f) stay first (inl (rose, e)) report =
    inl (
      source.Catalogue,
      ((bytes, first.0, first.1), Rose-after (old.faults catalogue) (mid.faults catalogue) (new.faults catalogue) (stay.faults catalogue) rose),
      e,
    )
stopped_at_catalogue old mid new job catalogue bytes (stop.Fault f) stay first (inr (c, is, e)) report =
    inr (
      bytes,
      c,
      first.0,
      same_content (mid.contents catalogue) (old.contents catalogue) c (stay.contents catalogue) is,
      long_catalogue bytes c f first.1 e,
    )
stopped_at_catalogue old mid new job catalogue bytes stop.Memory stay first _ report = tt

-- what was read of the two files is what they say
pub input_taken : (old mid new : FilesSeen) (job catalogue bytes c : List ℕ) (read : Result Input Stop) → FilesStay old mid
    → Takes source.Job (old.contents job) (old.faults job) (mid.faults job) (Ok bytes)
    → Takes source.Catalogue (mid.contents catalogue) (mid.faults catalogue) (new.faults catalogue) (Ok c)
    → Gives (input_of bytes c) read → (report : Option (List ℕ)) → TakesInput old new (two_names job catalogue report) read
input_taken old mid new job catalogue bytes c (Ok input) stay first second e report =
    (bytes, c, first.0, same_content (mid.contents catalogue) (old.contents catalogue) c (stay.contents catalogue) second.0, e)
input_taken old mid new job catalogue bytes c (Err (stop.Fault f)) stay first second e report =
    inr (bytes, c, first.0, same_content (mid.contents catalogue) (old.contents catalogue) c (stay.contents catalogue) second.0, e)
input_taken old mid new job catalogue bytes c (Err stop.Memory) stay first second _ report = tt

-- ---- the line of a fault is due

-- a fault of a status is due with that status
due_as : (old new : FilesSeen) (order : Option OrderWords) (f : Fault) (s : Status) → fault_status f ≡ s
    → Due old new order s (fault_line f) → Due old new order (fault_status f) (fault_line f)
due_as old new order f s e due = subst (λ (x : Status). Due old new order x (fault_line f)) (sym e) due

pub refusal_due : (old new : FilesSeen) (o : OrderWords) (f : Fault) → fault_status f ≡ status.Refused → Refuses old o f
    → Due old new (Some o) (fault_status f) (fault_line f)
refusal_due old new o f e refuses = due_as old new (Some o) f status.Refused e (o, f, refl, refuses, refl)

pub unread_due : (old new : FilesSeen) (o : OrderWords) (file : Source) (f : Fault) → f ≡ fault.CannotRead file
    → Unread old new (files_of o) file → Due old new (Some o) (fault_status f) (fault_line f)
unread_due old new o file f e unread =
    subst (λ (x : Fault). Due old new (Some o) (fault_status x) (fault_line x)) (sym e) (o, file, refl, unread, refl)

-- what files say is refused with the status of refusals
pub said_status : (files : FilesSeen) (names : FileNames) (f : Fault) → Say files names (Err f) → fault_status f ≡ status.Refused
said_status files names f (job, catalogue, _, _, e) = refusal_status job catalogue f e
