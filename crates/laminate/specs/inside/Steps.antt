-- What each step on the way from the words to the ending answers.
use Rattle.std.specs.Prelude.{◌≡◌, ◌⊎◌, ℕ, List, Option, Some, None, Result, Ok, Err, ⊤}
use Rattle.std.specs.Io.KnownBytes.{Appends}
use Rattle.lam_outside.specs.Counts.{Rose}
use Rattle.lam_outside.specs.Told.{GrowsByPrefix}
use Rattle.lam_words.specs.declared.order.Order.{Order}
use Rattle.lam_words.specs.declared.order.WordsError.{WordsError}
use Rattle.lam_words.specs.declared.order.WordsError.TheVariants as words
use Rattle.lam_words.specs.Reading.{OrderWords}
use Rattle.lam_words.specs.Spelled.{spelled}
use Rattle.laminate.specs.declared.fault.Fault.{Fault}
use Rattle.laminate.specs.declared.fault.Fault.TheVariants as fault
use Rattle.laminate.specs.declared.fault.Source.{Source}
use Rattle.laminate.specs.declared.fault.Stop.{Stop}
use Rattle.laminate.specs.declared.fault.Stop.TheVariants as stop
use Rattle.laminate.specs.declared.input.Input.{Input}
use Rattle.laminate.specs.declared.status.Status.{Status}
use Rattle.laminate.specs.declared.status.Status.TheVariants as status
use Rattle.laminate.specs.Ending.{Due, Ending}
use Rattle.laminate.specs.Faults.{fault_line, fault_status}
use Rattle.laminate.specs.Input.{within_length}
use Rattle.laminate.specs.Orders.{FileNames, Say, Unread}
use Rattle.laminate.specs.Outside.{FilesSeen, IsContent, Outside, SinkSeen}

-- what reading words answers, by what they ask for
abbrev pub IsRead : Result Order WordsError → Option OrderWords → Type 0
IsRead (Ok order) asked = asked ≡ Some (spelled order)
IsRead (Err words.Usage) asked = asked ≡ None
IsRead (Err words.Memory) asked = ⊤

-- a step gives what is meant, or stops for want of memory
abbrev pub Gives : {A : Type 0} → Result A Fault → Result A Stop → Type 0
Gives meaning (Ok a) = meaning ≡ Ok a
Gives meaning (Err (stop.Fault f)) = meaning ≡ Err f
Gives meaning (Err stop.Memory) = ⊤

-- taking a file gives its bytes, within their greatest length; or the count of its name rose; or it is too long
abbrev pub Takes : Source → Option (List ℕ) → ℕ → ℕ → Result (List ℕ) Stop → Type 0
Takes file told old new (Ok bytes) = IsContent told bytes × (within_length file bytes ≡ Ok bytes)
Takes file told old new (Err (stop.Fault f)) =
    (Rose old new × (f ≡ fault.CannotRead file))
    ⊎ ((bytes : List ℕ) × IsContent told bytes × (within_length file bytes ≡ Err f))
Takes file told old new (Err stop.Memory) = ⊤

-- taking and reading the job and the catalogue gives what they say; or one could not be read; or what they say is refused;
-- or want of memory
abbrev pub TakesInput : (old new : FilesSeen) → FileNames → Result Input Stop → Type 0
TakesInput old new names (Ok input) = Say old names (Ok input)
TakesInput old new names (Err (stop.Fault f)) =
    ((file : Source) × Unread old new names file × (f ≡ fault.CannotRead file)) ⊎ Say old names (Err f)
TakesInput old new names (Err stop.Memory) = ⊤

-- what a mode did: it wrote its answer, or a prefix of it, and ended; or it stopped before it wrote, at a fault whose line
-- is due or for want of memory
abbrev pub Does : {K : Type 0} → Outside K → Option OrderWords → Result Status Stop → Type 0
Does out order (Ok ended) = Ending out order ended
Does out order (Err (stop.Fault f)) =
    (out.whole_after ≡ out.whole) × Due out.files out.files_after order (fault_status f) (fault_line f)
Does out order (Err stop.Memory) = out.whole_after ≡ out.whole

-- a run that writes a text ends with its status where all of it was written, and with a write fault where a prefix was, and
-- the sink failed
abbrev pub WritesText : (due : Status) → List ℕ → (ended : Status) → (before after : SinkSeen) → Type 0
WritesText due text ended before after =
    ((ended ≡ due) × Appends before.written after.written text)
    ⊎ ((ended ≡ status.WriteFault) × GrowsByPrefix before.written after.written text
    × (Rose before.faults after.faults ⊎ Rose before.stalls after.stalls))

-- a run that writes the line of a fault: or memory runs out before it is written
abbrev pub WritesLine : {K : Type 0} → Fault → (ended : Status) → (before after : SinkSeen) → (whole whole_after : K) → Type 0
WritesLine f ended before after whole whole_after =
    WritesText (fault_status f) (fault_line f) ended before after ⊎ ((ended ≡ status.Memory) × (whole_after ≡ whole))
