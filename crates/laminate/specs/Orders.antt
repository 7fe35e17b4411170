-- The order that the words have, and the names of the files that it takes.
use Rattle.std.specs.Prelude.{◌≡◌, ℕ, List, Option, Some, None, IfSome, IsSome, IsSomeAnd, map, string_bytes, String, Result, Ok, ⊤}
use Rattle.std.specs.Global.{Global}
use Rattle.lam_outside.specs.Counts.{Rose}
use Rattle.lam_words.specs.Reading.{OrderWords, design, analyse, check, sample, reading}
use Rattle.laminate.specs.declared.fault.Fault.{Fault}
use Rattle.laminate.specs.declared.fault.Source.{Source}
use Rattle.laminate.specs.declared.fault.Source.TheVariants as source
use Rattle.laminate.specs.declared.input.Input.{Input}
use Rattle.laminate.specs.Input.{input_of, within_length}
use Rattle.laminate.specs.Outside.{FilesSeen, IsContent}

-- the order that texts are, if they are one
abbrev pub order_of : List (String Global) → Option OrderWords
order_of words = reading (map string_bytes words)

-- ---- the files of an order

-- the names of the files that an order takes
pub record FileNames : Type 0 where
  pub job : Option (List ℕ)
  pub catalogue : Option (List ℕ)
  pub report : Option (List ℕ)

abbrev pub files_of : OrderWords → FileNames
files_of (design job catalogue options) = record { job = Some job; catalogue = Some catalogue; report = None }
files_of (analyse job catalogue schedule) = record { job = Some job; catalogue = Some catalogue; report = None }
files_of (check job catalogue report) = record { job = Some job; catalogue = Some catalogue; report = Some report }
files_of (sample number options) = record { job = None; catalogue = None; report = None }

abbrev pub name_of : FileNames → Source → Option (List ℕ)
name_of names source.Job = names.job
name_of names source.Catalogue = names.catalogue
name_of names source.Report = names.report

-- the file has a name, and what it holds are these bytes, where that is told
abbrev pub Holds : FilesSeen → Option (List ℕ) → List ℕ → Type 0
Holds files name bytes = IsSomeAnd name (λ n. IsContent (files.contents n) bytes)

-- what the job and the catalogue say: the input, or the first refusal
abbrev pub Say : FilesSeen → FileNames → Result Input Fault → Type 0
Say files names said =
    (job : List ℕ) × (catalogue : List ℕ) × Holds files names.job job × Holds files names.catalogue catalogue
    × (input_of job catalogue ≡ said)

-- a file is reached: the catalogue after a job within its length, a report after a job and a catalogue that say an input
abbrev pub Reached : FilesSeen → FileNames → Source → Type 0
Reached files names source.Job = ⊤
Reached files names source.Catalogue =
    (job : List ℕ) × Holds files names.job job × (within_length source.Job job ≡ Ok job)
Reached files names source.Report = (input : Input) × Say files names (Ok input)

-- a file that is reached could not be read: the count of faults of its name rose
abbrev pub Unread : (before after : FilesSeen) → FileNames → Source → Type 0
Unread before after names file =
    Reached before names file × IsSomeAnd (name_of names file) (λ n. Rose (before.faults n) (after.faults n))

-- each file that is reached could be read
abbrev pub AllRead : (before after : FilesSeen) → FileNames → Type 0
AllRead before after names = (file : Source) → ¬ Unread before after names file

-- each file that is reached tells its contents
abbrev pub IsTold : FilesSeen → FileNames → Type 0
IsTold files names = (file : Source) → Reached files names file → IfSome (name_of names file) (λ n. IsSome (files.contents n))
