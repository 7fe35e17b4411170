-- What an order is answered with, and what it is refused for: a line a mode.
use Rattle.std.specs.Prelude.{◌≡◌, ◌⊎◌, ℕ, List, Ok, Err}
use Rattle.lam_words.specs.Reading.{OrderWords, design, analyse, check, sample}
use Rattle.laminate.specs.declared.fault.Fault.{Fault}
use Rattle.laminate.specs.declared.fault.Fault.TheVariants as fault
use Rattle.laminate.specs.declared.fault.ScheduleFault.{ScheduleFault}
use Rattle.laminate.specs.declared.input.Input.{Input}
use Rattle.laminate.specs.declared.status.Status.{Status}
use Rattle.laminate.specs.declared.status.Status.TheVariants as status
use Rattle.laminate.specs.Analysis.{Analyses, RefusesSchedule}
use Rattle.laminate.specs.Design.{Designs}
use Rattle.laminate.specs.Checking.{AcceptsReport, ChecksAs, HoldsReport}
use Rattle.laminate.specs.Sampling.{Samples}
use Rattle.laminate.specs.Orders.{Say, files_of}
use Rattle.laminate.specs.Outside.{FilesSeen}

-- an answer to an order: a status, and the text that goes with it
abbrev pub Answers : FilesSeen → OrderWords → Status → List ℕ → Type 0
Answers files (design job catalogue options) ended text =
    (input : Input) × Say files (files_of (design job catalogue options)) (Ok input) × Designs input options.nodes ended text
Answers files (analyse job catalogue word) ended text =
    (ended ≡ status.Done) × ((input : Input) × Say files (files_of (analyse job catalogue word)) (Ok input) × Analyses input word text)
Answers files (check job catalogue report) ended text =
    (input : Input) × (bytes : List ℕ) × Say files (files_of (check job catalogue report)) (Ok input)
    × HoldsReport files report bytes (Ok bytes) × ChecksAs input bytes ended text
Answers files (sample number options) ended text = Samples number options.nodes ended text

-- a fault is the first cause to refuse an order
abbrev pub Refuses : FilesSeen → OrderWords → Fault → Type 0
Refuses files (design job catalogue options) f = Say files (files_of (design job catalogue options)) (Err f)
Refuses files (analyse job catalogue word) f =
    Say files (files_of (analyse job catalogue word)) (Err f)
    ⊎ ((input : Input) × (s : ScheduleFault) × Say files (files_of (analyse job catalogue word)) (Ok input)
    × RefusesSchedule input word s × (f ≡ fault.Schedule s))
Refuses files (check job catalogue report) f =
    Say files (files_of (check job catalogue report)) (Err f)
    ⊎ ((input : Input) × (bytes : List ℕ) × Say files (files_of (check job catalogue report)) (Ok input)
    × HoldsReport files report bytes (Err f))
Refuses files (sample number options) f = ⊥

-- the statuses with which an order ends that is answered
abbrev pub MayEnd : OrderWords → Status → Type 0
MayEnd (design job catalogue options) ended = (ended ≡ status.Done) ⊎ (ended ≡ status.Open)
MayEnd (analyse job catalogue word) ended = ended ≡ status.Done
MayEnd (check job catalogue report) ended = (ended ≡ status.Done) ⊎ (ended ≡ status.ReportRefused)
MayEnd (sample number options) ended = (ended ≡ status.Done) ⊎ (ended ≡ status.Open)

-- an order is to check a report, and the report is accepted
abbrev pub ChecksAccepted : FilesSeen → OrderWords → Type 0
ChecksAccepted files (design job catalogue options) = ⊥
ChecksAccepted files (analyse job catalogue word) = ⊥
ChecksAccepted files (check job catalogue report) =
    (input : Input) × (bytes : List ℕ) × Say files (files_of (check job catalogue report)) (Ok input)
    × HoldsReport files report bytes (Ok bytes) × AcceptsReport input bytes
ChecksAccepted files (sample number options) = ⊥
