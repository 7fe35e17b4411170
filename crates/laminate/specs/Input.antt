-- What the job and the catalogue of an order say, from the contents of the two files; or the first cause to refuse them.
-- The causes are looked for in the order of the steps: the length of the job, that of the catalogue, the catalogue's
-- content, the job's content.
use Rattle.std.specs.Prelude.{ℕ, nat_le, List, length, Result, Ok, Err, if◌then◌else◌}
use Rattle.lam_stock.specs.declared.item.Item.{Item}
use Rattle.lam_stock.specs.Catalogue.{stock_of}
use Rattle.lam_job.specs.JobData.{JobData}
use Rattle.lam_job.specs.JobOf.{job_of}
use Rattle.laminate.specs.declared.fault.Fault.{Fault}
use Rattle.laminate.specs.declared.fault.Fault.TheVariants as fault
use Rattle.laminate.specs.declared.fault.Source.{Source}
use Rattle.laminate.specs.declared.fault.Source.TheVariants as source
use Rattle.laminate.specs.declared.input.Input.{Input}
use Rattle.laminate.specs.declared.input.TheConstants.{GREATEST_INPUT, GREATEST_REPORT}

-- a step after another, which is taken where the first isn't refused: so the first refusal is the one that is answered
abbrev pub then_step : {A B : Type 0} → Result A Fault → (A → Result B Fault) → Result B Fault
then_step (Ok a) next = next a
then_step (Err fault) next = Err fault

-- a step whose refusals are those of a kind of fault
abbrev pub as_fault : {A E : Type 0} → (E → Fault) → Result A E → Result A Fault
as_fault kind (Ok a) = Ok a
as_fault kind (Err e) = Err (kind e)

-- the most bytes of a file
abbrev pub most_bytes : Source → ℕ
most_bytes source.Job = GREATEST_INPUT
most_bytes source.Catalogue = GREATEST_INPUT
most_bytes source.Report = GREATEST_REPORT

-- a file within its greatest length
abbrev pub within_length : Source → List ℕ → Result (List ℕ) Fault
within_length file bytes = if nat_le (length bytes) (most_bytes file) then Ok bytes else Err (fault.TooLong file)

-- a job beside the items of a catalogue
abbrev pub with_job : List Item → JobData → Result Input Fault
with_job stock job = Ok (record { stock = stock; job = job })

-- the items of the catalogue and the job, or the first refusal
unfoldable pub input_of : (job catalogue : List ℕ) → Result Input Fault
input_of job catalogue =
    then_step (within_length source.Job job) (λ _.
    then_step (within_length source.Catalogue catalogue) (λ _.
    then_step (as_fault fault.Catalogue (stock_of catalogue)) (λ stock.
    then_step (as_fault fault.Job (job_of job stock)) (with_job stock))))
