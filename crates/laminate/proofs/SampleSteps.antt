-- From the steps of a sample to its ending.
use Rattle.std.proofs.Common.{◌≡◌, ℕ, List, Some, Result, Ok, Err, sym, subst}
use Rattle.lam_stock.specs.declared.item.Item.{Item}
use Rattle.lam_job.specs.JobData.{JobData}
use Rattle.lam_words.specs.declared.order.GuideName.{GuideName}
use Rattle.lam_words.specs.Reading.{OrderWords, sample}
use Rattle.lam_sample.specs.SampleJob.{sample_job}
use Rattle.lam_tree.specs.declared.report.Answer.{Answer}
use Rattle.laminate.specs.declared.fault.Stop.{Stop}
use Rattle.laminate.specs.declared.fault.Stop.TheVariants as stop
use Rattle.laminate.specs.declared.modes.design.Design.{Design}
use Rattle.laminate.specs.declared.status.Status.{Status}
use Rattle.laminate.specs.Design.{IsDesign, status_of}
use Rattle.laminate.specs.Ending.{Due}
use Rattle.laminate.specs.Outside.{FilesSeen, Outside}
use Rattle.laminate.specs.Sampling.{Samples}
use Rattle.laminate.specs.inside.Sampled.{IsDesignOf, IsSummaryOf, SamplesTo}
use Rattle.laminate.specs.inside.Steps.{Does}
use Rattle.laminate.proofs.DesignSteps.{due_by}
use Rattle.laminate.proofs.Endings.{text_ends}

-- what is found of the job and the catalogue of a number, with its line
pub sampled : (number nodes : ℕ) (d : Design) (line : List ℕ) (due : Status) → IsDesignOf number nodes d
    → IsSummaryOf number d.report line → due ≡ status_of d.report.answer → Samples number nodes due line
sampled number nodes d line due is summary due_is = record {
  report = d.report;
  words = summary.words;
  so = subst (λ (stock : List Item). IsDesign stock (sample_job number) nodes d.report) is.sample.stock
      (subst (λ (job : JobData). IsDesign d.input.stock job nodes d.report) is.sample.job is.so);
  words_are = summary.words_are;
  text_is = summary.line_is;
  status_is = due_is;
}

-- the line is due with the status of its answer
sample_due : (before after : FilesSeen) (name : GuideName) (number nodes : ℕ) (due : Status) (text : List ℕ)
    → Samples number nodes due text → Due before after (Some (sample number (record { guide = name; nodes = nodes }))) due text
sample_due before after name number nodes due text samples =
    let o : OrderWords = sample number (record { guide = name; nodes = nodes }) in
    let given : Answer = samples.report.answer in
    let as_given : Samples number nodes (status_of given) text = subst (λ (s : Status). Samples number nodes s text) samples.status_is samples in
    subst (λ (s : Status). Due before after (Some o) s text) (sym samples.status_is) (due_by before after o given text as_given)

pub sample_ends : {K : Type 0} (out : Outside K) (name : GuideName) (number nodes : ℕ) (did : Result Status Stop)
    → SamplesTo number nodes did out.sink out.sink_after out.whole out.whole_after
    → Does out (Some (sample number (record { guide = name; nodes = nodes }))) did
sample_ends out name number nodes (Ok ended) (due, text, samples, writes) =
    text_ends out (Some (sample number (record { guide = name; nodes = nodes }))) due ended text
    (sample_due out.files out.files_after name number nodes due text samples) writes
sample_ends out name number nodes (Err (stop.Fault f)) stops = absurd stops
sample_ends out name number nodes (Err stop.Memory) same = same
