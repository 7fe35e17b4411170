-- What an order of a sample is answered with: one line on the report of a search, and a status.
use Rattle.std.specs.Prelude.{◌≡◌, ℕ, List, ◌++◌, length, Option, Some, codes, decimal}
use Rattle.lam_tree.specs.declared.report.Answer.{Answer}
use Rattle.lam_tree.specs.declared.report.Answer.TheVariants as answer
use Rattle.lam_tree.specs.declared.report.Report.{Report}
use Rattle.lam_tree.specs.Checks.{best_cost}
use Rattle.lam_sample.specs.SampleJob.{sample_job}
use Rattle.lam_sample.specs.SampleStock.{sample_stock}
use Rattle.laminate.specs.declared.status.Status.{Status}
use Rattle.laminate.specs.Design.{IsDesign, status_of}

-- the words of an answer; of a least schedule with its cost
abbrev pub AreWords : Answer → (best : Option ℕ) → List ℕ → Type 0
AreWords answer.Least best words = (cost : ℕ) × (best ≡ Some cost) × (words ≡ codes "least " ++ decimal cost)
AreWords answer.NoneMeets best words = words ≡ codes "none"
AreWords answer.OpenBudget best words = words ≡ codes "open budget"
AreWords (answer.OpenStraddle near) best words = words ≡ codes "open straddle"

-- the number of the sample, the words of the answer, and the number of nodes
abbrev pub summary_text : (number : ℕ) → (words : List ℕ) → (nodes : ℕ) → List ℕ
summary_text number words nodes =
    codes "sample " ++ (decimal number ++ (codes " " ++ (words ++ (codes " nodes " ++ (decimal nodes ++ codes " accepted")))))

-- a text is the line on such a report as a design order writes for the job and the catalogue of the number, so that it
-- keeps its promise and is accepted; and the status is that of its answer
pub record Samples (number budget : ℕ) (ended : Status) (text : List ℕ) : Type 0 where
  pub report : Report
  pub words : List ℕ
  pub so : IsDesign (sample_stock number) (sample_job number) budget report
  pub words_are : AreWords report.answer (best_cost report.best) words
  pub text_is : text ≡ summary_text number words (length report.tree) ++ codes "\n"
  pub status_is : ended ≡ status_of report.answer
