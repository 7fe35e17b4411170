-- What an order to design is answered with: the text of a report of a search, and a status.
use Rattle.std.specs.Prelude.{◌≡◌, ◌≢◌, ℕ, ◌≤◌, List, length}
use Rattle.lam_stock.specs.declared.item.Item.{Item}
use Rattle.lam_job.specs.JobData.{JobData}
use Rattle.lam_job.specs.Partial.{total_partials}
use Rattle.lam_tree.specs.declared.report.Answer.{Answer}
use Rattle.lam_tree.specs.declared.report.Answer.TheVariants as answer
use Rattle.lam_tree.specs.declared.report.Report.{Report}
use Rattle.lam_tree.specs.Checks.{Accepts}
use Rattle.lam_tree.specs.Promise.{Promise}
use Rattle.lam_tree.specs.ReportRanges.{IsReport}
use Rattle.lam_answers.specs.inside.Computed.{computed}
use Rattle.lam_report.specs.ReportText.{report_text}
use Rattle.laminate.specs.declared.input.Input.{Input}
use Rattle.laminate.specs.declared.status.Status.{Status}
use Rattle.laminate.specs.declared.status.Status.TheVariants.{Done, Open}

-- a least schedule, and that none meets, decide the job; the two open answers don't
abbrev pub status_of : Answer → Status
status_of answer.Least = Done
status_of answer.NoneMeets = Done
status_of answer.OpenBudget = Open
status_of (answer.OpenStraddle near) = Open

-- a report of a search within a budget of nodes: it keeps its promise; the grammar of reports spells it; the checker accepts it;
-- and the budget is not used up where no search tree has more nodes
pub record IsDesign (stock : List Item) (job : JobData) (budget : ℕ) (report : Report) : Type 0 where
  pub promise : Promise stock job budget report
  pub spelled : IsReport stock job report
  pub accepted : Accepts stock job (computed stock job) report
  pub enough : total_partials job.rules.symmetric (length stock) job.limit ≤ budget → report.answer ≢ answer.OpenBudget

-- a text is that of such a report, and the status is that of its answer
pub record Designs (input : Input) (budget : ℕ) (ended : Status) (text : List ℕ) : Type 0 where
  pub report : Report
  pub text_is : text ≡ report_text input.stock input.job report
  pub status_is : ended ≡ status_of report.answer
  pub so : IsDesign input.stock input.job budget report
