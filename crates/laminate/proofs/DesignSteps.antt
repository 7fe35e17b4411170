-- From the steps of a design to its ending.
use Rattle.std.proofs.Common.{◌≡◌, ◌≢◌, ℕ, ◌≤◌, List, length, Option, Some, None, Ok, refl, subst}
use Rattle.std.specs.Prelude.{IfSome}
use Rattle.lam_stock.specs.declared.item.Item.{Item}
use Rattle.lam_job.specs.JobData.{JobData}
use Rattle.lam_words.specs.declared.order.GuideName.{GuideName}
use Rattle.lam_words.specs.Reading.{OrderWords, design}
use Rattle.lam_tree.specs.declared.report.Answer.{Answer}
use Rattle.lam_tree.specs.declared.report.Answer.TheVariants as answer
use Rattle.lam_job.specs.Partial.{total_partials}
use Rattle.lam_tree.specs.declared.report.Best.{Best}
use Rattle.lam_tree.specs.Checks.{Accepts}
use Rattle.lam_tree.specs.Promise.{HasPanels, HasRatios, Promise}
use Rattle.lam_tree.specs.ReportRanges.{IsReport}
use Rattle.lam_answers.specs.inside.Computed.{computed}
use Rattle.lam_search.specs.declared.searching.Found.{Found}
use Rattle.lam_search.specs.Reports.{ArePrintable, CheckAsPrinted, report_of}
use Rattle.lam_report.specs.ReportText.{report_text}
use Rattle.laminate.specs.declared.input.Input.{Input}
use Rattle.laminate.specs.declared.modes.design.Design.{Design}
use Rattle.laminate.specs.declared.status.Status.{Status}
use Rattle.laminate.specs.Answers.{Answers}
use Rattle.laminate.specs.Design.{Designs, IsDesign, status_of}
use Rattle.laminate.specs.Ending.{Due, Ending}
use Rattle.laminate.specs.Orders.{Say, files_of}
use Rattle.laminate.specs.Outside.{FilesSeen, Outside}
use Rattle.laminate.specs.inside.Printing.{ArePrintedOfBest}
use Rattle.laminate.specs.inside.Steps.{WritesText}
use Rattle.laminate.proofs.Endings.{text_ends}

-- ---- what was found, with the printed ratios of its best schedule

module _ (stock : List Item) (job : JobData) (ratios panels : List ℕ) where
  checks : (best : Option Best) → ArePrintedOfBest stock job best ratios panels → CheckAsPrinted stock job (computed stock job) best ratios panels
  checks None are = tt
  checks (Some b) are = (are.ratios_computed, are.panels_computed)

  has : (best : Option Best) → ArePrintedOfBest stock job best ratios panels
      → IfSome best (λ b. HasRatios stock job b.plies ratios × HasPanels stock job b.plies panels)
  has None are = tt
  has (Some b) are = (are.has_ratios, are.has_panels)

  printable : (best : Option Best) → ArePrintedOfBest stock job best ratios panels → ArePrintable stock job best ratios panels
  printable None are = are
  printable (Some b) are = (are.are_ratios, are.are_panels)

pub found_design : (stock : List Item) (job : JobData) (nodes : ℕ) (found : Found) (ratios panels : List ℕ)
    → ((r p : List ℕ) → CheckAsPrinted stock job (computed stock job) found.best r p → Accepts stock job (computed stock job) (report_of nodes found r p))
    → ((r p : List ℕ) → IfSome found.best (λ b. HasRatios stock job b.plies r × HasPanels stock job b.plies p)
    → Promise stock job nodes (report_of nodes found r p))
    → ((r p : List ℕ) → ArePrintable stock job found.best r p → IsReport stock job (report_of nodes found r p))
    → (total_partials job.rules.symmetric (length stock) job.limit ≤ nodes → found.answer ≢ answer.OpenBudget)
    → ArePrintedOfBest stock job found.best ratios panels → IsDesign stock job nodes (report_of nodes found ratios panels)
found_design stock job nodes found ratios panels accepted promise grammar enough are = record {
  promise = promise ratios panels (has stock job ratios panels found.best are);
  spelled = grammar ratios panels (printable stock job ratios panels found.best are);
  accepted = accepted ratios panels (checks stock job ratios panels found.best are);
  enough = enough;
}

-- ---- from a design to its ending

-- an answer is due with its status
pub due_by : (before after : FilesSeen) (o : OrderWords) (given : Answer) (text : List ℕ) → Answers before o (status_of given) text
    → Due before after (Some o) (status_of given) text
due_by before after o answer.Least text h = (o, refl, h)
due_by before after o answer.NoneMeets text h = (o, refl, h)
due_by before after o answer.OpenBudget text h = (o, refl, h)
due_by before after o (answer.OpenStraddle near) text h = (o, refl, h)

designs : (input : Input) (nodes : ℕ) (d : Design) → d.input ≡ input → IsDesign input.stock input.job nodes d.report
    → Designs input nodes (status_of d.report.answer) (report_text d.input.stock d.input.job d.report)
designs input nodes d same so = record {
  report = d.report;
  text_is = subst (λ (x : Input). report_text d.input.stock d.input.job d.report ≡ report_text x.stock x.job d.report) same refl;
  status_is = refl;
  so = so;
}

pub design_ends : {K : Type 0} (out : Outside K) (name : GuideName) (job catalogue : List ℕ) (nodes : ℕ) (input : Input) (d : Design) (ended : Status)
    → Say out.files (files_of (design job catalogue (record { guide = name; nodes = nodes }))) (Ok input)
    → d.input ≡ input → IsDesign input.stock input.job nodes d.report
    → WritesText (status_of d.report.answer) (report_text d.input.stock d.input.job d.report) ended out.sink out.sink_after
    → Ending out (Some (design job catalogue (record { guide = name; nodes = nodes }))) ended
design_ends out name job catalogue nodes input d ended says same so writes =
    let o : OrderWords = design job catalogue (record { guide = name; nodes = nodes }) in
    text_ends out (Some o) (status_of d.report.answer) ended (report_text d.input.stock d.input.job d.report)
    (due_by out.files out.files_after o d.report.answer (report_text d.input.stock d.input.job d.report) (input, says, designs input nodes d same so)) writes
