-- The laws of trees and reports.
use Rattle.std.specs.Prelude.{◌≡◌, ◌⊎◌, ℕ, List, All, IfSome}
use Rattle.lam_stock.specs.declared.item.Item.{Item}
use Rattle.lam_job.specs.JobData.{JobData}
use Rattle.lam_tree.specs.declared.report.Report.{Report}
use Rattle.lam_tree.specs.declared.report.Answer.{Answer}
use Rattle.lam_tree.specs.declared.report.Answer.TheVariants as answer
use Rattle.lam_tree.specs.Words.{IsTrueOf}
use Rattle.lam_tree.specs.Reading.{read}
use Rattle.lam_tree.specs.Tests.{Tests}
use Rattle.lam_tree.specs.ReportRanges.{IsReport}
use Rattle.lam_tree.specs.Checks.{best_cost, Accepts}
use Rattle.lam_tree.specs.Promise.{IsPrinted, Promise}

-- an accepted report keeps its promise, where the leaves of its tree are true and its best schedule has what is printed of
-- it
abbrev pub AcceptedKeepsPromise : Type 0
AcceptedKeepsPromise =
    (stock : List Item) (job : JobData) (tests : Tests) (report : Report)
    → IsReport stock job report → Accepts stock job tests report
    → All (λ v. IsTrueOf stock job (best_cost report.best) v.partial v.word) (read stock job report.tree).visits
    → IfSome report.best (IsPrinted stock job report)
    → Promise stock job report.budget report

-- a least design, or none
abbrev pub IsClosed : Answer → Type 0
IsClosed given = (given ≡ answer.Least) ⊎ (given ≡ answer.NoneMeets)

-- two reports have the same answer, and best schedules of the same cost
pub record Agree (one other : Report) : Type 0 where
  pub answer : one.answer ≡ other.answer
  pub cost : best_cost one.best ≡ best_cost other.best

-- closed reports that keep their promise agree, whatever their budgets
abbrev pub ClosedReportsAgree : Type 0
ClosedReportsAgree =
    (stock : List Item) (job : JobData) (budget other_budget : ℕ) (one other : Report)
    → Promise stock job budget one → Promise stock job other_budget other
    → IsClosed one.answer → IsClosed other.answer → Agree one other
