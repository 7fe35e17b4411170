-- What is said of bytes that are checked as a report, by the answers that are computed of schedules.
use Rattle.std.specs.Prelude.{ℕ, List, ⊤}
use Rattle.lam_stock.specs.declared.item.Item.{Item}
use Rattle.lam_job.specs.JobData.{JobData}
use Rattle.lam_tree.specs.declared.report.Report.{Report}
use Rattle.lam_tree.specs.Checks.{Accepts, IsFirstFault}
use Rattle.lam_tree.specs.Promise.{Promise}
use Rattle.lam_tree.specs.Tests.{Tests}
use Rattle.lam_report.specs.ReportGrammar.{Spells}
use Rattle.lam_report.specs.ReportGrammar as grammar
use Rattle.lam_check.specs.declared.accepted.Accepted.{Accepted}
use Rattle.lam_check.specs.Faults.{fault_is}
use Rattle.lam_check.specs.Says.{Says}
use Rattle.lam_stream.specs.declared.checking.Refusal.{Refusal}
use Rattle.lam_stream.specs.declared.checking.Refusal.TheVariants as refusal

module _ (stock : List Item) (job : JobData) (tests : Tests) where
  -- a report is accepted, says so much, and keeps its promise
  pub record IsKept (report : Report) (said : Accepted) : Type 0 where
    pub accepted : Accepts stock job tests report
    pub says : Says report said
    pub promise : Promise stock job report.budget report

  -- bytes spell a report of which that is so
  pub record IsAccepted (bytes : List ℕ) (said : Accepted) : Type 0 where
    pub report : Report
    pub spelled : Spells stock job report bytes
    pub kept : IsKept report said

  -- the first fault of bytes: a line with which no report goes on; or, where they spell a report, the first thing that is
  -- wrong in it, with its line
  abbrev pub IsRefusedFor : List ℕ → Refusal → Type 0
  IsRefusedFor bytes refusal.Memory = ⊤
  IsRefusedFor bytes (refusal.Form fault) = grammar.IsFirstFault stock job bytes fault.line
  IsRefusedFor bytes (refusal.Cause fault) =
      (report : Report) × Spells stock job report bytes × IsFirstFault stock job tests report (fault_is fault)
