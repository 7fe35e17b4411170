-- What is found of the best schedule, as the promise of a report says it.
use Rattle.std.proofs.Common.{Option, Some, None, IfSome, List}
use Rattle.lam_stock.specs.declared.item.Item.{Item}
use Rattle.lam_job.specs.JobData.{JobData}
use Rattle.lam_tree.specs.declared.report.Best.{Best}
use Rattle.lam_tree.specs.declared.report.Report.{Report}
use Rattle.lam_tree.specs.Promise.{IsPrinted}
use Rattle.lam_check.specs.inside.Printing.{IsAsPrinted}

pub as_printed : (stock : List Item) (job : JobData) (report : Report) (o : Option Best)
    → IfSome o (IsAsPrinted stock job report.ratios report.panels) → IfSome o (IsPrinted stock job report)
as_printed stock job report None is = tt
as_printed stock job report (Some b) is = record { admissible = is.admissible; ratios = is.has_ratios; panels = is.has_panels }
