use Rattle.std.proofs.Common.{◌≡◌, ◌+◌, List, Option, drop}
use Rattle.lam_stock.specs.declared.item.Item.{Item}
use Rattle.lam_stock.specs.declared.item.ItemNo.{ItemNo}
use Rattle.lam_job.specs.JobData.{JobData}
use Rattle.lam_judge.specs.inside.Ratios.{printed}
use Rattle.lam_tree.specs.Findings.{Fault}
use Rattle.lam_tree.specs.Checks.{RatioChecks}
use Rattle.lam_answers.specs.inside.Computed.{computed}
use Rattle.lam_check.proofs.printed.check_ratios.Given as goal

abbrev pub invariant-loop-i : goal.invariant-loop-i
invariant-loop-i l =
    (stock : List Item) (job : JobData) (listed : List ItemNo) → l.room ≡ printed stock job listed
    → (found : Option Fault) → RatioChecks stock job (computed stock job) listed l.plies (6 + l.i) l.i (drop l.i l.ratios) found
    → RatioChecks stock job (computed stock job) listed l.plies 6 0 l.ratios found
