-- What is printed of a best schedule, and what of a named one.
use Rattle.std.specs.Prelude.{ℕ, List, ⊤}
use Rattle.lam_stock.specs.declared.item.Item.{Item}
use Rattle.lam_stock.specs.declared.item.ItemNo.{ItemNo}
use Rattle.lam_job.specs.JobData.{JobData}
use Rattle.lam_job.specs.Design as design
use Rattle.lam_tree.specs.declared.report.Best.{Best}
use Rattle.lam_tree.specs.declared.report.Answer.{Answer}
use Rattle.lam_tree.specs.declared.report.Answer.TheVariants as answer
use Rattle.lam_tree.specs.Promise.{HasRatios, HasPanels}

-- a best schedule may be built and has the ratios
pub record IsAsPrinted (stock : List Item) (job : JobData) (ratios panels : List ℕ) (b : Best) : Type 0 where
  pub admissible : design.Admissible stock job b.plies
  pub has_ratios : HasRatios stock job b.plies ratios
  pub has_panels : HasPanels stock job b.plies panels

-- the plies that an answer names are so, if it names some
abbrev pub IfNamed : Answer → (List ItemNo → Type 0) → Type 0
IfNamed (answer.OpenStraddle near) So = So near.plies
IfNamed other So = ⊤
