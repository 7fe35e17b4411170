-- The first rule that a partial schedule visibly breaks.
use Rattle.std.specs.Prelude.{ℕ, ◌<◌, List}
use Rattle.lam_stock.specs.declared.item.Item.{Item}
use Rattle.lam_job.specs.JobData.{JobData}
use Rattle.lam_job.specs.Partial.{Partial, VisiblyBreaks}

-- the number is that of the first rule in their order that the partial visibly breaks
pub record IsLeastVisible (number : ℕ) (stock : List Item) (job : JobData) (p : Partial) : Type 0 where
  pub broken : VisiblyBreaks number stock job p
  pub least : (other : ℕ) → other < number → ¬ VisiblyBreaks other stock job p
