-- A partial schedule that grows and shrinks at its end.
use Rattle.std.specs.Prelude.{List}
use Rattle.lam_stock.specs.declared.item.Item.{Item}
use Rattle.lam_job.specs.JobData.{JobData}
use Rattle.lam_job.specs.Partial.{Partial}

-- a partial schedule of a job, with the catalogue of its items
pub record Grown : Type 0 where
  pub stock : List Item
  pub job : JobData
  pub partial : Partial
