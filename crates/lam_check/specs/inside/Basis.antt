-- What a report is checked against.
use Rattle.std.specs.Prelude.{List}
use Rattle.lam_stock.specs.declared.item.Item.{Item}
use Rattle.lam_job.specs.JobData.{JobData}
use Rattle.lam_tree.specs.Tests.{Tests}

-- a catalogue, a job, and what is computed of schedules
pub record Basis : Type 0 where
  pub stock : List Item
  pub job : JobData
  pub tests : Tests
