-- Where a walk is.
use Rattle.std.specs.Prelude.{List}
use Rattle.lam_stock.specs.declared.item.Item.{Item}
use Rattle.lam_job.specs.JobData.{JobData}
use Rattle.lam_job.specs.Partial.{Partial}
use Rattle.lam_tree.specs.Tests.{Tests}
use Rattle.lam_answers.specs.inside.Computed.{computed}

-- a catalogue, a job, and what is computed of schedules
pub record Basis : Type 0 where
  pub stock : List Item
  pub job : JobData
  pub tests : Tests

abbrev pub basis_of : List Item → JobData → Basis
basis_of stock job = record { stock = stock; job = job; tests = computed stock job }

-- a partial schedule of a catalogue and a job
pub record Here : Type 0 where
  pub stock : List Item
  pub job : JobData
  pub partial : Partial

abbrev pub basis : Here → Basis
basis h = basis_of h.stock h.job
