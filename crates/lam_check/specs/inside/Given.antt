-- What a checker is given.
use Rattle.std.specs.Prelude.{List}
use Rattle.lam_stock.specs.declared.item.Item.{Item}
use Rattle.lam_job.specs.JobData.{JobData}
use Rattle.lam_answers.specs.inside.Computed.{computed}
use Rattle.lam_check.specs.inside.Basis.{Basis}

-- a catalogue and a job
pub record Given : Type 0 where
  pub stock : List Item
  pub job : JobData

-- with what is computed for them
abbrev pub basis_of : Given → Basis
basis_of g = record { stock = g.stock; job = g.job; tests = computed g.stock g.job }
