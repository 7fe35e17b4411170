-- Which partial schedules a call may be asked about.
use Rattle.std.specs.Prelude.{◌≤◌, List, length}
use Rattle.lam_stock.specs.declared.item.Item.{Item}
use Rattle.lam_stock.specs.Stock.{IsKnown}
use Rattle.lam_job.specs.declared.limits.TheConstants.{MOST_PLIES}
use Rattle.lam_job.specs.JobData.{JobData}
use Rattle.lam_job.specs.Partial.{Partial, half}

-- 1 to 56 plies, of which no more are listed than settle the schedule, each of the catalogue
pub record IsPartial (stock : List Item) (job : JobData) (p : Partial) : Type 0 where
  pub some : 1 ≤ p.n
  pub few : p.n ≤ MOST_PLIES
  pub within : length p.prefix ≤ half job p.n
  pub known : IsKnown stock p.prefix
