-- The sums over the plies that are fixed, as a walk keeps them.
use Rattle.std.specs.Prelude.{◌≡◌, ℕ, ◌+◌, ◌*◌, ◌&&◌, nat_le, List, length, Some, slice_get, slice_index, sum_by, if◌then◌else◌}
use Rattle.lam_stock.specs.declared.item.Item.{Item}
use Rattle.lam_stock.specs.declared.item.ItemNo.{ItemNo}
use Rattle.lam_job.specs.JobData.{JobData}
use Rattle.lam_job.specs.Schedule.{wall_of, cost_of}
use Rattle.lam_job.specs.Partial.{Partial, fixed_plies, open_places}
use Rattle.lam_support.specs.declared.weight.Weight.{Weight}
use Rattle.lam_tree.specs.TriedWeights.{tried_weights}
use Rattle.lam_bounds.specs.declared.fixed.Fixed.{Fixed}
use Rattle.lam_bounds.specs.inside.Computed.{capacity_value}

-- ---- of a table with a number for each item

-- the sum of the numbers of some items
abbrev pub table_sum : (values : List ℕ) → List ItemNo → ℕ
table_sum values numbers = sum_by (λ ply. slice_index values ply.0) numbers

-- the sum over the fixed plies of a partial
abbrev pub fixed_sum : (values : List ℕ) → JobData → Partial → ℕ
fixed_sum values job p = table_sum values (fixed_plies job p)

-- at how many places the next ply of a partial lies: where schedules are symmetric at its own and at its mirror image's,
-- which in the middle are one
abbrev pub places_of : JobData → (n settled : ℕ) → ℕ
places_of job n settled = if job.rules.symmetric && nat_le (2 * (settled + 1)) n then 2 else 1

-- ---- of cost, and of what is carried under each tried weight

-- what the fixed plies and the liner cost, what those that carry load carry under each tried weight, and how many places
-- are open
pub record AreSumsOf (stock : List Item) (job : JobData) (p : Partial) (f : Fixed) : Type 0 where
  pub cost : f.cost ≡ cost_of stock job (fixed_plies job p)
  pub carried : (k : ℕ) (w : Weight) → slice_get tried_weights k ≡ Some w
      → slice_index f.carried k ≡ sum_by (λ i. capacity_value i w) (wall_of stock job (fixed_plies job p))
  pub long : length f.carried ≡ 12
  pub places : f.open_places ≡ open_places job p
