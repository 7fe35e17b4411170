-- A schedule lists item numbers of a catalogue, from the inside of the wall to the outside.
use Rattle.std.specs.Prelude.{ℕ, ◌<◌, List, ◌++◌, length, map, filter_map, slice_get, sum_by, IfSome, IsBitSet, if◌then◌else◌}
use Rattle.lam_stock.specs.declared.item.Item.{Item}
use Rattle.lam_stock.specs.declared.item.ItemNo.{ItemNo}
use Rattle.lam_stock.specs.Stock.{IsKnown}
use Rattle.lam_job.specs.declared.rules.ItemSet.{ItemSet}
use Rattle.lam_job.specs.JobData.{JobData}

-- the items of some numbers; a number that is none of the catalogue's gives no item
abbrev pub items_of : List Item → List ItemNo → List Item
items_of stock numbers = filter_map (λ ply. slice_get stock ply.0) numbers

-- all that is laid up: the liner, and then the listed plies
abbrev pub whole_schedule : List Item → JobData → List ItemNo → List Item
whole_schedule stock job listed = items_of stock (job.liner ++ listed)

-- what carries load: all that is laid up, where the liner counts as a part of the wall, else the listed plies
abbrev pub wall_of : List Item → JobData → List ItemNo → List Item
wall_of stock job listed = if job.liner_in_wall then whole_schedule stock job listed else items_of stock listed

-- the cost of all that is laid up
abbrev pub cost_of : List Item → JobData → List ItemNo → ℕ
cost_of stock job listed = sum_by (λ i. i.cost) (whole_schedule stock job listed)

-- ---- the job is one of this catalogue: each item number in it is that of an item

abbrev pub HoldsKnown : List Item → ItemSet → Type 0
HoldsKnown stock set = (k : ℕ) → IsBitSet set.0 k → k < length stock

pub record IsJobFor (stock : List Item) (job : JobData) : Type 0 where
  pub liner : IsKnown stock job.liner
  pub inner : IfSome job.rules.inner (HoldsKnown stock)
  pub outer : IfSome job.rules.outer (HoldsKnown stock)
  pub counts : IsKnown stock (map (λ count. count.0) job.rules.counts)
