-- What is made once for a job and a catalogue, and what it stands for.
use Rattle.std.specs.Prelude.{◌≡◌, ℕ, ◌*◌, ◌<◌, ◌≤◌, ◌^◌, ◌||◌, ◌==◌, nat_lt, max, min, List, length, All, Some, slice_get, slice_set, slice_index, if◌then◌else◌}
use Rattle.lam_stock.specs.declared.item.Item.{Item}
use Rattle.lam_stock.specs.Scale.{scale_of}
use Rattle.lam_stock.specs.Stock.{IsKnown, IsStock}
use Rattle.lam_job.specs.JobData.{JobData, CaseData}
use Rattle.lam_job.specs.Ranges.{IsJob}
use Rattle.lam_job.specs.Partial.{cheapest}
use Rattle.lam_support.specs.declared.weight.Weight.{Weight}
use Rattle.lam_tree.specs.ForceBalance.{greatest, rounded_up, least_cost}
use Rattle.lam_tree.specs.TriedWeights.{tried_weights}
use Rattle.lam_bounds.specs.declared.carriers.Carriers.{Carriers}
use Rattle.lam_bounds.specs.declared.bounds.Tried.{Tried}
use Rattle.lam_bounds.specs.declared.bounds.Bounds.{Bounds}
use Rattle.lam_bounds.specs.inside.Computed.{capacity_value}
use Rattle.lam_bounds.specs.inside.Demands.{demand}

-- a table has the number of each member of a list
abbrev pub HasValues : {A : Type 0} → (A → ℕ) → List A → (values : List ℕ) → Type 0
HasValues {A} value members values = (k : ℕ) (i : A) → slice_get members k ≡ Some i → slice_index values k ≡ value i

-- ---- what items carry of one weighted force

-- with one item more
abbrev pub with_item : Carriers → (k cost capacity : ℕ) → Carriers
with_item c k cost capacity =
    let better = (k == 0) || nat_lt (cost * c.capacity) (c.cost * capacity) in
    record {
      capacities = slice_set c.capacities k capacity;
      greatest = max c.greatest capacity;
      least = min c.least capacity;
      cost = if better then cost else c.cost;
      capacity = if better then capacity else c.capacity;
    }

-- the capacities of some items; the greatest of them and one that none is below; and the cost and capacity of an item
-- that gives the least cost of whatever is lacking
pub record AreCarriers (capacity : Item → ℕ) (items : List Item) (c : Carriers) : Type 0 where
  pub long : length c.capacities ≡ 64
  pub each : HasValues capacity items c.capacities
  pub fits : All (λ i. capacity i < 2 ^ 64) items
  pub greatest : c.greatest ≡ greatest items capacity
  pub least : All (λ i. c.least ≤ capacity i) items
  pub cost : (lacking : ℕ) → least_cost capacity lacking items ≡ rounded_up (lacking * c.cost) (4000 * c.capacity)
  pub cheap : c.cost ≤ 1000000000
  pub some : 1 ≤ c.capacity

-- ---- one tried weight, and all

-- what the items carry of a weighted force, and what the cases demand of it
pub record IsTried (stock : List Item) (job : JobData) (w : Weight) (t : Tried) : Type 0 where
  pub carriers : AreCarriers (λ i. capacity_value i w) stock t.carriers
  pub demands : HasValues (λ case. demand case w) job.cases t.demands
  pub greatest : (k : ℕ) (case : CaseData) → slice_get job.cases k ≡ Some case → demand case w ≤ t.greatest_demand
  pub small : t.greatest_demand ≤ 2 ^ 90

-- of a job for a catalogue
pub record AreBoundsOf (stock : List Item) (job : JobData) (b : Bounds) : Type 0 where
  pub catalogue : IsStock stock (scale_of stock)
  pub valid : IsJob job
  pub liner : IsKnown stock job.liner
  pub long : length b.tried ≡ 12
  pub each : (k : ℕ) (w : Weight) (t : Tried) → slice_get tried_weights k ≡ Some w → slice_get b.tried k ≡ Some t → IsTried stock job w t
  pub costs : HasValues (λ i. i.cost) stock b.costs
  pub cheapest : b.cheapest ≡ cheapest stock
  pub dearest : All (λ i. i.cost ≤ b.dearest) stock
  pub few : b.dearest ≤ 1000000000
