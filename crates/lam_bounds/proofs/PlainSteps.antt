-- The bounds of a partial schedule by itself, from what its calls give.
use Rattle.std.proofs.Common.{◌≡◌, sym, ◌∙◌, ap, subst, ◌↔◌, ℕ, ◌+◌, ◌-◌, ◌*◌, ◌<◌, ◌≤◌, List, length, get_or, sum_by, slice_get, Some, IsSomeAnd, Bool, IsTrue}
use Rattle.std.proofs.lemmas.Option.{slice_get-get_or}
use Rattle.lam_stock.specs.declared.item.Item.{Item}
use Rattle.lam_stock.specs.Scale.{scale_of}
use Rattle.lam_stock.specs.Stock.{IsStock, IsKnown}
use Rattle.lam_job.specs.JobData.{JobData, CaseData}
use Rattle.lam_job.specs.Schedule.{wall_of, cost_of}
use Rattle.lam_job.specs.Partial.{Partial, fixed_plies, open_places, cheapest, cost_floor}
use Rattle.lam_rules.specs.Conditions.{IsPartial}
use Rattle.lam_support.specs.declared.weight.Weight.{Weight}
use Rattle.lam_tree.specs.ForceBalance.{IsShort, net_cost}
use Rattle.lam_tree.specs.Words.{NoneMayBeBuilt, NoneIsCheaper}
use Rattle.lam_bounds.specs.declared.carriers.Carriers.{Carriers}
use Rattle.lam_bounds.specs.inside.Computed.{capacity_value}
use Rattle.lam_bounds.specs.inside.Demands.{demand, net_floor}
use Rattle.lam_bounds.specs.inside.Tables.{AreCarriers}
use Rattle.lam_bounds.proofs.Facts.{case-of, short-is, short-so, net-is, net-so}

module _ {stock : List Item} {job : JobData} {p : Partial} (partial : IsPartial stock job p) (catalogue : IsStock stock (scale_of stock)) (liner : IsKnown stock job.liner) (thin : length job.liner ≤ 64)
    (w : Weight) (c : Carriers) (are : AreCarriers (λ i. capacity_value i w) stock c) (n : ℕ) (case : CaseData) (items : List CaseData) (same : items ≡ job.cases) (within : n < length job.cases) (read : case ≡ get_or items n case)
    (carried : ℕ) (carried-is : carried ≡ sum_by (λ i. capacity_value i w) (wall_of stock job (fixed_plies job p))) (d : ℕ) (d-is : d ≡ demand case w) where
  at : slice_get job.cases n ≡ Some case
  at = slice_get-get_or job.cases n case within ∙ ap (λ l. Some (get_or l n case)) (sym same) ∙ ap (λ (x : CaseData). Some x) (sym read)

  module _ (places : ℕ) (places-is : places ≡ open_places job p) (r : Bool) (h : IsTrue r ↔ (4000 * carried + 4000 * places * c.greatest < d)) where
    short : IsShort stock job p case w (λ i. capacity_value i w) ↔ (4000 * carried + 4000 * places * c.greatest < demand case w)
    short = short-is stock job p partial catalogue liner thin w c are n case at carried carried-is places places-is

    is_short : IsTrue r → IsShort stock job p case w (λ i. capacity_value i w)
    is_short yes' = short.1 (subst (λ m. 4000 * carried + 4000 * places * c.greatest < m) d-is (h.0 yes'))

    pub plain-short : IsTrue r ↔ IsSomeAnd (slice_get job.cases n) (λ k. IsShort stock job p k w (λ i. capacity_value i w))
    plain-short = (
      (λ yes'. subst (λ o. IsSomeAnd o (λ k. IsShort stock job p k w (λ i. capacity_value i w))) (sym at) (is_short yes')),
      (λ some. h.1 (subst (λ m. 4000 * carried + 4000 * places * c.greatest < m) (sym d-is) (short.0 (case-of job.cases n (λ k. IsShort stock job p k w (λ i. capacity_value i w)) case at some)))),
    )

    pub plain-short_so : IsTrue r → NoneMayBeBuilt stock job p
    plain-short_so yes' = short-so stock job p partial catalogue liner thin w c are n case at (is_short yes')

  module _ (floor cost r : ℕ) (floor-is : floor ≡ cost_floor stock job p) (cost-is : cost ≡ cost_of stock job (fixed_plies job p)) (is : r ≡ net_floor floor cost (d - 4000 * carried) c.cost c.capacity) where
    net : r ≡ net_cost stock job p case w (λ i. capacity_value i w)
    net = is ∙ ap (λ m. net_floor floor cost (m - 4000 * carried) c.cost c.capacity) d-is
        ∙ sym (net-is stock job p partial catalogue liner thin w c are n case at carried carried-is floor cost floor-is cost-is)

    pub plain-net : IsSomeAnd (slice_get job.cases n) (λ k. r ≡ net_cost stock job p k w (λ i. capacity_value i w))
    plain-net = subst (λ o. IsSomeAnd o (λ k. r ≡ net_cost stock job p k w (λ i. capacity_value i w))) (sym at) net

    pub plain-net_so : NoneIsCheaper stock job p r
    plain-net_so = subst (λ m. NoneIsCheaper stock job p m) (sym net) (net-so stock job p partial catalogue liner thin w c are n case at)

-- the floor, from the fixed plies' cost
pub floor-is : (stock : List Item) (job : JobData) (p : Partial) (r cost places each : ℕ) → r ≡ cost + places * each → cost ≡ cost_of stock job (fixed_plies job p)
    → places ≡ open_places job p → each ≡ cheapest stock → r ≡ cost_floor stock job p
floor-is stock job p r cost places each is cost-is places-is each-is = is ∙ (λ i. cost-is i + places-is i * each-is i)
