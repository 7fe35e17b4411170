-- What a walk's tables and sums say of a partial schedule.
use Rattle.std.proofs.Common.{◌≡◌, refl, sym, ◌∙◌, subst, ◌↔◌, ℕ, ◌+◌, ◌-◌, ◌*◌, ◌^◌, ◌<◌, ◌≤◌, List, [], ◌∷◌, length, get_or, sum_by, slice_get, Option, Some, None, IsSomeAnd, All, arith}
use Rattle.std.proofs.lemmas.List.Elements.{All-weaker}
use Rattle.std.proofs.Math.Nat.{mul-le-mul}
use Rattle.std.proofs.lemmas.Option.{none-some, slice_get_cases}
use mathlib.Core.Logic.{inl, inr}
use Rattle.lam_stock.specs.declared.item.Item.{Item}
use Rattle.lam_stock.specs.Scale.{scale_of}
use Rattle.lam_stock.specs.Stock.{IsStock, IsKnown}
use Rattle.lam_job.specs.JobData.{JobData, CaseData}
use Rattle.lam_job.specs.Schedule.{wall_of, cost_of}
use Rattle.lam_job.specs.Partial.{Partial, ForEveryCompletion, fixed_plies, open_places, cheapest, cost_floor}
use Rattle.lam_rules.specs.Conditions.{IsPartial}
use Rattle.lam_support.specs.declared.weight.Weight.{Weight}
use Rattle.lam_tree.specs.ForceBalance.{IsShort, net_cost}
use Rattle.lam_tree.specs.Words.{NoneMayBeBuilt, NoneIsCheaper}
use Rattle.lam_tree.proofs.CostFloor.{floor_bounds, none_is_cheaper}
use Rattle.lam_bounds.specs.declared.carriers.Carriers.{Carriers}
use Rattle.lam_bounds.specs.inside.Computed.{capacity_value}
use Rattle.lam_bounds.specs.inside.Demands.{demand, net_floor}
use Rattle.lam_bounds.specs.inside.Tables.{AreCarriers}
use Rattle.lam_bounds.proofs.BoundsBy.{short-by, net-by, no_cost}
use Rattle.lam_bounds.proofs.Capacities.{are_capacities, capacities_some}
use Rattle.lam_bounds.proofs.ItemSums.{filled}
use Rattle.lam_bounds.proofs.SumSteps.{cost-small, wall-small, places-all, cost-few}
use Rattle.lam_bounds.proofs.Truth.{carries_need, short-fails, net-at_most}

abbrev caps : Weight → Item → ℕ
caps w i = capacity_value i w

-- ---- a partial of a catalogue and a job

module _ (stock : List Item) (job : JobData) (p : Partial) (partial : IsPartial stock job p) (catalogue : IsStock stock (scale_of stock)) (liner : IsKnown stock job.liner) (thin : length job.liner ≤ 64) where
  pub cheapest-few : cheapest stock ≤ 1000000000
  cheapest-few = by stock catalogue.some (none_is_cheaper stock) (λ d. cost-few stock catalogue.limits stock refl 0 d catalogue.some)
    where
      by : (items : List Item) → 1 ≤ length items → All (λ i. cheapest items ≤ i.cost) items → ((d : Item) → (get_or items 0 d).cost ≤ 1000000000) → cheapest items ≤ 1000000000
      by [] some none few = omega arith
      by (i ∷ rest) some none few = let a = none 0 i (omega arith) in let b = few i in omega (arith, a, b)

  pub fixed-cost : cost_of stock job (fixed_plies job p) ≤ 120000000000
  fixed-cost = cost-small stock catalogue.limits job p liner thin partial.few partial.within partial.known

  pub places-few : open_places job p ≤ 56
  places-few = let all = places-all job p partial.within in let few = partial.few in omega (arith, all, few)

  pub floor-few : cost_floor stock job p ≤ 10 ^ 12
  floor-few =
      let times : open_places job p * cheapest stock ≤ 56 * 1000000000 = mul-le-mul places-few cheapest-few in
      omega (arith, fixed-cost, times)

  pub floor-so : ForEveryCompletion stock job p (λ listed. cost_floor stock job p ≤ cost_of stock job listed)
  floor-so = λ listed c. floor_bounds stock job p listed c

  pub carried-few : (f : Item → ℕ) → All (λ i. f i < 2 ^ 64) stock → sum_by f (wall_of stock job (fixed_plies job p)) ≤ 2 ^ 72
  carried-few f fits =
      let most = wall-small stock catalogue.limits job p liner thin partial.few partial.within partial.known f (2 ^ 64)
      (All-weaker (λ (i : Item). f i < 2 ^ 64) (λ (i : Item). f i ≤ 2 ^ 64) (λ i h. omega (arith, h)) stock fits) in
      omega (arith, most)

  -- ---- with a weight

  module _ (w : Weight) (c : Carriers) (are : AreCarriers (λ i. capacity_value i w) stock c) (k : ℕ) (case : CaseData) (at : slice_get job.cases k ≡ Some case) where
    pub short-so : IsShort stock job p case w (λ i. capacity_value i w) → NoneMayBeBuilt stock job p
    short-so short = λ listed completes good.
        short-fails stock job w (λ i. capacity_value i w) p case listed (filled stock job p listed completes)
        (carries_need stock job w (λ i. capacity_value i w) catalogue (are_capacities w stock catalogue.limits) p listed completes good k case at) short

    pub net-so : NoneIsCheaper stock job p (net_cost stock job p case w (λ i. capacity_value i w))
    net-so = λ listed completes good.
        let few = floor-few in
        net-at_most stock job w (λ i. capacity_value i w) p case listed (filled stock job p listed completes) (floor-so listed completes) (capacities_some w stock catalogue.limits)
        (omega arith) (omega (arith, few)) (no_cost stock job w (λ i. capacity_value i w) c are)
        (carries_need stock job w (λ i. capacity_value i w) catalogue (are_capacities w stock catalogue.limits) p listed completes good k case at)

    module _ (carried : ℕ) (carried-is : carried ≡ sum_by (λ i. capacity_value i w) (wall_of stock job (fixed_plies job p))) where
      pub short-is : (places : ℕ) → places ≡ open_places job p
          → IsShort stock job p case w (λ i. capacity_value i w) ↔ (4000 * carried + 4000 * places * c.greatest < demand case w)
      short-is places places-is = short-by stock job w (λ i. capacity_value i w) c are p case carried carried-is places places-is

      pub net-is : (floor cost : ℕ) → floor ≡ cost_floor stock job p → cost ≡ cost_of stock job (fixed_plies job p)
          → net_cost stock job p case w (λ i. capacity_value i w) ≡ net_floor floor cost (demand case w - 4000 * carried) c.cost c.capacity
      net-is floor cost floor-is cost-is =
          let few = floor-few in
          net-by stock job w (λ i. capacity_value i w) c are p case carried carried-is floor cost floor-is cost-is (omega (arith, few, floor-is))

-- ---- something of the case of a number

pub of-case : (cases : List CaseData) (k : ℕ) (P : CaseData → Type 0) → k < length cases → ((case : CaseData) → slice_get cases k ≡ Some case → P case) → IsSomeAnd (slice_get cases k) P
of-case cases k P within each = by (slice_get cases k) refl
  where
    by : (o : Option CaseData) → slice_get cases k ≡ o → IsSomeAnd o P
    by (Some case) e = each case e
    by None e = absurd (elim (slice_get_cases cases k).1 [ inl h ↦ none-some h.0 (sym e ∙ h.2) | inr h ↦ omega (arith, h.0, within) ])

pub case-of : (cases : List CaseData) (k : ℕ) (P : CaseData → Type 0) (case : CaseData) → slice_get cases k ≡ Some case → IsSomeAnd (slice_get cases k) P → P case
case-of cases k P case e h = subst (λ o. IsSomeAnd o P) e h

-- what does not depend on the case
pub whatever : (cases : List CaseData) (k : ℕ) (P : Type 0) → IsSomeAnd (slice_get cases k) (λ case. P) → P
whatever cases k P h = by (slice_get cases k) h
  where
    by : (o : Option CaseData) → IsSomeAnd o (λ case. P) → P
    by (Some case) h = h
    by None h = absurd h
