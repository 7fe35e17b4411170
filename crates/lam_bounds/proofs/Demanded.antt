-- What has to be carried, as a natural number: the bounds by it.
use Rattle.std.proofs.Common.{◌≡◌, refl, ◌∙◌, ap, ◌↔◌, ℕ, ◌+◌, ◌-◌, ◌*◌, ◌<◌, ◌≤◌, min, max, ℤ, pos, negsuc, ◌-ℤ◌, ◌<ℤ◌, ◌≤ℤ◌, unsigned_abs, int_le, List, Bool, true, false, if◌then◌else◌, arith}
use Rattle.std.proofs.lemmas.Int.{ints}
use Rattle.lam_stock.specs.declared.item.Item.{Item}
use Rattle.lam_job.specs.JobData.{JobData, CaseData}
use Rattle.lam_job.specs.Schedule.{cost_of}
use Rattle.lam_job.specs.Partial.{Partial, fixed_plies, open_places, cost_floor}
use Rattle.lam_support.specs.declared.weight.Weight.{Weight}
use Rattle.lam_tree.specs.ForceBalance.{need, have, greatest, IsShort, least_cost, net_cost, greatest_cost}
use Rattle.lam_bounds.specs.inside.Demands.{natural_part, demand}

above-natural : (a : ℕ) (z : ℤ) → (pos a <ℤ z) ↔ (a < natural_part z)
above-natural a (pos n) = ((λ h. omega (arith, ints, h)), (λ h. omega (arith, ints, h)))
above-natural a (negsuc n) = ((λ h. absurd (omega (arith, ints, h))), (λ h. absurd (omega (arith, h))))

pub at_most_natural : (a : ℕ) (z : ℤ) → z ≤ℤ pos a → natural_part z ≤ a
at_most_natural a (pos n) h = omega (arith, ints, h)
at_most_natural a (negsuc n) h = omega arith

lacking-natural : (h : ℕ) (z : ℤ) → int_le (z -ℤ pos h) (pos 0) ≡ false → unsigned_abs (z -ℤ pos h) ≡ natural_part z - h
lacking-natural h (pos n) e = omega (arith, ints, e)
lacking-natural h (negsuc n) e = absurd (omega (arith, ints, e))

nothing-natural : (h : ℕ) (z : ℤ) → int_le (z -ℤ pos h) (pos 0) ≡ true → natural_part z - h ≡ 0
nothing-natural h (pos n) e = omega (arith, ints, e)
nothing-natural h (negsuc n) e = omega arith

module _ (stock : List Item) (job : JobData) (p : Partial) (case : CaseData) (w : Weight) (capacity : Item → ℕ) where
  pub short-by_demand : IsShort stock job p case w capacity ↔ (have stock job p capacity + 4000 * open_places job p * greatest stock capacity < demand case w)
  short-by_demand = above-natural (have stock job p capacity + 4000 * open_places job p * greatest stock capacity) (need case w)

  pub net-by_demand : cost_of stock job (fixed_plies job p) ≤ cost_floor stock job p → cost_floor stock job p ≤ greatest_cost → least_cost capacity 0 stock ≡ 0
      → net_cost stock job p case w capacity
      ≡ min greatest_cost (max (cost_floor stock job p) (cost_of stock job (fixed_plies job p) + least_cost capacity (demand case w - have stock job p capacity) stock))
  net-by_demand fixed small none = by (int_le (need case w -ℤ pos h) (pos 0)) refl
    where
      h : ℕ
      h = have stock job p capacity

      floor : ℕ
      floor = cost_floor stock job p

      cost : ℕ
      cost = cost_of stock job (fixed_plies job p)

      by : (b : Bool) → int_le (need case w -ℤ pos (have stock job p capacity)) (pos 0) ≡ b
          → (if b then cost_floor stock job p else min greatest_cost (max (cost_floor stock job p) (cost_of stock job (fixed_plies job p) + least_cost capacity (unsigned_abs (need case w -ℤ pos (have stock job p capacity))) stock)))
          ≡ min greatest_cost (max (cost_floor stock job p) (cost_of stock job (fixed_plies job p) + least_cost capacity (demand case w - have stock job p capacity) stock))
      by true e =
          let nothing : least_cost capacity (demand case w - have stock job p capacity) stock ≡ 0 =
          ap (λ n. least_cost capacity n stock) (nothing-natural (have stock job p capacity) (need case w) e) ∙ none in
          omega (arith, nothing, fixed, small)
      by false e =
          ap (λ n. min greatest_cost (max (cost_floor stock job p) (cost_of stock job (fixed_plies job p) + least_cost capacity n stock))) (lacking-natural (have stock job p capacity) (need case w) e)
