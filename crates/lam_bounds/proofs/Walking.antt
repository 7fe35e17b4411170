-- What the tables of a job and the sums of a partial schedule give together.
use Rattle.std.proofs.Common.{lit≤, pos, [], ◌≡◌, refl, sym, ◌∙◌, ap, subst, ◌↔◌, ℕ, ◌+◌, ◌-◌, ◌*◌, ◌^◌, ◌<◌, ◌≤◌, List, length, get_or, slice_get, Some, IsSomeAnd, All, Bool, false, IsTrue, arith}
use Rattle.std.proofs.lemmas.Bool.{both_ways}
use Rattle.std.proofs.lemmas.Option.{slice_get-get_or, slice_get_within}
use Rattle.lam_stock.specs.declared.item.Item.{Item}
use Rattle.lam_job.specs.JobData.{JobData, CaseData}
use Rattle.lam_job.specs.Schedule.{cost_of}
use Rattle.lam_job.specs.Partial.{Partial, ForEveryCompletion, cost_floor}
use Rattle.lam_rules.specs.Conditions.{IsPartial}
use Rattle.lam_support.specs.declared.weight.Weight.{Weight}
use Rattle.lam_tree.specs.ForceBalance.{IsShort, net_cost}
use Rattle.lam_tree.specs.TriedWeights.{tried_weights, weight}
use Rattle.lam_tree.specs.Words.{NoneMayBeBuilt, NoneIsCheaper}
use Rattle.lam_bounds.specs.declared.bounds.Tried.{Tried}
use Rattle.lam_bounds.specs.declared.bounds.Bounds.{Bounds}
use Rattle.lam_bounds.specs.declared.fixed.Fixed.{Fixed}
use Rattle.lam_bounds.specs.inside.Computed.{capacity_value}
use Rattle.lam_bounds.specs.inside.Demands.{demand, net_floor}
use Rattle.lam_bounds.specs.inside.RunningSums.{AreSumsOf}
use Rattle.lam_bounds.specs.inside.Tables.{AreBoundsOf, IsTried}
use Rattle.lam_bounds.proofs.BoundsBy.{net-monotone}
use Rattle.lam_bounds.proofs.Facts as fact
use Rattle.lam_bounds.proofs.Facts.{of-case, case-of}

-- no table, as a look-up past the end gives it
abbrev pub no_table : Tried
no_table = record { carriers = record { capacities = []; greatest = 0; least = 0; cost = 0; capacity = 0 }; demands = []; greatest_demand = 0 }

-- the table of a number
abbrev pub table : Bounds → ℕ → Tried
table b k = get_or b.tried k no_table

abbrev pub first_weight : Weight
first_weight = weight (pos 1) (pos 0) (pos 0) (lit≤ tt) (lit≤ tt) (lit≤ tt) (lit≤ tt)

-- there are twelve weights
pub twelve : length tried_weights ≡ 12
twelve = refl

module _ {stock : List Item} {job : JobData} {p : Partial} {b : Bounds} {f : Fixed} (partial : IsPartial stock job p) (are : AreBoundsOf stock job b) (sums : AreSumsOf stock job p f) where
  thin : length job.liner ≤ 64
  thin = let h = are.valid.liner in omega (arith, h)

  pub sum-cost : f.cost ≤ 120000000000
  sum-cost = subst (λ n. n ≤ 120000000000) (sym sums.cost) (fact.fixed-cost stock job p partial are.catalogue are.liner thin)

  pub low-cost : b.cheapest ≤ 1000000000
  low-cost = subst (λ n. n ≤ 1000000000) (sym are.cheapest) (fact.cheapest-few stock job p partial are.catalogue are.liner thin)

  pub floor-is : f.cost + f.open_places * b.cheapest ≡ cost_floor stock job p
  floor-is = λ i. sums.cost i + sums.places i * are.cheapest i

  pub floor-small : cost_floor stock job p ≤ 10 ^ 12
  floor-small = fact.floor-few stock job p partial are.catalogue are.liner thin

  pub floor-so : ForEveryCompletion stock job p (λ listed. cost_floor stock job p ≤ cost_of stock job listed)
  floor-so = fact.floor-so stock job p partial are.catalogue are.liner thin

  -- ---- a tried weight

  pub member : (k : ℕ) → k < 12 → slice_get b.tried k ≡ Some (table b k)
  member k few = slice_get-get_or b.tried k no_table (subst (λ n. k < n) (sym are.long) few)

  abbrev weight_at : ℕ → Weight
  weight_at k = get_or tried_weights k first_weight

  weight-of : (k : ℕ) → k < 12 → slice_get tried_weights k ≡ Some (weight_at k)
  weight-of k few = slice_get-get_or tried_weights k first_weight (subst (λ n. k < n) (sym twelve) few)

  module _ (k : ℕ) (w : Weight) (t : Tried) (tried : slice_get tried_weights k ≡ Some w) (at : slice_get b.tried k ≡ Some t) where
    is : IsTried stock job w t
    is = are.each k w t tried at

    pub carried-small : get_or f.carried k 0 ≤ 2 ^ 72
    carried-small = subst (λ n. n ≤ 2 ^ 72) (sym (sums.carried k w tried)) (fact.carried-few stock job p partial are.catalogue are.liner thin (λ i. capacity_value i w) is.carriers.fits)

    pub demand-small : (n : ℕ) (case : CaseData) → slice_get job.cases n ≡ Some case → demand case w ≤ 2 ^ 90
    demand-small n case e = let a = is.greatest n case e in let c = is.small in omega (arith, a, c)

    module _ (n : ℕ) (case : CaseData) (e : slice_get job.cases n ≡ Some case) where
      pub short-is : IsShort stock job p case w (λ i. capacity_value i w) ↔ (4000 * get_or f.carried k 0 + 4000 * f.open_places * t.carriers.greatest < demand case w)
      short-is = fact.short-is stock job p partial are.catalogue are.liner thin w t.carriers is.carriers n case e (get_or f.carried k 0) (sums.carried k w tried) f.open_places sums.places

      pub short-so : IsShort stock job p case w (λ i. capacity_value i w) → NoneMayBeBuilt stock job p
      short-so = fact.short-so stock job p partial are.catalogue are.liner thin w t.carriers is.carriers n case e

      pub net-is : net_cost stock job p case w (λ i. capacity_value i w)
          ≡ net_floor (f.cost + f.open_places * b.cheapest) f.cost (demand case w - 4000 * get_or f.carried k 0) t.carriers.cost t.carriers.capacity
      net-is = fact.net-is stock job p partial are.catalogue are.liner thin w t.carriers is.carriers n case e (get_or f.carried k 0) (sums.carried k w tried) (f.cost + f.open_places * b.cheapest) f.cost floor-is sums.cost

      pub net-so : NoneIsCheaper stock job p (net_cost stock job p case w (λ i. capacity_value i w))
      net-so = fact.net-so stock job p partial are.catalogue are.liner thin w t.carriers is.carriers n case e

  pub sum-few : (k : ℕ) → k < 12 → get_or f.carried k 0 ≤ 2 ^ 72
  sum-few k few = carried-small k (weight_at k) (table b k) (weight-of k few) (member k few)

  pub sum-carried : (k : ℕ) → k < 12 → get_or f.carried k 0 ≤ 2 ^ 80
  sum-carried k few = let h = sum-few k few in omega (arith, h)

  pub table-some : (k : ℕ) → k < 12 → 1 ≤ (table b k).carriers.capacity
  table-some k few = (are.each k (weight_at k) (table b k) (weight-of k few) (member k few)).carriers.some

  pub table-cheap : (k : ℕ) → k < 12 → (table b k).carriers.cost ≤ 1000000000
  table-cheap k few = (are.each k (weight_at k) (table b k) (weight-of k few) (member k few)).carriers.cheap

  pub greatest-small : (k : ℕ) → k < 12 → (table b k).greatest_demand ≤ 2 ^ 90
  greatest-small k few = (are.each k (weight_at k) (table b k) (weight-of k few) (member k few)).small

  -- ---- the answers for a case and a weight, by their numbers

  pub short-value : (k n : ℕ) (w : Weight) (r : Bool) → k < 12 → n < length job.cases → slice_get tried_weights k ≡ Some w
      → (IsTrue r ↔ (4000 * get_or f.carried k 0 + 4000 * f.open_places * (table b k).carriers.greatest < get_or (table b k).demands n 0))
      → IsTrue r ↔ IsSomeAnd (slice_get job.cases n) (λ c. IsShort stock job p c w (λ i. capacity_value i w))
  short-value k n w r few within tried h =
      let at = member k few in (
        (λ yes'. of-case job.cases n (λ c. IsShort stock job p c w (λ i. capacity_value i w)) within
            (λ case e. (short-is k w (table b k) tried at n case e).1 (subst (λ m. 4000 * get_or f.carried k 0 + 4000 * f.open_places * (table b k).carriers.greatest < m) ((are.each k w (table b k) tried at).demands n case e) (h.0 yes')))),
        (λ some. let x : IsSomeAnd (slice_get job.cases n) (λ c. IsTrue r) = of-case job.cases n (λ c. IsTrue r) within
            (λ case e. h.1 (subst (λ m. 4000 * get_or f.carried k 0 + 4000 * f.open_places * (table b k).carriers.greatest < m) (sym ((are.each k w (table b k) tried at).demands n case e))
            ((short-is k w (table b k) tried at n case e).0 (case-of job.cases n (λ c. IsShort stock job p c w (λ i. capacity_value i w)) case e some)))) in
            fact.whatever job.cases n (IsTrue r) x),
      )

  pub short-truth : (k n : ℕ) (r : Bool) → k < 12 → n < length job.cases
      → (IsTrue r ↔ (4000 * get_or f.carried k 0 + 4000 * f.open_places * (table b k).carriers.greatest < get_or (table b k).demands n 0))
      → IsTrue r → NoneMayBeBuilt stock job p
  short-truth k n r few within h yes' =
      let w = weight_at k in
      let at = member k few in
      let tried = weight-of k few in
      fact.whatever job.cases n (NoneMayBeBuilt stock job p) (of-case job.cases n (λ c. NoneMayBeBuilt stock job p) within
      (λ case e. short-so k w (table b k) tried at n case e (case-of job.cases n (λ c. IsShort stock job p c w (λ i. capacity_value i w)) case e ((short-value k n w r few within tried h).0 yes'))))

  pub net-value : (k n : ℕ) (w : Weight) (r : ℕ) → k < 12 → n < length job.cases → slice_get tried_weights k ≡ Some w
      → r ≡ net_floor (f.cost + f.open_places * b.cheapest) f.cost (get_or (table b k).demands n 0 - 4000 * get_or f.carried k 0) (table b k).carriers.cost (table b k).carriers.capacity
      → IsSomeAnd (slice_get job.cases n) (λ c. r ≡ net_cost stock job p c w (λ i. capacity_value i w))
  net-value k n w r few within tried h =
      let at = member k few in
      of-case job.cases n (λ c. r ≡ net_cost stock job p c w (λ i. capacity_value i w)) within
      (λ case e. h ∙ ap (λ m. net_floor (f.cost + f.open_places * b.cheapest) f.cost (m - 4000 * get_or f.carried k 0) (table b k).carriers.cost (table b k).carriers.capacity) ((are.each k w (table b k) tried at).demands n case e)
      ∙ sym (net-is k w (table b k) tried at n case e))

  pub net-truth : (k n : ℕ) (r : ℕ) → k < 12 → n < length job.cases
      → r ≡ net_floor (f.cost + f.open_places * b.cheapest) f.cost (get_or (table b k).demands n 0 - 4000 * get_or f.carried k 0) (table b k).carriers.cost (table b k).carriers.capacity
      → NoneIsCheaper stock job p r
  net-truth k n r few within h =
      let w = weight_at k in
      let at = member k few in
      let tried = weight-of k few in
      fact.whatever job.cases n (NoneIsCheaper stock job p r) (of-case job.cases n (λ c. NoneIsCheaper stock job p r) within
      (λ case e. subst (NoneIsCheaper stock job p) (sym (case-of job.cases n (λ c. r ≡ net_cost stock job p c w (λ i. capacity_value i w)) case e (net-value k n w r few within tried h))) (net-so k w (table b k) tried at n case e)))

  -- the demand of a case in a table
  pub table-small : (k n : ℕ) → k < 12 → n < length job.cases → get_or (table b k).demands n 0 ≤ 2 ^ 90
  table-small k n few within =
      let w = weight_at k in
      let at = member k few in
      let tried = weight-of k few in
      fact.whatever job.cases n (get_or (table b k).demands n 0 ≤ 2 ^ 90) (of-case job.cases n (λ c. get_or (table b k).demands n 0 ≤ 2 ^ 90) within
      (λ case e. subst (λ m. m ≤ 2 ^ 90) (sym ((are.each k w (table b k) tried at).demands n case e)) (demand-small k w (table b k) tried at n case e)))

  -- ---- by the greatest demand

  pub never-short : (k : ℕ) (r : Bool) → k < 12 → (IsTrue r ↔ (4000 * get_or f.carried k 0 + 4000 * f.open_places * (table b k).carriers.greatest < (table b k).greatest_demand)) → r ≡ false
      → (w : Weight) → slice_get tried_weights k ≡ Some w → (n : ℕ) (case : CaseData) → slice_get job.cases n ≡ Some case → ¬ IsShort stock job p case w (λ i. capacity_value i w)
  never-short k r few h e w tried n case at short =
      let bt = member k few in
      let above = (short-is k w (table b k) tried bt n case at).0 short in
      let most = (are.each k w (table b k) tried bt).greatest n case at in
      both_ways r e (h.1 (omega (arith, above, most)))

  pub never-dear : (k limit r : ℕ) → k < 12 → r ≡ net_floor (f.cost + f.open_places * b.cheapest) f.cost ((table b k).greatest_demand - 4000 * get_or f.carried k 0) (table b k).carriers.cost (table b k).carriers.capacity → r < limit
      → (w : Weight) → slice_get tried_weights k ≡ Some w → (n : ℕ) (case : CaseData) → slice_get job.cases n ≡ Some case → net_cost stock job p case w (λ i. capacity_value i w) < limit
  never-dear k limit r few h below w tried n case at =
      let bt = member k few in
      let e = net-is k w (table b k) tried bt n case at in
      let is = are.each k w (table b k) tried bt in
      let most = is.greatest n case at in
      let order = net-monotone (f.cost + f.open_places * b.cheapest) f.cost (demand case w - 4000 * get_or f.carried k 0) (f.cost + f.open_places * b.cheapest) f.cost ((table b k).greatest_demand - 4000 * get_or f.carried k 0)
      (table b k).carriers.cost (table b k).carriers.capacity is.carriers.some (omega arith) (omega arith) (omega (arith, most)) in
      omega (arith, e, order, h, below)

-- a place in the list of the weights
pub place-of : (k : ℕ) (w : Weight) → slice_get tried_weights k ≡ Some w → k < 12
place-of k w e = subst (λ n. k < n) twelve (slice_get_within tried_weights k w e)

pub weight-member : (weights : List Weight) (k : ℕ) (d : Weight) → weights ≡ tried_weights → k < 12 → slice_get tried_weights k ≡ Some (get_or weights k d)
weight-member weights k d same few =
    slice_get-get_or tried_weights k d (subst (λ n. k < n) (sym twelve) few) ∙ ap (λ (l : List Weight). Some (get_or l k d)) (sym same)

-- what is so of each tried weight by its number is so of all
pub all-tried : (P : Weight → Type 0) → ((k : ℕ) (w : Weight) → slice_get tried_weights k ≡ Some w → P w) → All P tried_weights
all-tried P each = λ k d within. each k (get_or tried_weights k d) (slice_get-get_or tried_weights k d within)

-- what a test says of the case of a number
pub not-of-case : (cases : List CaseData) (n : ℕ) (P : CaseData → Type 0) (r : Bool) → r ≡ false → (IsTrue r ↔ IsSomeAnd (slice_get cases n) P) → (case : CaseData) → slice_get cases n ≡ Some case → ¬ P case
not-of-case cases n P r e h case at holds = both_ways r e (h.1 (subst (λ o. IsSomeAnd o P) (sym at) holds))
