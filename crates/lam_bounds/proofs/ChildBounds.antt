-- What the tables of a job and the sums of a partial schedule say of all its children.
use Rattle.std.proofs.Common.{[], ◌∷◌, ◌≡◌, sym, ◌∙◌, ap, subst, ◌↔◌, ℕ, ◌+◌, ◌-◌, ◌*◌, ◌<◌, ◌≤◌, List, length, get_or, slice_get, Some, Bool, false, IsTrue, arith}
use Rattle.std.proofs.lemmas.Bool.{both_ways}
use Rattle.std.proofs.lemmas.List.{length-append}
use Rattle.std.proofs.lemmas.List.Elements.{All-push}
use Rattle.lam_stock.specs.declared.item.Item.{Item}
use Rattle.lam_stock.specs.declared.item.ItemNo.{ItemNo}
use Rattle.lam_job.specs.JobData.{JobData, CaseData}
use Rattle.lam_job.specs.Partial.{Partial, half, child, cost_floor}
use Rattle.lam_rules.specs.Conditions.{IsPartial}
use Rattle.lam_support.specs.declared.weight.Weight.{Weight}
use Rattle.lam_tree.specs.ForceBalance.{IsShort, net_cost, greatest_cost}
use Rattle.lam_tree.specs.TriedWeights.{tried_weights}
use Rattle.lam_bounds.specs.declared.bounds.Bounds.{Bounds}
use Rattle.lam_bounds.specs.declared.fixed.Fixed.{Fixed}
use Rattle.lam_bounds.specs.inside.Computed.{capacity_value}
use Rattle.lam_bounds.specs.inside.Demands.{net_floor}
use Rattle.lam_bounds.specs.inside.RunningSums.{AreSumsOf, places_of}
use Rattle.lam_bounds.specs.inside.Tables.{AreBoundsOf}
use Rattle.lam_bounds.proofs.BoundsBy.{child-short, child-net}
use Rattle.lam_bounds.proofs.Facts as fact
use Rattle.lam_bounds.proofs.Facts.{of-case, case-of}
use Rattle.lam_bounds.proofs.Walking.{table, member}

module _ {stock : List Item} {job : JobData} {p : Partial} {b : Bounds} {f : Fixed} (partial : IsPartial stock job p) (are : AreBoundsOf stock job b) (sums : AreSumsOf stock job p f)
    (more : length p.prefix < half job p.n) where
  child-partial : (item : ItemNo) → item.0 < length stock → IsPartial stock job (child p item)
  child-partial item known = record {
    some = partial.some;
    few = partial.few;
    within = (let long = length-append p.prefix (item ∷ []) in omega (arith, long, more));
    known = All-push (λ (ply : ItemNo). ply.0 < length stock) p.prefix item partial.known known;
  }

  child-floor : (item : ItemNo) → item.0 < length stock → cost_floor stock job (child p item) ≤ greatest_cost
  child-floor item known =
      let thin : length job.liner ≤ 64 = let h = are.valid.liner in omega (arith, h) in
      let few = fact.floor-few stock job (child p item) (child-partial item known) are.catalogue are.liner thin in
      omega (arith, few)

  pub child-never-short : (k : ℕ) (r : Bool) (q x : ℕ) → k < 12 → q ≡ places_of job p.n (length p.prefix) → x ≡ q * (table b k).carriers.least
      → (IsTrue r ↔ (4000 * (get_or f.carried k 0 + x) + 4000 * (f.open_places - q) * (table b k).carriers.greatest < (table b k).greatest_demand)) → r ≡ false
      → (item : ItemNo) → item.0 < length stock → (n : ℕ) (case : CaseData) → slice_get job.cases n ≡ Some case
      → (w : Weight) → slice_get tried_weights k ≡ Some w → ¬ IsShort stock job (child p item) case w (λ i. capacity_value i w)
  child-never-short k r q x few q-is x-is h e item known n case at w tried short =
      let t = table b k in
      let is = are.each k w t tried (member partial are sums k few) in
      let above = child-short stock job w (λ i. capacity_value i w) t.carriers is.carriers p item more known case (get_or f.carried k 0) (sums.carried k w tried) f.open_places sums.places t.greatest_demand (is.greatest n case at) short in
      let moved : 4000 * (get_or f.carried k 0 + x) + 4000 * (f.open_places - q) * t.carriers.greatest < t.greatest_demand =
      subst (λ m. m < t.greatest_demand)
      (λ i. 4000 * (get_or f.carried k 0 + sym (x-is ∙ ap (λ m. m * t.carriers.least) q-is) i) + 4000 * (f.open_places - sym q-is i) * t.carriers.greatest) above in
      both_ways r e (h.1 moved)

  pub child-never-dear : (k limit r q x cost floor : ℕ) → k < 12 → q ≡ places_of job p.n (length p.prefix) → x ≡ q * (table b k).carriers.least
      → cost ≡ f.cost + q * b.dearest → floor ≡ cost + (f.open_places - q) * b.cheapest
      → r ≡ net_floor floor cost ((table b k).greatest_demand - 4000 * (get_or f.carried k 0 + x)) (table b k).carriers.cost (table b k).carriers.capacity → r < limit
      → (item : ItemNo) → item.0 < length stock → (n : ℕ) (case : CaseData) → slice_get job.cases n ≡ Some case
      → (w : Weight) → slice_get tried_weights k ≡ Some w → net_cost stock job (child p item) case w (λ i. capacity_value i w) < limit
  child-never-dear k limit r q x cost floor few q-is x-is cost-is floor-is h below item known n case at w tried =
      let t = table b k in
      let is = are.each k w t tried (member partial are sums k few) in
      let most = child-net stock job w (λ i. capacity_value i w) t.carriers is.carriers p item more known case (get_or f.carried k 0) (sums.carried k w tried) f.open_places sums.places t.greatest_demand (is.greatest n case at)
      f.cost b.dearest b.cheapest sums.cost are.cheapest are.dearest (child-floor item known) in
      let spent : f.cost + places_of job p.n (length p.prefix) * b.dearest ≡ cost = sym (cost-is ∙ ap (λ m. f.cost + m * b.dearest) q-is) in
      let all : (f.cost + places_of job p.n (length p.prefix) * b.dearest) + (f.open_places - places_of job p.n (length p.prefix)) * b.cheapest ≡ floor =
      sym (floor-is ∙ (λ i. sym spent i + (f.open_places - q-is i) * b.cheapest)) in
      let carried : places_of job p.n (length p.prefix) * t.carriers.least ≡ x = sym (x-is ∙ ap (λ m. m * t.carriers.least) q-is) in
      let same : net_floor ((f.cost + places_of job p.n (length p.prefix) * b.dearest) + (f.open_places - places_of job p.n (length p.prefix)) * b.cheapest) (f.cost + places_of job p.n (length p.prefix) * b.dearest)
      (t.greatest_demand - 4000 * (get_or f.carried k 0 + places_of job p.n (length p.prefix) * t.carriers.least)) t.carriers.cost t.carriers.capacity ≡ r =
      (λ i. net_floor (all i) (spent i) (t.greatest_demand - 4000 * (get_or f.carried k 0 + carried i)) t.carriers.cost t.carriers.capacity) ∙ sym h in
      let order = subst (λ m. net_cost stock job (child p item) case w (λ i. capacity_value i w) ≤ m) same most in
      omega (arith, order, below)
