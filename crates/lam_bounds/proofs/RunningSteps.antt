-- Running sums, made at once, and with a ply more or less.
use Rattle.std.proofs.Common.{◌≡◌, ◌≢◌, refl, sym, ◌∙◌, ap, ap₂, subst, ℕ, ◌+◌, ◌-◌, ◌*◌, ◌<◌, ◌≤◌, List, length, get_or, set, sum_by, slice_get, Some, All, Bool, true, false, if◌then◌else◌, arith}
use Rattle.std.proofs.lemmas.Bool.{cases_lt}
use Rattle.std.proofs.lemmas.List.{get_or-set_other, get_or-set_same}
use Rattle.std.proofs.lemmas.List.Elements.{All-weaker}
use Rattle.std.proofs.lemmas.Option.{get_or_from_slice_get, slice_get-get_or, slice_get_within}
use mathlib.Core.Logic.{⊎_elim}
use Rattle.lam_stock.specs.declared.item.Item.{Item}
use Rattle.lam_stock.specs.declared.item.ItemNo.{ItemNo}
use Rattle.lam_stock.specs.Stock.{IsKnown}
use Rattle.lam_job.specs.JobData.{JobData}
use Rattle.lam_job.specs.Schedule.{wall_of, cost_of}
use Rattle.lam_job.proofs.Listed.{item_of}
use Rattle.lam_job.specs.Partial.{Partial, half, child, fixed_plies, open_places}
use Rattle.lam_rules.specs.Conditions.{IsPartial}
use Rattle.lam_support.specs.declared.weight.Weight.{Weight}
use Rattle.lam_tree.specs.TriedWeights.{tried_weights}
use Rattle.lam_bounds.specs.declared.bounds.Tried.{Tried}
use Rattle.lam_bounds.specs.declared.bounds.Bounds.{Bounds}
use Rattle.lam_bounds.specs.declared.fixed.Fixed.{Fixed}
use Rattle.lam_bounds.specs.inside.Computed.{capacity_value}
use Rattle.lam_bounds.specs.inside.RunningSums.{AreSumsOf, table_sum, fixed_sum, places_of}
use Rattle.lam_bounds.specs.inside.Tables.{AreBoundsOf, HasValues}
use Rattle.lam_bounds.proofs.ItemSums.{value_at, liner_amount, wall_amount, cost_amount}
use Rattle.lam_bounds.proofs.SumSteps.{table-is, value-is, fixed-known, wall-child, cost-child, places-child, places-all, cost-few}
use Rattle.lam_bounds.proofs.Walking.{no_table, table, first_weight, place-of}

-- ---- made at once

module _ (stock : List Item) (job : JobData) (p : Partial) (liner : IsKnown stock job.liner) (known : IsKnown stock p.prefix) where
  pub cost-by-table : (values : List ℕ) → HasValues (λ i. i.cost) stock values → table_sum values job.liner + fixed_sum values job p ≡ cost_of stock job (fixed_plies job p)
  cost-by-table values has =
      ap₂ (λ m n. m + n) (table-is stock (λ i. i.cost) values has job.liner liner) (table-is stock (λ i. i.cost) values has (fixed_plies job p) (fixed-known stock job p known))
      ∙ sym (cost_amount stock job (fixed_plies job p))

  liner-by-table : (f : Item → ℕ) (values : List ℕ) → HasValues f stock values → (b : Bool) → (if b then table_sum values job.liner else 0) ≡ liner_amount stock f b job
  liner-by-table f values has true = table-is stock f values has job.liner liner
  liner-by-table f values has false = refl

  pub wall-by-table : (f : Item → ℕ) (values : List ℕ) → HasValues f stock values
      → (if job.liner_in_wall then table_sum values job.liner else 0) + fixed_sum values job p ≡ sum_by f (wall_of stock job (fixed_plies job p))
  wall-by-table f values has =
      ap₂ (λ m n. m + n) (liner-by-table f values has job.liner_in_wall) (table-is stock f values has (fixed_plies job p) (fixed-known stock job p known))
      ∙ sym (wall_amount stock f job (fixed_plies job p))

  pub whole-is : {b : Bounds} (are : AreBoundsOf stock job b) (k x : ℕ) (flag : Bool) (w : Weight) → k < 12 → slice_get tried_weights k ≡ Some w → flag ≡ job.liner_in_wall
      → x ≡ (if flag then table_sum (table b k).carriers.capacities job.liner else 0) + fixed_sum (table b k).carriers.capacities job p
      → x ≡ sum_by (λ i. capacity_value i w) (wall_of stock job (fixed_plies job p))
  whole-is {b} are k x flag w few tried same is =
      let at = slice_get-get_or b.tried k no_table (subst (λ n. k < n) (sym are.long) few) in
      is ∙ ap (λ f. (if f then table_sum (table b k).carriers.capacities job.liner else 0) + fixed_sum (table b k).carriers.capacities job p) same
      ∙ wall-by-table (λ i. capacity_value i w) (table b k).carriers.capacities (are.each k w (table b k) tried at).carriers.each

-- a number more for each tried weight
pub each-more : (G : Weight → ℕ) (now : List ℕ) (k x : ℕ) → k < length now → ((w : Weight) → slice_get tried_weights k ≡ Some w → x ≡ G w)
    → ((j : ℕ) (w : Weight) → j < k → slice_get tried_weights j ≡ Some w → get_or now j 0 ≡ G w)
    → (j : ℕ) (w : Weight) → j < k + 1 → slice_get tried_weights j ≡ Some w → get_or (set now k x) j 0 ≡ G w
each-more G now k x within is done j w below tried =
    ⊎_elim (λ (h : j < k). let ne : j ≢ k = λ same. omega (arith, h, same) in get_or-set_other now k j x 0 ne ∙ done j w h tried)
    (λ (h : k ≤ j).
    let same : j ≡ k = omega (arith, h, below) in
    ap (λ m. get_or (set now k x) m 0) same ∙ get_or-set_same now k x 0 within ∙ is w (subst (λ m. slice_get tried_weights m ≡ Some w) same tried))
    (cases_lt j k)

pub known-few : (stock : List Item) (n : ℕ) (numbers : List ItemNo) → length stock ≤ n → IsKnown stock numbers → All (λ ply. ply.0 < n) numbers
known-few stock n numbers few known = All-weaker (λ (ply : ItemNo). ply.0 < length stock) (λ (ply : ItemNo). ply.0 < n) (λ ply h. omega (arith, h, few)) numbers known

-- ---- a sum a weight

-- what the item of a table carries at some places
abbrev pub share_of : (places item : ℕ) → Tried → ℕ
share_of places item t = places * get_or t.carriers.capacities item 0

module _ (op : ℕ → ℕ → ℕ) (g : Tried → ℕ) (tried : List Tried) (old now : List ℕ) (k x : ℕ) (long : length now ≡ 12) (few : k < 12) (is : x ≡ g (get_or tried k no_table))
    (rest : (j : ℕ) → k ≤ j → get_or now j 0 ≡ get_or old j 0) where
  pub sums-done : ((j : ℕ) (t : Tried) → j < k → slice_get tried j ≡ Some t → get_or now j 0 ≡ op (get_or old j 0) (g t))
      → (j : ℕ) (t : Tried) → j < k + 1 → slice_get tried j ≡ Some t → get_or (set now k (op (get_or now k 0) x)) j 0 ≡ op (get_or old j 0) (g t)
  sums-done done j t below at =
      ⊎_elim (λ (h : j < k). let ne : j ≢ k = λ same. omega (arith, h, same) in get_or-set_other now k j (op (get_or now k 0) x) 0 ne ∙ done j t h at)
      (λ (h : k ≤ j).
      let same : j ≡ k = omega (arith, h, below) in
      let here : get_or tried k no_table ≡ t = get_or_from_slice_get tried k t no_table (subst (λ m. slice_get tried m ≡ Some t) same at) in
      ap (λ m. get_or (set now k (op (get_or now k 0) x)) m 0) same ∙ get_or-set_same now k (op (get_or now k 0) x) 0 (subst (λ n. k < n) (sym long) few)
      ∙ ap₂ op (rest k (omega arith) ∙ ap (λ m. get_or old m 0) (sym same)) (is ∙ ap g here))
      (cases_lt j k)

  pub sums-rest : (j : ℕ) → k + 1 ≤ j → get_or (set now k (op (get_or now k 0) x)) j 0 ≡ get_or old j 0
  sums-rest j above = let ne : j ≢ k = λ same. omega (arith, above, same) in get_or-set_other now k j (op (get_or now k 0) x) 0 ne ∙ rest j (omega (arith, above))

pub any-default : (xs : List ℕ) (k d e : ℕ) → k < length xs → get_or xs k d ≡ get_or xs k e
any-default xs k d e within = sym (get_or_from_slice_get xs k (get_or xs k d) e (slice_get-get_or xs k d within))

-- ---- a ply more, and a ply less

module _ {stock : List Item} {job : JobData} {p : Partial} {b : Bounds} (partial : IsPartial stock job p) (are : AreBoundsOf stock job b) (item : ItemNo) (known : item.0 < length stock) (more : length p.prefix < half job p.n) where
  abbrev places : ℕ
  places = places_of job p.n (length p.prefix)

  pub item-few : item.0 < 64
  item-few = let few = are.catalogue.few in omega (arith, known, few)

  pub item-cost : get_or b.costs item.0 0 ≤ 1000000000
  item-cost =
      let i = item_of stock item known in
      let few = cost-few stock are.catalogue.limits stock refl item.0 i.0 known in
      let at = ap (λ (x : Item). x.cost) (get_or_from_slice_get stock item.0 i.0 i.0 i.1) in
      omega (arith, are.costs item.0 i.0 i.1, few, at)

  cost-is : get_or b.costs item.0 0 ≡ value_at stock (λ i. i.cost) item
  cost-is = value-is stock (λ i. i.cost) b.costs are.costs item known

  caps-are : (k : ℕ) (w : Weight) (t : Tried) → slice_get tried_weights k ≡ Some w → slice_get b.tried k ≡ Some t → get_or t.carriers.capacities item.0 0 ≡ value_at stock (λ i. capacity_value i w) item
  caps-are k w t tried at = value-is stock (λ i. capacity_value i w) t.carriers.capacities (are.each k w t tried at).carriers.each item known

  table-of : (k : ℕ) → k < 12 → slice_get b.tried k ≡ Some (table b k)
  table-of k few = slice_get-get_or b.tried k no_table (subst (λ n. k < n) (sym are.long) few)

  pub places-some : places_of job p.n (length p.prefix) ≤ open_places job p
  places-some = let e = places-child job p item more in omega (arith, e)

  pub pushed : (f g : Fixed) (q : ℕ) → q ≡ places → AreSumsOf stock job p f → g.cost ≡ f.cost + q * get_or b.costs item.0 0 → length g.carried ≡ 12
      → ((k : ℕ) (t : Tried) → slice_get b.tried k ≡ Some t → get_or g.carried k 0 ≡ get_or f.carried k 0 + q * get_or t.carriers.capacities item.0 0) → g.open_places ≡ f.open_places - q
      → AreSumsOf stock job (child p item) g
  pushed f g q q-is sums cost long carried open-is = record {
    cost = cost ∙ (λ i. sums.cost i + q-is i * cost-is i) ∙ sym (cost-child stock job p item more);
    carried = λ k w tried.
        let few = place-of k w tried in
        carried k (table b k) (table-of k few) ∙ (λ i. sums.carried k w tried i + q-is i * caps-are k w (table b k) tried (table-of k few) i)
        ∙ sym (wall-child stock (λ i. capacity_value i w) job p item more);
    long = long;
    places = (let e = places-child job p item more in let o = sums.places in omega (arith, e, o, open-is, q-is));
  }

  -- what the child's sums have over its parent's
  pub cost-over : (f : Fixed) → AreSumsOf stock job (child p item) f → f.cost ≡ cost_of stock job (fixed_plies job p) + places * get_or b.costs item.0 0
  cost-over f sums = sums.cost ∙ cost-child stock job p item more ∙ ap (λ c. cost_of stock job (fixed_plies job p) + places * c) (sym cost-is)

  pub carried-over : (f : Fixed) → AreSumsOf stock job (child p item) f → (k : ℕ) (w : Weight) (t : Tried) → slice_get tried_weights k ≡ Some w → slice_get b.tried k ≡ Some t
      → get_or f.carried k 0 ≡ sum_by (λ i. capacity_value i w) (wall_of stock job (fixed_plies job p)) + places * get_or t.carriers.capacities item.0 0
  carried-over f sums k w t tried at =
      sums.carried k w tried ∙ wall-child stock (λ i. capacity_value i w) job p item more ∙ ap (λ c. sum_by (λ i. capacity_value i w) (wall_of stock job (fixed_plies job p)) + places * c) (sym (caps-are k w t tried at))

  pub had-over : (f : Fixed) (q : ℕ) → q ≡ places → AreSumsOf stock job (child p item) f → (k : ℕ) (t : Tried) → slice_get b.tried k ≡ Some t → q * get_or t.carriers.capacities item.0 0 ≤ get_or f.carried k 0
  had-over f q q-is sums k t at =
      let few : k < 12 = subst (λ n. k < n) are.long (slice_get_within b.tried k t at) in
      let over = carried-over f sums k _ t (slice_get-get_or tried_weights k first_weight few) at in
      let same = ap (λ m. m * get_or t.carriers.capacities item.0 0) q-is in
      omega (arith, over, same)

  pub places-few : (f : Fixed) → AreSumsOf stock job (child p item) f → f.open_places ≤ 56
  places-few f sums =
      let e = places-child job p item more in
      let all = places-all job p partial.within in
      let few = partial.few in
      let is = sums.places in
      omega (arith, e, all, few, is)

  pub popped : (f g : Fixed) (q : ℕ) → q ≡ places → AreSumsOf stock job (child p item) f → g.cost ≡ f.cost - q * get_or b.costs item.0 0 → length g.carried ≡ 12
      → ((k : ℕ) (t : Tried) → slice_get b.tried k ≡ Some t → get_or g.carried k 0 ≡ get_or f.carried k 0 - q * get_or t.carriers.capacities item.0 0) → g.open_places ≡ f.open_places + q
      → AreSumsOf stock job p g
  popped f g q q-is sums cost long carried open-is = record {
    cost = cost ∙ ap₂ (λ m n. m - n * get_or b.costs item.0 0) (cost-over f sums) q-is ∙ less (cost_of stock job (fixed_plies job p)) (places * get_or b.costs item.0 0);
    carried = λ k w tried.
        let few = place-of k w tried in
        let t = table b k in
        carried k t (table-of k few) ∙ ap₂ (λ m n. m - n * get_or t.carriers.capacities item.0 0) (carried-over f sums k w t tried (table-of k few)) q-is
        ∙ less (sum_by (λ i. capacity_value i w) (wall_of stock job (fixed_plies job p))) (places * get_or t.carriers.capacities item.0 0);
    long = long;
    places = (let e = places-child job p item more in let o = sums.places in omega (arith, e, o, open-is, q-is));
  }
    where
      less : (m n : ℕ) → (m + n) - n ≡ m
      less m n = omega arith
