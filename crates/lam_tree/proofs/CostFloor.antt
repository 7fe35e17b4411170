-- No completion of a partial schedule costs less than its floor.
use Rattle.std.proofs.Common.{◌≡◌, ◌∙◌, ap, subst, ℕ, suc, ◌+◌, ◌*◌, ◌≤◌, min, List, [], ◌∷◌, ◌++◌, length, fold, sum_by, All, arith}
use Rattle.std.proofs.lemmas.List.Elements.{All-head, All-tail, All-cons, All-nil}
use Rattle.std.proofs.lemmas.List.Sums.{sum_by-append}
use Rattle.lam_stock.specs.declared.item.Item.{Item}
use Rattle.lam_stock.specs.declared.item.ItemNo.{ItemNo}
use Rattle.lam_stock.specs.Stock.{IsKnown}
use Rattle.lam_job.specs.JobData.{JobData}
use Rattle.lam_job.specs.Schedule.{items_of, cost_of}
use Rattle.lam_job.specs.Partial.{Partial, Completes, fixed_plies, open_places, cheapest, cost_floor}
use Rattle.lam_job.proofs.Listed.{items_of-append, items_of-all, items_of-length}
use Rattle.lam_rules.proofs.Parts.{mirror_images, fixed_in_parts, completion_in_parts}

-- ---- the cheapest item

least_from : ℕ → List Item → ℕ
least_from z stock = fold (λ least other. min least other.cost) z stock

not_above : (z : ℕ) (stock : List Item) → least_from z stock ≤ z
unfolding least_from
not_above z [] = omega arith
not_above z (i ∷ rest) = let h = not_above (min z i.cost) rest in omega (arith, h)

none_below : (z : ℕ) (stock : List Item) → All (λ i. least_from z stock ≤ i.cost) stock
unfolding least_from
none_below z [] = All-nil (λ (i : Item). z ≤ i.cost)
none_below z (i ∷ rest) =
    let least = min z i.cost in
    let h = not_above least rest in
    All-cons (λ (other : Item). least_from least rest ≤ other.cost) i rest (omega (arith, h)) (none_below least rest)

pub none_is_cheaper : (stock : List Item) → All (λ i. cheapest stock ≤ i.cost) stock
unfolding least_from
none_is_cheaper [] = All-nil (λ (i : Item). 0 ≤ i.cost)
none_is_cheaper (i ∷ rest) =
    let h = not_above i.cost rest in
    All-cons (λ (other : Item). least_from i.cost rest ≤ other.cost) i rest h (none_below i.cost rest)

-- ---- costs of more items

-- items that cost so much each
each_costs : (c : ℕ) (items : List Item) → All (λ i. c ≤ i.cost) items → length items * c ≤ sum_by (λ i. i.cost) items
each_costs c [] all = omega arith
each_costs c (i ∷ rest) all =
    let own : c ≤ i.cost = All-head (λ (other : Item). c ≤ other.cost) i rest all in
    let h = each_costs c rest (All-tail (λ (other : Item). c ≤ other.cost) i rest all) in
    let e : suc (length rest) * c ≡ c + length rest * c = omega arith in
    let sum : sum_by (λ (j : Item). j.cost) (i ∷ rest) ≡ (0 + i.cost) + sum_by (λ (j : Item). j.cost) rest = sum_by-append (λ (j : Item). j.cost) (i ∷ []) rest in
    omega (arith, own, h, e, sum)

module _ (stock : List Item) where
  listed_cost : List ItemNo → ℕ
  listed_cost numbers = sum_by (λ i. i.cost) (items_of stock numbers)

  listed_cost-append : (a b : List ItemNo) → listed_cost (a ++ b) ≡ listed_cost a + listed_cost b
  unfolding listed_cost
  listed_cost-append a b =
      ap (λ items. sum_by (λ i. i.cost) items) (items_of-append stock a b) ∙ sum_by-append (λ (i : Item). i.cost) (items_of stock a) (items_of stock b)

  cost_is : (job : JobData) (listed : List ItemNo) → cost_of stock job listed ≡ listed_cost job.liner + listed_cost listed
  unfolding listed_cost
  cost_is job listed = listed_cost-append job.liner listed

  places_cost : (between : List ItemNo) → IsKnown stock between → length between * cheapest stock ≤ listed_cost between
  unfolding listed_cost
  places_cost between known =
      let long : length (items_of stock between) ≡ length between = items_of-length stock between known in
      let h = each_costs (cheapest stock) (items_of stock between) (items_of-all stock (λ (i : Item). cheapest stock ≤ i.cost) (none_is_cheaper stock) between) in
      subst (λ n. n * cheapest stock ≤ sum_by (λ i. i.cost) (items_of stock between)) long h

  -- no completion costs less than the fixed plies with the cheapest item at each open place
  pub floor_bounds : (job : JobData) (p : Partial) (listed : List ItemNo) → Completes stock job p listed
      → cost_floor stock job p ≤ cost_of stock job listed
  floor_bounds job p listed c =
      let images = mirror_images job.rules.symmetric p in
      let i = completion_in_parts stock job p listed c in
      let fixed : cost_of stock job (fixed_plies job p) ≡ listed_cost job.liner + (listed_cost p.prefix + listed_cost images)
      = cost_is job (fixed_plies job p)
      ∙ ap (λ l. listed_cost job.liner + listed_cost l) (fixed_in_parts job p)
      ∙ ap (λ n. listed_cost job.liner + n) (listed_cost-append p.prefix images) in
      let whole : cost_of stock job listed ≡ listed_cost job.liner + (listed_cost p.prefix + (listed_cost i.between + listed_cost images))
      = cost_is job listed
      ∙ ap (λ l. listed_cost job.liner + listed_cost l) i.parts
      ∙ ap (λ n. listed_cost job.liner + n) (listed_cost-append p.prefix (i.between ++ images))
      ∙ ap (λ n. listed_cost job.liner + (listed_cost p.prefix + n)) (listed_cost-append i.between images) in
      let places : open_places job p * cheapest stock ≤ listed_cost i.between
      = subst (λ n. n * cheapest stock ≤ listed_cost i.between) i.long (places_cost i.between (i.known (length stock) c.sequence.known)) in
      omega (arith, fixed, whole, places)
