-- Sums over the fixed plies, from a partial schedule to its child.
use Rattle.std.proofs.Common.{◌≡◌, refl, sym, ◌∙◌, ap, ap₂, subst, ℕ, ◌+◌, ◌-◌, ◌*◌, ◌<◌, ◌≤◌, List, [], ◌∷◌, ◌++◌, length, sum_by, get_or, slice_get, Option, Some, None, All, Bool, true, false, cond, arith}
use Rattle.std.proofs.lemmas.Int.{ints}
use Rattle.std.proofs.lemmas.List.{length-append}
use Rattle.std.proofs.Math.Nat.{mul-le-mul_right}
use Rattle.std.proofs.lemmas.List.Elements.{All-get_or, All-head, All-same, All-tail, All-weaker}
use Rattle.std.proofs.lemmas.List.Sums.{sum_by-cons}
use Rattle.lam_stock.specs.declared.item.Item.{Item}
use Rattle.lam_stock.specs.declared.item.ItemNo.{ItemNo}
use Rattle.lam_stock.specs.Stock.{IsKnown, WithinLimits}
use Rattle.lam_job.specs.JobData.{JobData}
use Rattle.lam_job.specs.Schedule.{items_of, wall_of, cost_of}
use Rattle.lam_job.specs.Partial.{Partial, half, child, fixed_plies, open_places}
use Rattle.lam_job.proofs.Listed.{item_of, items_of-all, items_of-length}
use Rattle.lam_bounds.specs.inside.Tables.{HasValues}
use Rattle.lam_bounds.specs.inside.RunningSums.{table_sum, places_of}
use Rattle.lam_bounds.proofs.FixedSums.{laid-more, laid-length, laid-few, laid-all, open-more}
use Rattle.lam_bounds.proofs.ItemSums.{amount, amount-numbers, value_at, liner_amount, wall_amount, cost_amount, each_at_most}

module _ (stock : List Item) where
  -- ---- by a table

  pub value-is : (f : Item → ℕ) (values : List ℕ) → HasValues f stock values → (ply : ItemNo) → ply.0 < length stock → get_or values ply.0 0 ≡ value_at stock f ply
  value-is f values has ply known =
      let i = item_of stock ply known in
      has ply.0 i.0 i.1 ∙ by f i.0 (slice_get stock ply.0) (i.1)
    where
      by : (f : Item → ℕ) (i : Item) (o : Option Item) → o ≡ Some i → f i ≡ elim o [ Some j ↦ f j | None ↦ 0 ]
      by f i o e = sym (ap (λ (p : Option Item). elim p [ Some j ↦ f j | None ↦ 0 ]) e)

  pub table-is : (f : Item → ℕ) (values : List ℕ) → HasValues f stock values → (numbers : List ItemNo) → IsKnown stock numbers → table_sum values numbers ≡ amount stock f numbers
  table-is f values has numbers known = by numbers known ∙ sym (amount-numbers stock f numbers)
    where
      by : (numbers : List ItemNo) → IsKnown stock numbers → table_sum values numbers ≡ sum_by (value_at stock f) numbers
      by [] known = refl
      by (ply ∷ numbers) known =
          let first = value-is f values has ply (All-head (λ (p : ItemNo). p.0 < length stock) ply numbers known) in
          let rest = by numbers (All-tail (λ (p : ItemNo). p.0 < length stock) ply numbers known) in
          sum_by-cons (λ (p : ItemNo). get_or values p.0 0) ply numbers ∙ ap₂ (λ m n. m + n) first rest ∙ sym (sum_by-cons (value_at stock f) ply numbers)

  -- ---- the plies that are fixed are known

  pub fixed-known : (job : JobData) (p : Partial) → IsKnown stock p.prefix → IsKnown stock (fixed_plies job p)
  fixed-known job p known = laid-all (λ (ply : ItemNo). ply.0 < length stock) job.rules.symmetric p.n p.prefix known

  -- ---- a child

  pub amount-child : (f : Item → ℕ) (job : JobData) (p : Partial) (item : ItemNo) → length p.prefix < half job p.n
      → amount stock f (fixed_plies job (child p item)) ≡ amount stock f (fixed_plies job p) + places_of job p.n (length p.prefix) * value_at stock f item
  amount-child f job p item more =
      amount-numbers stock f (fixed_plies job (child p item)) ∙ laid-more (value_at stock f) job.rules.symmetric p.n p.prefix item more
      ∙ ap (λ n. n + places_of job p.n (length p.prefix) * value_at stock f item) (sym (amount-numbers stock f (fixed_plies job p)))

  pub wall-child : (f : Item → ℕ) (job : JobData) (p : Partial) (item : ItemNo) → length p.prefix < half job p.n
      → sum_by f (wall_of stock job (fixed_plies job (child p item))) ≡ sum_by f (wall_of stock job (fixed_plies job p)) + places_of job p.n (length p.prefix) * value_at stock f item
  wall-child f job p item more =
      let a = wall_amount stock f job (fixed_plies job (child p item)) in
      let b = wall_amount stock f job (fixed_plies job p) in
      let c = amount-child f job p item more in
      omega (arith, a, b, c)

  pub cost-child : (job : JobData) (p : Partial) (item : ItemNo) → length p.prefix < half job p.n
      → cost_of stock job (fixed_plies job (child p item)) ≡ cost_of stock job (fixed_plies job p) + places_of job p.n (length p.prefix) * value_at stock (λ i. i.cost) item
  cost-child job p item more =
      let a = cost_amount stock job (fixed_plies job (child p item)) in
      let b = cost_amount stock job (fixed_plies job p) in
      let c = amount-child (λ i. i.cost) job p item more in
      omega (arith, a, b, c)

pub places-child : (job : JobData) (p : Partial) (item : ItemNo) → length p.prefix < half job p.n
    → open_places job (child p item) + places_of job p.n (length p.prefix) ≡ open_places job p
places-child job p item more =
    let k = length p.prefix in
    let long : length (p.prefix ++ item ∷ []) ≡ k + 1 = length-append p.prefix (item ∷ []) in
    let within : length (p.prefix ++ item ∷ []) ≤ half job p.n = omega (arith, long, more) in
    let new : open_places job (child p item) ≡ p.n - cond job.rules.symmetric (2 * (k + 1)) (k + 1) =
    laid-length job.rules.symmetric p.n (p.prefix ++ item ∷ []) within ∙ ap (λ m. p.n - cond job.rules.symmetric (2 * m) m) long in
    let old : open_places job p ≡ p.n - cond job.rules.symmetric (2 * k) k = laid-length job.rules.symmetric p.n p.prefix (omega (arith, more)) in
    ap (λ m. m + places_of job p.n k) new ∙ open-more job.rules.symmetric p.n k more ∙ sym old

-- the places that are open, and the plies that are fixed, are those of the schedule
pub places-all : (job : JobData) (p : Partial) → length p.prefix ≤ half job p.n → length (fixed_plies job p) + open_places job p ≡ p.n
places-all job p within = let few = laid-few job.rules.symmetric p.n p.prefix within in omega (arith, few)

-- ---- how large they are

module _ (stock : List Item) (limits : All WithinLimits stock) where
  costs-few : All (λ i. i.cost ≤ 1000000000) stock
  costs-few = All-weaker WithinLimits (λ (i : Item). i.cost ≤ 1000000000) (λ i h. cost-most i h) stock limits
    where
      cost-most : (i : Item) → WithinLimits i → i.cost ≤ 1000000000
      cost-most i h = omega (arith, ints, h.limits.range.rest.greatest_cost)

  -- of an item at a place
  pub cost-few : (items : List Item) → items ≡ stock → (k : ℕ) (d : Item) → k < length items → (get_or items k d).cost ≤ 1000000000
  cost-few items same k d within = All-get_or (λ (i : Item). i.cost ≤ 1000000000) items k d within (All-same (λ (i : Item). i.cost ≤ 1000000000) items stock same costs-few)

  -- the items of so many numbers
  amount-few : (f : Item → ℕ) (m : ℕ) → All (λ i. f i ≤ m) stock → (numbers : List ItemNo) → IsKnown stock numbers → amount stock f numbers ≤ length numbers * m
  amount-few f m all numbers known =
      subst (λ n. amount stock f numbers ≤ n * m) (items_of-length stock numbers known)
      (each_at_most f m (items_of stock numbers) (items_of-all stock (λ i. f i ≤ m) all numbers))

  -- the liner and the plies of a schedule of at most 56
  module _ (job : JobData) (p : Partial) (liner : IsKnown stock job.liner) (thin : length job.liner ≤ 64) (few : p.n ≤ 56) (within : length p.prefix ≤ half job p.n) (known : IsKnown stock p.prefix) where
    fixed-few : length (fixed_plies job p) ≤ 56
    fixed-few = let all = places-all job p within in omega (arith, all, few)

    pub cost-small : cost_of stock job (fixed_plies job p) ≤ 120000000000
    cost-small =
        let parts = cost_amount stock job (fixed_plies job p) in
        let one = amount-few (λ i. i.cost) 1000000000 costs-few job.liner liner in
        let other = amount-few (λ i. i.cost) 1000000000 costs-few (fixed_plies job p) (fixed-known stock job p known) in
        omega (arith, parts, one, other, thin, fixed-few)

    pub wall-small : (f : Item → ℕ) (m : ℕ) → All (λ i. f i ≤ m) stock → sum_by f (wall_of stock job (fixed_plies job p)) ≤ 120 * m
    wall-small f m all =
        let parts = wall_amount stock f job (fixed_plies job p) in
        let one = liner-few job.liner_in_wall in
        let other = amount-few f m all (fixed_plies job p) (fixed-known stock job p known) in
        let times : length (fixed_plies job p) * m ≤ 56 * m = mul-le-mul_right m fixed-few in
        omega (arith, parts, one, other, times)
      where
        liner-few : (in_wall : Bool) → liner_amount stock f in_wall job ≤ 64 * m
        liner-few true =
            let one = amount-few f m all job.liner liner in
            let times : length job.liner * m ≤ 64 * m = mul-le-mul_right m thin in
            omega (arith, one, times)
        liner-few false = omega arith
