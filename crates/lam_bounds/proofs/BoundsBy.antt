-- The bounds by what is computed: the sums over the fixed plies, and the tables of what items carry.
use Rattle.std.proofs.Common.{◌≡◌, refl, sym, ◌∙◌, ap, ap₂, subst, ◌↔◌, ℕ, ◌+◌, ◌-◌, ◌*◌, ◌<◌, ◌≤◌, min, max, List, length, sum_by, Option, Some, None, All, arith}
use Rattle.std.proofs.Math.Nat.{mul-le-mul_right, mul-le-mul_left}
use Rattle.std.proofs.lemmas.List.Elements.{All-get_or}
use Rattle.std.proofs.lemmas.Option.{get_or_from_slice_get}
use Rattle.lam_stock.specs.declared.item.Item.{Item}
use Rattle.lam_stock.specs.declared.item.ItemNo.{ItemNo}
use Rattle.lam_job.specs.JobData.{JobData, CaseData}
use Rattle.lam_job.specs.Schedule.{wall_of, cost_of}
use Rattle.lam_job.specs.Partial.{Partial, half, child, fixed_plies, open_places, cheapest, cost_floor}
use Rattle.lam_job.proofs.Listed.{item_of}
use Rattle.lam_support.specs.declared.weight.Weight.{Weight}
use Rattle.lam_tree.specs.ForceBalance.{IsShort, least_cost, rounded_up, net_cost, greatest_cost}
use Rattle.lam_bounds.specs.declared.carriers.Carriers.{Carriers}
use Rattle.lam_bounds.specs.inside.Demands.{demand, net_floor}
use Rattle.lam_bounds.specs.inside.Tables.{AreCarriers}
use Rattle.lam_bounds.specs.inside.RunningSums.{places_of}
use Rattle.lam_bounds.proofs.Demanded.{short-by_demand, net-by_demand}
use Rattle.lam_bounds.proofs.ItemSums.{value_at}
use Rattle.lam_bounds.proofs.Rounding.{up_monotone, up_nothing}
use Rattle.lam_bounds.proofs.SumSteps.{wall-child, cost-child, places-child}

-- a greater floor, a greater cost and more that is lacking cost more
pub net-monotone : (floor cost lacking floor' cost' lacking' best caps : ℕ) → 1 ≤ caps → floor ≤ floor' → cost ≤ cost' → lacking ≤ lacking'
    → net_floor floor cost lacking best caps ≤ net_floor floor' cost' lacking' best caps
net-monotone floor cost lacking floor' cost' lacking' best caps some f c l =
    let times : lacking * best ≤ lacking' * best = mul-le-mul_right best l in
    let all : (lacking * best) * (4000 * caps) ≤ (lacking' * best) * (4000 * caps) = mul-le-mul_right (4000 * caps) times in
    let up = up_monotone (lacking * best) (4000 * caps) (lacking' * best) (4000 * caps) (omega (arith, some)) (omega (arith, some)) all in
    omega (arith, up, f, c)

-- where nothing is lacking, the floor
pub net-nothing : (floor cost lacking best caps : ℕ) → 1 ≤ caps → cost ≤ floor → floor ≤ greatest_cost → lacking ≡ 0 → net_floor floor cost lacking best caps ≡ floor
net-nothing floor cost lacking best caps some fixed small none =
    let zero-up : rounded_up (lacking * best) (4000 * caps) ≡ 0 = ap (λ l. rounded_up (l * best) (4000 * caps)) none ∙ up_nothing best (4000 * caps) (omega (arith, some)) in
    omega (arith, zero-up, fixed, small)

module _ (stock : List Item) (job : JobData) (w : Weight) (capacity : Item → ℕ) (c : Carriers) (are : AreCarriers capacity stock c) where
  nothing-lacking : least_cost capacity 0 stock ≡ 0
  nothing-lacking = are.cost 0 ∙ up_nothing c.cost (4000 * c.capacity) (let some = are.some in omega (arith, some))

  pub no_cost : least_cost capacity 0 stock ≡ 0
  no_cost = nothing-lacking

  -- ---- of a partial, by its sums

  module _ (p : Partial) (case : CaseData) (carried : ℕ) (carried-is : carried ≡ sum_by capacity (wall_of stock job (fixed_plies job p))) where
    pub short-by : (open_ : ℕ) → open_ ≡ open_places job p → IsShort stock job p case w capacity ↔ (4000 * carried + 4000 * open_ * c.greatest < demand case w)
    short-by open_ open-is =
        subst (λ n. IsShort stock job p case w capacity ↔ (n < demand case w))
        (λ i. 4000 * sym carried-is i + 4000 * sym open-is i * sym are.greatest i) (short-by_demand stock job p case w capacity)

    pub net-by : (floor cost : ℕ) → floor ≡ cost_floor stock job p → cost ≡ cost_of stock job (fixed_plies job p) → floor ≤ greatest_cost
        → net_cost stock job p case w capacity ≡ net_floor floor cost (demand case w - 4000 * carried) c.cost c.capacity
    net-by floor cost floor-is cost-is small =
        let fixed : cost_of stock job (fixed_plies job p) ≤ cost_floor stock job p = omega arith in
        net-by_demand stock job p case w capacity fixed (subst (λ n. n ≤ greatest_cost) floor-is small) nothing-lacking
        ∙ (λ i. min greatest_cost (max (sym floor-is i) (sym cost-is i + are.cost (demand case w - 4000 * sym carried-is i) i)))

  -- ---- of a child, by what is known of its parent

  module _ (p : Partial) (item : ItemNo) (more : length p.prefix < half job p.n) (known : item.0 < length stock) (case : CaseData)
      (carried : ℕ) (carried-is : carried ≡ sum_by capacity (wall_of stock job (fixed_plies job p)))
      (open_ : ℕ) (open-is : open_ ≡ open_places job p) (most : ℕ) (demanded : demand case w ≤ most) where
    abbrev places : ℕ
    places = places_of job p.n (length p.prefix)

    abbrev here : Item
    here = (item_of stock item known).0

    value-here : (f : Item → ℕ) → value_at stock f item ≡ f here
    value-here f = ap (λ (o : Option Item). elim o [ Some i ↦ f i | None ↦ 0 ]) (item_of stock item known).1

    at-here : (P : Item → Type 0) → All P stock → P here
    at-here P all =
        let e = (item_of stock item known).1 in
        subst P (get_or_from_slice_get stock item.0 here here e) (All-get_or P stock item.0 here known all)

    least-here : c.least ≤ capacity here
    least-here = at-here (λ i. c.least ≤ capacity i) are.least

    child-carried : sum_by capacity (wall_of stock job (fixed_plies job (child p item))) ≡ carried + places * capacity here
    child-carried = wall-child stock capacity job p item more ∙ (λ i. sym carried-is i + places * value-here capacity i)

    child-open : open_places job (child p item) ≡ open_ - places
    child-open = let e = places-child job p item more in omega (arith, e, open-is)

    pub child-short : IsShort stock job (child p item) case w capacity → 4000 * (carried + places * c.least) + 4000 * (open_ - places) * c.greatest < most
    child-short short =
        let h = (short-by (child p item) case (carried + places * capacity here) (sym child-carried) (open_ - places) (sym child-open)).0 short in
        let least : places * c.least ≤ places * capacity here = mul-le-mul_left places least-here in
        omega (arith, h, least, demanded)

    pub child-net : (cost dearest lowest : ℕ) → cost ≡ cost_of stock job (fixed_plies job p) → lowest ≡ cheapest stock → All (λ i. i.cost ≤ dearest) stock
        → cost_floor stock job (child p item) ≤ greatest_cost
        → net_cost stock job (child p item) case w capacity
        ≤ net_floor ((cost + places * dearest) + (open_ - places) * lowest) (cost + places * dearest) (most - 4000 * (carried + places * c.least)) c.cost c.capacity
    child-net cost dearest lowest cost-is lowest-is dear small =
        let child-cost : cost_of stock job (fixed_plies job (child p item)) ≡ cost + places * here.cost =
        cost-child stock job p item more ∙ (λ i. sym cost-is i + places * value-here (λ j. j.cost) i) in
        let e = net-by (child p item) case (carried + places * capacity here) (sym child-carried) (cost_floor stock job (child p item)) (cost_of stock job (fixed_plies job (child p item))) refl refl small in
        let dear-here : places * here.cost ≤ places * dearest = mul-le-mul_left places (at-here (λ i. i.cost ≤ dearest) dear) in
        let least : places * c.least ≤ places * capacity here = mul-le-mul_left places least-here in
        let open-cost : open_places job (child p item) * cheapest stock ≡ (open_ - places) * lowest = ap₂ (λ m n. m * n) child-open (sym lowest-is) in
        let cost-order : cost_of stock job (fixed_plies job (child p item)) ≤ cost + places * dearest = omega (arith, child-cost, dear-here) in
        let floor-order : cost_floor stock job (child p item) ≤ (cost + places * dearest) + (open_ - places) * lowest = omega (arith, cost-order, open-cost) in
        let lacking-order : demand case w - 4000 * (carried + places * capacity here) ≤ most - 4000 * (carried + places * c.least) = omega (arith, least, demanded) in
        subst (λ n. n ≤ net_floor ((cost + places * dearest) + (open_ - places) * lowest) (cost + places * dearest) (most - 4000 * (carried + places * c.least)) c.cost c.capacity) (sym e)
        (net-monotone _ _ _ _ _ _ c.cost c.capacity are.some floor-order cost-order lacking-order)
