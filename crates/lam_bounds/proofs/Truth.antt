-- What the bounds say of every completion.
use Rattle.std.proofs.Common.{◌≡◌, refl, sym, ◌∙◌, ap, subst, ℕ, ◌+◌, ◌-◌, ◌*◌, ◌<◌, ◌≤◌, pos, ◌≤ℤ◌, List, ◌++◌, length, sum_by, slice_get, Some, All, Bool, true, false, arith}
use Rattle.std.proofs.lemmas.Bool.{cases_lt}
use Rattle.std.proofs.lemmas.List.{length-append}
use Rattle.std.proofs.lemmas.List.Elements.{All-get_or}
use Rattle.std.proofs.lemmas.Option.{get_or_from_slice_get, slice_get_within}
use mathlib.Core.Logic.{⊎_elim}
use Rattle.lam_fraction.specs.Fraction.{whole}
use Rattle.lam_stock.specs.declared.item.Item.{Item}
use Rattle.lam_stock.specs.declared.item.ItemNo.{ItemNo}
use Rattle.lam_stock.specs.declared.scale.Scale.{Scale}
use Rattle.lam_stock.specs.Stock.{IsKnown, IsStock}
use Rattle.lam_job.specs.JobData.{JobData, CaseData}
use Rattle.lam_job.specs.LoadOf.{load_of}
use Rattle.lam_job.specs.Schedule.{items_of, wall_of, cost_of}
use Rattle.lam_job.specs.Strength.{PlyRatio}
use Rattle.lam_job.specs.Design.{Admissible}
use Rattle.lam_job.specs.Partial.{Partial, Completes, fixed_plies, cost_floor}
use Rattle.lam_job.proofs.Listed.{items_of-append, items_of-all, items_of-length}
use Rattle.lam_wall.proofs.CatalogueWalls.{listed-has_strain}
use Rattle.lam_support.specs.declared.weight.Weight.{Weight}
use Rattle.lam_tree.specs.ForceBalance.{need, have, IsShort, least_cost, net_cost, greatest_cost}
use Rattle.lam_bounds.specs.inside.Demands.{demand}
use Rattle.lam_bounds.proofs.Demanded.{at_most_natural, short-by_demand, net-by_demand}
use Rattle.lam_bounds.proofs.ItemSums.{amount, Filled, filled-wall, filled-cost, filled-most}
use Rattle.lam_bounds.proofs.NetCost.{cost_by, least_below, costs_at_least}
use Rattle.lam_bounds.proofs.WallForces.{AreCapacities, wall_carries}

module _ (stock : List Item) (job : JobData) (w : Weight) (capacity : Item → ℕ) where
  -- ---- a schedule that may be built carries what each case demands

  -- the wall is that of listed items, of which there is one at least
  with_strain : {scale : Scale} → IsStock stock scale → (in_wall : Bool) (listed : List ItemNo) → IsKnown stock listed → 1 ≤ length listed
      → (numbers : List ItemNo) × (wall_of stock (record job { liner_in_wall = in_wall }) listed ≡ items_of stock numbers) × (1 ≤ length (items_of stock numbers))
  with_strain is true listed known some =
      let parts = items_of-append stock job.liner listed in
      let long : length (items_of stock (job.liner ++ listed)) ≡ length (items_of stock job.liner) + length (items_of stock listed) =
      ap length parts ∙ length-append (items_of stock job.liner) (items_of stock listed) in
      let own = items_of-length stock listed known in
      (job.liner ++ listed, refl, omega (arith, long, own, some))
  with_strain is false listed known some = let own = items_of-length stock listed known in (listed, refl, omega (arith, own, some))

  pub carries_need : {scale : Scale} → IsStock stock scale → All (AreCapacities w capacity) stock → (p : Partial) (listed : List ItemNo) → Completes stock job p listed → Admissible stock job listed
      → (k : ℕ) (case : CaseData) → slice_get job.cases k ≡ Some case → need case w ≤ℤ pos (4000 * sum_by capacity (wall_of stock job listed))
  carries_need is bounds p listed c good k case e =
      let n = with_strain is job.liner_in_wall listed c.sequence.known c.sequence.some in
      let wall = items_of stock n.0 in
      let strain = listed-has_strain is n.0 n.2 (load_of case.kind) in
      let all = items_of-all stock (AreCapacities w capacity) bounds n.0 in
      let asked : (λ (c : CaseData). (ply : ℕ) → PlyRatio (wall_of stock job listed) (load_of c.kind) ply (whole c.factor)) case =
      subst (λ (c : CaseData). (ply : ℕ) → PlyRatio (wall_of stock job listed) (load_of c.kind) ply (whole c.factor)) (get_or_from_slice_get job.cases k case case e)
      (All-get_or (λ (c : CaseData). (ply : ℕ) → PlyRatio (wall_of stock job listed) (load_of c.kind) ply (whole c.factor)) job.cases k case (slice_get_within job.cases k case e) good.factors.cases) in
      let ratio : (ply : ℕ) → PlyRatio wall (load_of case.kind) ply (whole case.factor) =
      subst (λ (l : List Item). (ply : ℕ) → PlyRatio l (load_of case.kind) ply (whole case.factor)) n.1 asked in
      subst (λ (l : List Item). need case w ≤ℤ pos (4000 * sum_by capacity l)) (sym n.1)
      (wall_carries w capacity case.factor strain.0 wall (load_of case.kind) strain.1 all ratio)

  -- ---- what follows for a partial

  module _ (p : Partial) (case : CaseData) where
    abbrev fixed : ℕ
    fixed = sum_by capacity (wall_of stock job (fixed_plies job p))

    -- what a completion carries, by its parts
    parts : (listed : List ItemNo) (h : Filled stock job p listed) → need case w ≤ℤ pos (4000 * sum_by capacity (wall_of stock job listed))
        → demand case w ≤ have stock job p capacity + 4000 * amount stock capacity h.between
    parts listed h carried =
        let d = at_most_natural (4000 * sum_by capacity (wall_of stock job listed)) (need case w) carried in
        let whole = filled-wall stock h capacity in
        omega (arith, d, whole)

    pub short-fails : (listed : List ItemNo) → Filled stock job p listed → need case w ≤ℤ pos (4000 * sum_by capacity (wall_of stock job listed)) → IsShort stock job p case w capacity → ⊥
    short-fails listed h carried short =
        let above = (short-by_demand stock job p case w capacity).0 short in
        let d = parts listed h carried in
        let most = filled-most stock h capacity in
        omega (arith, above, d, most)

    pub net-at_most : (listed : List ItemNo) → Filled stock job p listed → cost_floor stock job p ≤ cost_of stock job listed → All (λ i. 1 ≤ capacity i) stock
        → cost_of stock job (fixed_plies job p) ≤ cost_floor stock job p → cost_floor stock job p ≤ greatest_cost → least_cost capacity 0 stock ≡ 0
        → need case w ≤ℤ pos (4000 * sum_by capacity (wall_of stock job listed)) → net_cost stock job p case w capacity ≤ cost_of stock job listed
    net-at_most listed h floor some small few none carried =
        let e = net-by_demand stock job p case w capacity small few none in
        let lacking = demand case w - have stock job p capacity in
        let d = parts listed h carried in
        let between = items_of stock h.between in
        let cost = filled-cost stock h in
        let least : least_cost capacity lacking stock ≤ sum_by (λ i. i.cost) between =
        ⊎_elim (λ (l : 0 < lacking). costs_at_least capacity lacking (least_cost capacity lacking stock) between l
        (items_of-all stock (λ i. 1 ≤ capacity i) some h.between)
        (items_of-all stock (λ i. least_cost capacity lacking stock ≤ cost_by capacity lacking i) (least_below capacity lacking stock) h.between) (omega (arith, d)))
        (λ (l : lacking ≤ 0). let z : lacking ≡ 0 = omega (arith, l) in let n : least_cost capacity lacking stock ≡ 0 = ap (λ m. least_cost capacity m stock) z ∙ none in omega (arith, n))
        (cases_lt 0 lacking) in
        omega (arith, e, least, cost, floor)
