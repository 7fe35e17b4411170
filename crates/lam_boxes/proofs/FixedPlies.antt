-- The sum over fixed plies, one ply after the other.
use Rattle.std.proofs.Common.{◌≡◌, refl, sym, ◌∙◌, ap, subst, ℕ, ◌+◌, ◌<◌, ℤ, pos, ◌+ℤ◌, ◌≤ℤ◌, List, [], ◌∷◌, ◌++◌, length, length-take, take, get_or, slice_get, Some, All, arith}
use Rattle.std.proofs.lemmas.Int.{ints}
use Rattle.std.proofs.lemmas.List.{take_all}
use Rattle.std.proofs.lemmas.List.Elements.{All-take}
use Rattle.std.proofs.lemmas.List.Sums.{fold-append}
use Rattle.lam_fraction.specs.numbers.Numbers.{Numbers, Lawful}
use Rattle.lam_stock.specs.declared.item.Item.{Item}
use Rattle.lam_stock.specs.declared.item.ItemNo.{ItemNo}
use Rattle.lam_stock.specs.Scale.{scale_of}
use Rattle.lam_stock.specs.Stock.{WithinLimits}
use Rattle.lam_stock.proofs.ScaleFacts.{scale-kept}
use Rattle.lam_lamina.specs.Covered.{IsCovered}
use Rattle.lam_lamina.specs.declared.stiffness.Sym3.{Sym3}
use Rattle.lam_lamina.specs.declared.table.Stiffnesses.{Stiffnesses}
use Rattle.lam_lamina.specs.inside.Formulas.{zeros}
use Rattle.lam_lamina.specs.inside.Table.{IsTableOf, entry_at}
use Rattle.lam_lamina.proofs.Catalogue.{catalogue-covered}
use Rattle.lam_job.specs.Schedule.{items_of}
use Rattle.lam_job.specs.Wall.{wall_thickness}
use Rattle.lam_job.proofs.Listed.{known-item, items_of-more, items_of-all}
use Rattle.lam_job.proofs.Places.{thickness-append, thickness_not_negative, wall_not_negative}
use Rattle.lam_wall.specs.inside.Formulas as wall
use Rattle.lam_wall.proofs.LaidWall.{first_within, short-stiffness}
use Rattle.lam_boxes.specs.inside.Extensions.{fixed_sum, with_ply}
use Rattle.lam_boxes.specs.inside.Parts.{AreFixed, MatrixReaches, entry_reach}
use Rattle.lam_boxes.proofs.Completions.{are-within}
use Rattle.lam_boxes.proofs.HeldExtension.{fixed-reaches}

module _ {A : Type 0} {n : Numbers A} (laws : Lawful n) {h : ℤ} {stock : List Item} {numbers : List ItemNo} (f : AreFixed h stock numbers) where
  abbrev q0 : ℤ
  q0 = (scale_of stock).q0

  first-fixed : (k : ℕ) → AreFixed h stock (take k numbers)
  first-fixed k = record {
    catalogue = f.catalogue;
    thickness = f.thickness;
    few = (let t = length-take k numbers in omega (arith, t, f.few));
    known = All-take (λ (ply : ItemNo). ply.0 < length stock) k numbers f.known;
    within = (let a = first_within stock numbers k f.catalogue.limits in omega (arith, ints, a, f.within));
  }

  covered : All (λ i. IsCovered q0 i.lamina) stock
  covered = catalogue-covered stock (scale_of stock) f.catalogue.limits (scale-kept stock stock (scale_of stock) f.catalogue refl).0

  pub sum-room : (k : ℕ) {s : Sym3 A} → s ≡ fixed_sum n q0 h (items_of stock (take k numbers)) → MatrixReaches n entry_reach s
  sum-room k e = subst (MatrixReaches n entry_reach) (sym e) (fixed-reaches laws q0 h (are-within (first-fixed k)))

  -- one more of them, that of an item i
  module _ (k : ℕ) (i : Item) (inside : k < length numbers) (is : i ≡ get_or stock (get_or numbers k (record { 0 = 0 })).0 i) where
    keeps : (P : Item → Type 0) → All P stock → P i
    keeps P all = subst P (sym is) (all (get_or numbers k (record { 0 = 0 })).0 i (f.known k (record { 0 = 0 }) inside))

    pub next-limits : WithinLimits i
    next-limits = keeps WithinLimits f.catalogue.limits

    at : slice_get stock (get_or numbers k (record { 0 = 0 })).0 ≡ Some i
    at = known-item stock numbers k (record { 0 = 0 }) i inside f.known ∙ ap Some (sym is)

    pub next-few : (get_or numbers k (record { 0 = 0 })).0 < 64
    next-few = let known = f.known k (record { 0 = 0 }) inside in omega (arith, known, f.catalogue.few)

    -- the entry of a table at its number is its stiffness
    pub next-told : {table : Stiffnesses A} → IsTableOf n stock table → entry_at table (get_or numbers k (record { 0 = 0 })).0 ≡ wall.stiffness n.calc q0 i
    next-told is_table = is_table.entries (get_or numbers k (record { 0 = 0 })).0 i at

    pub next-short : {s : Sym3 A} → s ≡ wall.stiffness n.calc q0 i → MatrixReaches n entry_reach s
    next-short e = subst (MatrixReaches n entry_reach) (sym e)
        (let s = short-stiffness laws q0 h next-limits (keeps (λ i. IsCovered q0 i.lamina) covered) in record { xx = s.xx; xy = s.xy; yy = s.yy; xs = s.xs; ys = s.ys; ss = s.ss })

    abbrev done : List Item
    done = items_of stock (take k numbers)

    extended : items_of stock (take (k + 1) numbers) ≡ done ++ i ∷ []
    extended = items_of-more stock numbers k (record { 0 = 0 }) i inside at

    pub next-thick : pos 0 ≤ℤ i.lamina.t
    next-thick = thickness_not_negative next-limits

    pub next-within : i.lamina.t ≤ℤ h
    next-within =
        let sum : wall_thickness (items_of stock (take (k + 1) numbers)) ≡ wall_thickness done +ℤ i.lamina.t
        = ap wall_thickness extended ∙ thickness-append done (i ∷ []) ∙ omega (arith, ints) in
        let below = wall_not_negative done (items_of-all stock WithinLimits f.catalogue.limits (take k numbers)) in
        let all = (first-fixed (k + 1)).within in
        omega (arith, ints, sum, below, all)

    pub next-sum : {m next s : Sym3 A} {c : A} → m ≡ fixed_sum n q0 h done → c ≡ n.calc.ratio i.lamina.t h → s ≡ wall.stiffness n.calc q0 i → next ≡ wall.with_share n.calc m c s
        → next ≡ fixed_sum n q0 h (items_of stock (take (k + 1) numbers))
    next-sum em ec es en =
        en ∙ (λ j. wall.with_share n.calc (em j) (ec j) (es j)) ∙ sym (ap (fixed_sum n q0 h) extended ∙ fold-append (with_ply n q0 h) (zeros n.calc) done (i ∷ []))

  -- all of them
  pub all-summed : {k : ℕ} {m : Sym3 A} → m ≡ fixed_sum n q0 h (items_of stock (take k numbers)) → length numbers ≡ k → m ≡ fixed_sum n q0 h (items_of stock numbers)
  all-summed {k} e all = e ∙ ap (λ (ns : List ItemNo). fixed_sum n q0 h (items_of stock ns)) (take_all k numbers (omega (arith, all)))
