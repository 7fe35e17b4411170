-- A wall while its plies are laid one on the other: what it is, and what is known of it.
use Rattle.std.proofs.Common.{◌≡◌, refl, sym, ◌∙◌, ap, ap₂, subst, ℕ, ◌+◌, ◌<◌, ◌≤◌, ℤ, pos, neg_ℤ, ◌+ℤ◌, ◌-ℤ◌, ◌*ℤ◌, ◌≤ℤ◌, w64, SFits, List, [], ◌∷◌, ◌++◌, length, length-take, take, drop, get_or, slice_get, Some, All, arith}
use Rattle.std.specs.Prelude.{unsigned_abs}
use Rattle.std.proofs.lemmas.Int.{ints, to_z-of_z}
use Rattle.std.proofs.lemmas.List.{take_all, take-append-drop}
use Rattle.std.proofs.lemmas.List.Elements.{All-take}
use Rattle.std.proofs.lemmas.List.Sums.{fold-append}
use Rattle.lam_fraction.specs.Fraction.{ℚ}
use Rattle.lam_fraction.specs.numbers.Arithmetic.{Arithmetic}
use Rattle.lam_fraction.specs.inside.Known.{Known}
use Rattle.lam_fraction.specs.numbers.Numbers.{Numbers, Lawful}
use Rattle.lam_fraction.proofs.numbers.Machine.{stored-64}
use Rattle.lam_fraction.proofs.numbers.Rooms.{known_reaches}
use Rattle.lam_stock.specs.declared.item.Item.{Item}
use Rattle.lam_stock.specs.declared.item.ItemNo.{ItemNo}
use Rattle.lam_stock.specs.declared.scale.Scale.{Scale}
use Rattle.lam_stock.specs.Stock.{WithinLimits}
use Rattle.lam_stock.proofs.ScaleFacts.{scale-kept}
use Rattle.lam_lamina.specs.Covered.{IsCovered}
use Rattle.lam_lamina.specs.declared.stiffness.Sym3.{Sym3}
use Rattle.lam_lamina.specs.inside.Formulas.{zeros}
use Rattle.lam_lamina.proofs.Catalogue.{catalogue-covered}
use Rattle.lam_lamina.proofs.Entries.{entries-bounded}
use Rattle.lam_lamina.proofs.StiffnessKnown.{held-item, narrow-item}
use Rattle.lam_job.specs.Schedule.{items_of}
use Rattle.lam_job.specs.Wall.{Placed, placed_from, wall_thickness}
use Rattle.lam_job.proofs.Listed.{IsItemOf, known-item, items_of-append, items_of-more, items_of-all, items_of-length}
use Rattle.lam_job.proofs.Places.{placed-append, thickness-append, thickness_not_negative, wall_not_negative}
use Rattle.lam_wall.specs.declared.wall.Wall.{Wall}
use Rattle.lam_wall.specs.Assembled.{most_thickness}
use Rattle.lam_wall.specs.Matrices.{Matrices, extension_share, coupling_share, bending_share, shared, stiffness_of}
use Rattle.lam_wall.specs.inside.Formulas as by
use Rattle.lam_lamina.specs.declared.table.Stiffnesses.{Stiffnesses}
use Rattle.lam_lamina.specs.inside.Table.{IsTableOf, entry_at}
use Rattle.lam_wall.specs.inside.Parts.{IsListed, IsPlaced, ShortMatrix, ShortWall, laid_at}
use Rattle.lam_wall.proofs.SharesKnown.{share_of, known-share, extension-share, coupling-share, bending-share}
use Rattle.lam_wall.proofs.SumsKnown.{KnownEntries, entry_of, sum_of, known-stiffness, known-summed, summed-is}

-- the first of some plies are no thicker than all
pub first_within : (stock : List Item) (numbers : List ItemNo) (k : ℕ) → All WithinLimits stock
    → wall_thickness (items_of stock (take k numbers)) ≤ℤ wall_thickness (items_of stock numbers)
first_within stock numbers k limits =
    let all = ap (λ ns. wall_thickness (items_of stock ns)) (sym (take-append-drop k numbers))
    ∙ ap wall_thickness (items_of-append stock (take k numbers) (drop k numbers))
    ∙ thickness-append (items_of stock (take k numbers)) (items_of stock (drop k numbers)) in
    let rest = wall_not_negative (items_of stock (drop k numbers)) (items_of-all stock WithinLimits limits (drop k numbers)) in
    omega (arith, ints, all, rest)

-- ---- what is known of a wall of thickness h

pub record KnownWall {A : Type 0} (n : Numbers A) (parts : ℕ) (w : Wall A) (m : Matrices) : Type 0 where
  pub a : KnownEntries n parts (sum_of parts parts 64) w.a m.a
  pub b : KnownEntries n parts (sum_of parts parts 64) w.b m.b
  pub d : KnownEntries n parts (sum_of parts parts 64) w.d m.d

abbrev pub matrices_of : ℤ → (Item → Sym3 ℚ) → List Placed → Matrices
matrices_of h stiffness plies = record {
  a = shared (extension_share h) stiffness plies;
  b = shared (coupling_share h) stiffness plies;
  d = shared (bending_share h) stiffness plies;
}

-- some plies, no thicker than h
pub record AreWithin (q0 h : ℤ) (plies : List Item) : Type 0 where
  pub least : pos 1 ≤ℤ h
  pub greatest : h ≤ℤ most_thickness
  pub limits : All WithinLimits plies
  pub covered : All (λ i. IsCovered q0 i.lamina) plies
  pub within : wall_thickness plies ≤ℤ h
  pub few : length plies ≤ 64

module _ {A : Type 0} {n : Numbers A} (laws : Lawful n) (q0 h : ℤ) where
  known-item-at : (d : ℕ) (i : Item) → WithinLimits i → IsCovered q0 i.lamina → KnownEntries n d (entry_of d) (by.stiffness n.calc q0 i) (stiffness_of q0 i)
  known-item-at d i limits covered =
      known-stiffness d (held-item laws limits.direction covered i.kind) (narrow-item laws limits.direction covered i.kind) (entries-bounded i.kind covered limits.direction)

  short-entries : {d : ℕ} {r : Sym3 A} {m : Sym3 ℚ} → 1 ≤ d → KnownEntries n d (entry_of d) r m → ShortMatrix n r
  short-entries {d} some k = record {
    xx = known_reaches laws d _ some k.xx (omega arith);
    xy = known_reaches laws d _ some k.xy (omega arith);
    yy = known_reaches laws d _ some k.yy (omega arith);
    xs = known_reaches laws d _ some k.xs (omega arith);
    ys = known_reaches laws d _ some k.ys (omega arith);
    ss = known_reaches laws d _ some k.ss (omega arith);
  }

  short-sums : {d : ℕ} {r : Sym3 A} {m : Sym3 ℚ} → 1 ≤ d → KnownEntries n d (sum_of d d 64) r m → ShortMatrix n r
  short-sums {d} some k = record {
    xx = known_reaches laws d _ some k.xx (omega arith);
    xy = known_reaches laws d _ some k.xy (omega arith);
    yy = known_reaches laws d _ some k.yy (omega arith);
    xs = known_reaches laws d _ some k.xs (omega arith);
    ys = known_reaches laws d _ some k.ys (omega arith);
    ss = known_reaches laws d _ some k.ss (omega arith);
  }

  pub short-stiffness : {i : Item} → WithinLimits i → IsCovered q0 i.lamina → ShortMatrix n (by.stiffness n.calc q0 i)
  short-stiffness {i} limits covered = short-entries (omega arith) (known-item-at 1 i limits covered)

  module _ {plies : List Item} (k : AreWithin q0 h plies) where
    some : 1 ≤ unsigned_abs h
    some = omega (arith, ints, k.least)

    known-plies : All (λ i. KnownEntries n (unsigned_abs h) (entry_of (unsigned_abs h)) (by.stiffness n.calc q0 i) (stiffness_of q0 i)) plies
    known-plies = λ j i inside. known-item-at (unsigned_abs h) (get_or plies j i) (k.limits j i inside) (k.covered j i inside)

    known-sums : (share : Placed → A) (c : Placed → ℚ)
        → ((p : Placed) → IsPlaced h p → Known n (unsigned_abs h) (share_of (unsigned_abs h) (unsigned_abs p.item.lamina.t)) (share p) (c p))
        → KnownEntries n (unsigned_abs h) (sum_of (unsigned_abs h) (unsigned_abs h) 64) (by.summed n.calc share (by.stiffness n.calc q0) (placed_from (neg_ℤ h) plies)) (shared c (stiffness_of q0) (placed_from (neg_ℤ h) plies))
    known-sums share c shares = subst (KnownEntries n (unsigned_abs h) (sum_of (unsigned_abs h) (unsigned_abs h) 64) _) (summed-is c (stiffness_of q0) (placed_from (neg_ℤ h) plies))
        (known-summed laws h k.least k.greatest share c (by.stiffness n.calc q0) (stiffness_of q0) shares plies k.limits known-plies k.within k.few)

    pub known-wall : KnownWall n (unsigned_abs h) (by.laid n.calc h (by.stiffness n.calc q0) (placed_from (neg_ℤ h) plies)) (matrices_of h (stiffness_of q0) (placed_from (neg_ℤ h) plies))
    known-wall = record {
      a = known-sums (by.extension n.calc h) (extension_share h) (λ p placed. known-share laws (extension-share placed) some);
      b = known-sums (by.coupling n.calc h) (coupling_share h) (λ p placed. known-share laws (coupling-share placed) some);
      d = known-sums (by.bending n.calc h) (bending_share h) (λ p placed. known-share laws (bending-share placed) some);
    }

    pub short-wall : ShortWall n (by.laid n.calc h (by.stiffness n.calc q0) (placed_from (neg_ℤ h) plies))
    short-wall = record { a = short-sums some known-wall.a; b = short-sums some known-wall.b; d = short-sums some known-wall.d }

-- ---- one ply more

module _ {A : Type 0} (v : Arithmetic A) (h : ℤ) (stiffness : Item → Sym3 A) (plies : List Placed) (p : Placed) where
  more : (share : Placed → A) → by.summed v share stiffness (plies ++ p ∷ []) ≡ by.with_share v (by.summed v share stiffness plies) (share p) (stiffness p.item)
  more share = fold-append (λ m p. by.with_share v m (share p) (stiffness p.item)) (zeros v) plies (p ∷ [])

  laid-more : by.laid v h stiffness (plies ++ p ∷ []) ≡ by.with_ply v (by.laid v h stiffness plies) p (stiffness p.item)
  laid-more =
      let a = more (by.extension v h) in
      let b = more (by.coupling v h) in
      let d = more (by.bending v h) in
      λ j. record { a = a j; b = b j; d = d j; h = h }

-- ---- the numbers of a list

pub record IsLaid {A : Type 0} (n : Numbers A) (q0 h : ℤ) (done : List Item) (w : Wall A) (place : ℤ) : Type 0 where
  pub inner : place ≡ neg_ℤ h +ℤ pos 2 *ℤ wall_thickness done
  pub value : w ≡ by.laid n.calc h (by.stiffness n.calc q0) (placed_from (neg_ℤ h) done)

module _ {A : Type 0} {n : Numbers A} (laws : Lawful n) {scale : Scale} {h : ℤ} {stock : List Item} {numbers : List ItemNo} (l : IsListed scale h stock numbers) where
  abbrev IsLaidTo : ℕ → Wall A → ℤ → Type 0
  IsLaidTo k w place = IsLaid n scale.q0 h (items_of stock (take k numbers)) w place

  pub laid-none : {w : Wall A} {place : ℤ} → w ≡ by.bare n.calc h → place ≡ neg_ℤ h → IsLaidTo 0 w place
  laid-none value place = record { inner = place ∙ omega (arith, ints); value = value }

  pub first-place : stored-64 (pos 0 -ℤ h) ≡ neg_ℤ h
  first-place = let f : SFits w64 (pos 0 -ℤ h) = omega (arith, ints, l.least, l.greatest) in to_z-of_z w64 (pos 0 -ℤ h) f ∙ omega (arith, ints)

  covered : All (λ i. IsCovered scale.q0 i.lamina) stock
  covered = catalogue-covered stock scale l.plies.catalogue.limits (scale-kept stock stock scale l.plies.catalogue refl).0

  -- the first of the plies
  first-are : (k : ℕ) → AreWithin scale.q0 h (items_of stock (take k numbers))
  first-are k =
      let count = items_of-length stock (take k numbers) (All-take (IsItemOf stock) k numbers l.plies.known) in
      record {
        least = l.least;
        greatest = l.greatest;
        limits = items_of-all stock WithinLimits l.plies.catalogue.limits (take k numbers);
        covered = items_of-all stock (λ i. IsCovered scale.q0 i.lamina) covered (take k numbers);
        within = subst (λ x. wall_thickness (items_of stock (take k numbers)) ≤ℤ x) (sym l.thickness) (first_within stock numbers k l.plies.catalogue.limits);
        few = omega (arith, count, length-take k numbers, l.plies.few);
      }

  -- one more of them, that of an item i
  module _ (k : ℕ) (i : Item) (inside : k < length numbers) (is : i ≡ get_or stock (get_or numbers k (record { 0 = 0 })).0 i) where
    -- what the catalogue's items keep, it keeps
    keeps : (P : Item → Type 0) → All P stock → P i
    keeps P all = subst P (sym is) (all (get_or numbers k (record { 0 = 0 })).0 i (l.plies.known k (record { 0 = 0 }) inside))

    pub next-covered : IsCovered scale.q0 i.lamina
    next-covered = keeps (λ i. IsCovered scale.q0 i.lamina) covered

    limits : WithinLimits i
    limits = keeps WithinLimits l.plies.catalogue.limits

    pub next-thin : unsigned_abs i.lamina.t ≤ 1280000
    next-thin = let t = limits.limits.range.rest in omega (arith, ints, t.least_t, t.greatest_t)

    at : slice_get stock (get_or numbers k (record { 0 = 0 })).0 ≡ Some i
    at = known-item stock numbers k (record { 0 = 0 }) i inside l.plies.known ∙ ap Some (sym is)

    pub next-few : (get_or numbers k (record { 0 = 0 })).0 < 64
    next-few = let known = l.plies.known k (record { 0 = 0 }) inside in omega (arith, known, l.plies.catalogue.few)

    -- the entry of a table at its number is its stiffness
    pub next-told : {table : Stiffnesses A} → IsTableOf n stock table
        → entry_at table (get_or numbers k (record { 0 = 0 })).0 ≡ by.stiffness n.calc scale.q0 i
    next-told is_table =
        is_table.entries (get_or numbers k (record { 0 = 0 })).0 i at
        ∙ ap (λ (s : Scale). by.stiffness n.calc s.q0 i) (sym l.plies.catalogue.scale_is)

    pub next-short : {s : Sym3 A} → s ≡ by.stiffness n.calc scale.q0 i → ShortMatrix n s
    next-short e = subst (ShortMatrix n) (sym e) (short-stiffness laws scale.q0 h limits next-covered)

    abbrev done : List Item
    done = items_of stock (take k numbers)

    extended : items_of stock (take (k + 1) numbers) ≡ done ++ i ∷ []
    extended = items_of-more stock numbers k (record { 0 = 0 }) i inside at

    thickness : wall_thickness (items_of stock (take (k + 1) numbers)) ≡ wall_thickness done +ℤ i.lamina.t
    thickness = ap wall_thickness extended ∙ thickness-append done (i ∷ []) ∙ omega (arith, ints)

    module _ {w : Wall A} {place : ℤ} (laid : IsLaidTo k w place) where
      below : pos 0 ≤ℤ wall_thickness done
      below = wall_not_negative done (first-are k).limits

      thick : pos 0 ≤ℤ i.lamina.t
      thick = thickness_not_negative limits

      within : (wall_thickness done +ℤ i.lamina.t) ≤ℤ h
      within = subst (λ x. x ≤ℤ h) thickness (first-are (k + 1)).within

      pub next-placed : IsPlaced w.h (laid_at i place)
      next-placed = subst (λ x. IsPlaced x (laid_at i place)) (sym (ap (λ (w : Wall A). w.h) laid.value)) (record {
        least = l.least;
        greatest = l.greatest;
        thick = thick;
        within = omega (arith, ints, within, below);
        inner = omega (arith, ints, laid.inner, below);
        order = omega (arith, ints, thick);
        outer = omega (arith, ints, laid.inner, within);
      })

      pub next-room : ShortWall n w
      next-room = subst (ShortWall n) (sym laid.value) (short-wall laws scale.q0 h (first-are k))

      pub place-small : unsigned_abs place ≤ 1280000
      place-small = omega (arith, ints, laid.inner, below, within, thick, l.greatest)

      pub next-laid : {s : Sym3 A} {next : Wall A} {outer : ℤ} → s ≡ by.stiffness n.calc scale.q0 i → next ≡ by.with_ply n.calc w (laid_at i place) s → outer ≡ place +ℤ pos 2 *ℤ i.lamina.t
          → IsLaidTo (k + 1) next outer
      next-laid {s} {next} {outer} told value eo = record {
        inner = eo ∙ omega (arith, ints, laid.inner, thickness);
        value = value ∙ ap₂ (λ w s. by.with_ply n.calc w (laid_at i place) s) laid.value told
            ∙ sym (laid-more n.calc h (by.stiffness n.calc scale.q0) (placed_from (neg_ℤ h) done) (laid_at i place))
            ∙ ap (by.laid n.calc h (by.stiffness n.calc scale.q0)) (sym (ap (placed_from (neg_ℤ h)) extended ∙ placed-append (neg_ℤ h) done (i ∷ []) ∙ ap (λ z. placed_from (neg_ℤ h) done ++ laid_at i z ∷ []) (sym laid.inner)));
      }

  -- all of them
  pub all-laid : {k : ℕ} {w : Wall A} {place : ℤ} → IsLaidTo k w place → k ≡ length numbers → w ≡ by.assembled n.calc scale.q0 (items_of stock numbers)
  all-laid {k} laid all =
      laid.value ∙ ap₂ (λ x ds. by.laid n.calc x (by.stiffness n.calc scale.q0) (placed_from (neg_ℤ x) ds)) l.thickness (ap (items_of stock) (take_all k numbers (omega (arith, all))))
