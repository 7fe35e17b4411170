-- The plies of a wall by number: their items, and z of their faces.
use Rattle.std.proofs.Common.{◌≡◌, refl, sym, ◌∙◌, ap, subst, ℕ, zero, suc, ◌<◌, ℤ, pos, neg_ℤ, ◌+ℤ◌, ◌*ℤ◌, ◌≤ℤ◌, List, [], ◌∷◌, map, length, get_or, slice_get, All, Some, None, arith}
use Rattle.std.proofs.lemmas.Int.{ints}
use Rattle.std.proofs.lemmas.List.Elements.{All-head, All-tail}
use Rattle.std.proofs.lemmas.Option.{same_Some, slice_get_within}
use Rattle.lam_stock.specs.declared.item.Item.{Item}
use Rattle.lam_stock.specs.declared.item.ItemNo.{ItemNo}
use Rattle.lam_stock.specs.Stock.{IsKnown, WithinLimits}
use Rattle.lam_job.specs.Schedule.{items_of}
use Rattle.lam_job.specs.Wall.{Placed, placed_from, placed_plies, wall_thickness}
use Rattle.lam_job.proofs.Listed.{items_of-get, items_of-length}
use Rattle.lam_wall.specs.Faces.{faces}

abbrev faces_from : ℤ → List Item → List ℤ
faces_from z wall = z ∷ map (λ (p : Placed). p.outer) (placed_from z wall)

pub placed-length : (z : ℤ) (wall : List Item) → length (placed_from z wall) ≡ length wall
placed-length z [] = refl
placed-length z (i ∷ rest) = ap suc (placed-length (z +ℤ pos 2 *ℤ i.lamina.t) rest)

-- there is one for each item
pub placed-at : (z : ℤ) (wall : List Item) (k : ℕ) (i : Item) → slice_get wall k ≡ Some i → (p : Placed) × (slice_get (placed_from z wall) k ≡ Some p) × (p.item ≡ i)
placed-at z [] k i e = absurd (let n : None ≡ Some i = e in cc)
placed-at z (j ∷ rest) zero i e = (record { item = j; inner = z; outer = z +ℤ pos 2 *ℤ j.lamina.t }, refl, same_Some j i e)
placed-at z (j ∷ rest) (suc k) i e = placed-at (z +ℤ pos 2 *ℤ j.lamina.t) rest k i e

pub placed-item : (z : ℤ) (wall : List Item) (k : ℕ) (p : Placed) → slice_get (placed_from z wall) k ≡ Some p → slice_get wall k ≡ Some p.item
placed-item z [] k p e = absurd (let n : None ≡ Some p = e in cc)
placed-item z (j ∷ rest) zero p e = ap (λ (q : Placed). Some q.item) (same_Some _ p e)
placed-item z (j ∷ rest) (suc k) p e = placed-item (z +ℤ pos 2 *ℤ j.lamina.t) rest k p e

inner-from : (z : ℤ) (wall : List Item) (k : ℕ) (p : Placed) → slice_get (placed_from z wall) k ≡ Some p → slice_get (faces_from z wall) k ≡ Some p.inner
inner-from z [] k p e = absurd (let n : None ≡ Some p = e in cc)
inner-from z (j ∷ rest) zero p e = ap (λ (q : Placed). Some q.inner) (same_Some _ p e)
inner-from z (j ∷ rest) (suc k) p e = inner-from (z +ℤ pos 2 *ℤ j.lamina.t) rest k p e

outer-from : (z : ℤ) (wall : List Item) (k : ℕ) (p : Placed) → slice_get (placed_from z wall) k ≡ Some p → slice_get (faces_from z wall) (suc k) ≡ Some p.outer
outer-from z [] k p e = absurd (let n : None ≡ Some p = e in cc)
outer-from z (j ∷ rest) zero p e = ap (λ (q : Placed). Some q.outer) (same_Some _ p e)
outer-from z (j ∷ rest) (suc k) p e = outer-from (z +ℤ pos 2 *ℤ j.lamina.t) rest k p e

pub inner-face : (wall : List Item) (k : ℕ) (p : Placed) → slice_get (placed_plies wall) k ≡ Some p → slice_get (faces wall) k ≡ Some p.inner
inner-face wall k p e = inner-from (neg_ℤ (wall_thickness wall)) wall k p e

pub outer-face : (wall : List Item) (k : ℕ) (p : Placed) → slice_get (placed_plies wall) k ≡ Some p → slice_get (faces wall) (suc k) ≡ Some p.outer
outer-face wall k p e = outer-from (neg_ℤ (wall_thickness wall)) wall k p e

-- ---- within the wall

abbrev IsThick : Item → Type 0
IsThick i = pos 0 ≤ℤ i.lamina.t

thick-wall : (wall : List Item) → All IsThick wall → pos 0 ≤ℤ wall_thickness wall
thick-wall [] all = omega (arith, ints)
thick-wall (i ∷ rest) all = let one = All-head IsThick i rest all in let more = thick-wall rest (All-tail IsThick i rest all) in omega (arith, ints, one, more)

record LiesBetween (low high : ℤ) (p : Placed) : Type 0 where
  from : low ≤ℤ p.inner
  order : p.inner ≤ℤ p.outer
  to : p.outer ≤ℤ high

lies-between : (z : ℤ) (wall : List Item) → All IsThick wall → (k : ℕ) (p : Placed) → slice_get (placed_from z wall) k ≡ Some p → LiesBetween z (z +ℤ pos 2 *ℤ wall_thickness wall) p
lies-between z [] all k p e = absurd (let n : None ≡ Some p = e in cc)
lies-between z (i ∷ rest) all zero p e =
    let one = All-head IsThick i rest all in
    let more = thick-wall rest (All-tail IsThick i rest all) in
    subst (LiesBetween z (z +ℤ pos 2 *ℤ wall_thickness (i ∷ rest))) (same_Some _ p e)
    (record { from = omega (arith, ints); order = omega (arith, ints, one); to = omega (arith, ints, one, more) })
lies-between z (i ∷ rest) all (suc k) p e =
    let one = All-head IsThick i rest all in
    let h = lies-between (z +ℤ pos 2 *ℤ i.lamina.t) rest (All-tail IsThick i rest all) k p e in
    record { from = omega (arith, ints, one, h.from); order = h.order; to = omega (arith, ints, h.to) }

thick-item : (i : Item) → WithinLimits i → IsThick i
thick-item i w = omega (arith, ints)

pub record LiesIn (h : ℤ) (p : Placed) : Type 0 where
  pub inner_from : neg_ℤ h ≤ℤ p.inner
  pub inner_to : p.inner ≤ℤ h
  pub outer_from : neg_ℤ h ≤ℤ p.outer
  pub outer_to : p.outer ≤ℤ h

pub lies-in : (wall : List Item) → All WithinLimits wall → (k : ℕ) (p : Placed) → slice_get (placed_plies wall) k ≡ Some p → LiesIn (wall_thickness wall) p
lies-in wall all k p e =
    let h = lies-between (neg_ℤ (wall_thickness wall)) wall (λ j d within. thick-item (get_or wall j d) (all j d within)) k p e in
    record {
      inner_from = h.from;
      inner_to = omega (arith, ints, h.order, h.to);
      outer_from = omega (arith, ints, h.from, h.order);
      outer_to = omega (arith, ints, h.to);
    }

-- ---- of a schedule of a catalogue

module _ (stock : List Item) (numbers : List ItemNo) (known : IsKnown stock numbers) where
  pub ply-number : (k : ℕ) (p : Placed) → slice_get (placed_plies (items_of stock numbers)) k ≡ Some p → k < length numbers
  ply-number k p e =
      let within = slice_get_within (placed_plies (items_of stock numbers)) k p e in
      let a = placed-length (neg_ℤ (wall_thickness (items_of stock numbers))) (items_of stock numbers) in
      let b = items_of-length stock numbers known in
      omega (arith, within, a, b)

  -- the ply of a number is that of its item
  pub ply-item : (k : ℕ) (ply : ItemNo) (p : Placed) → slice_get numbers k ≡ Some ply → slice_get (placed_plies (items_of stock numbers)) k ≡ Some p → slice_get stock ply.0 ≡ Some p.item
  ply-item k ply p at e = sym (items_of-get stock k numbers ply known at) ∙ placed-item (neg_ℤ (wall_thickness (items_of stock numbers))) (items_of stock numbers) k p e

  pub ply-there : (k : ℕ) (ply : ItemNo) (i : Item) → slice_get numbers k ≡ Some ply → slice_get stock ply.0 ≡ Some i → (p : Placed) × (slice_get (placed_plies (items_of stock numbers)) k ≡ Some p)
  ply-there k ply i at is =
      let h = placed-at (neg_ℤ (wall_thickness (items_of stock numbers))) (items_of stock numbers) k i (items_of-get stock k numbers ply known at ∙ is) in
      (h.0, h.1)
