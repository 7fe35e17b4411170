-- Where the plies of a wall lie, and how thick they are together.
use Rattle.std.proofs.Common.{◌≡◌, ◌∙◌, ap, subst, ℕ, zero, suc, ◌*◌, ◌<◌, ◌≤◌, ℤ, pos, ◌+ℤ◌, ◌*ℤ◌, ◌≤ℤ◌, List, [], ◌∷◌, ◌++◌, map, length, take, slice_get, Some, IsSomeAnd, All, arith}
use Rattle.std.proofs.lemmas.Int.{ints}
use Rattle.std.proofs.lemmas.List.Elements.{All-head, All-tail}
use Rattle.lam_stock.specs.declared.item.Item.{Item}
use Rattle.lam_stock.specs.Stock.{WithinLimits}
use Rattle.lam_job.specs.Wall.{Placed, placed_from, wall_thickness}

-- ---- plies on plies

-- they begin at the last face of those below
pub placed-append : (z : ℤ) (xs ys : List Item) → placed_from z (xs ++ ys) ≡ placed_from z xs ++ placed_from (z +ℤ pos 2 *ℤ wall_thickness xs) ys
placed-append z [] ys = ap (λ y. placed_from y ys) (omega (arith, ints))
placed-append z (i ∷ xs) ys =
    ap (λ ps. record { item = i; inner = z; outer = z +ℤ pos 2 *ℤ i.lamina.t } ∷ ps)
    (placed-append (z +ℤ pos 2 *ℤ i.lamina.t) xs ys ∙ ap (λ y. placed_from (z +ℤ pos 2 *ℤ i.lamina.t) xs ++ placed_from y ys) (omega (arith, ints)))

pub thickness-append : (xs ys : List Item) → wall_thickness (xs ++ ys) ≡ wall_thickness xs +ℤ wall_thickness ys
thickness-append [] ys = omega (arith, ints)
thickness-append (i ∷ xs) ys = ap (λ t. i.lamina.t +ℤ t) (thickness-append xs ys) ∙ omega (arith, ints)

-- ---- faces

-- the faces of a ply lie one after the other between two places
abbrev pub Between : ℤ → ℤ → Placed → Type 0
Between low high p = (low ≤ℤ p.inner) × (p.inner ≤ℤ p.outer) × (p.outer ≤ℤ high)

-- face k of plies laid from a place on
pub face-at : (z : ℤ) (wall : List Item) (k : ℕ) → k ≤ length wall
    → slice_get (z ∷ map (λ (p : Placed). p.outer) (placed_from z wall)) k ≡ Some (z +ℤ pos 2 *ℤ wall_thickness (take k wall))
face-at z wall zero within = ap Some (omega (arith, ints))
face-at z [] (suc k) within = absurd (omega arith)
face-at z (i ∷ wall) (suc k) within = face-at (z +ℤ pos 2 *ℤ i.lamina.t) wall k (omega arith) ∙ ap Some (omega (arith, ints))

-- it is the inner face of ply k, and face k + 1 is the outer one
pub placed-inner : (z : ℤ) (wall : List Item) (k : ℕ) → k < length wall
    → IsSomeAnd (slice_get (placed_from z wall) k) (λ p. z +ℤ pos 2 *ℤ wall_thickness (take k wall) ≡ p.inner)
placed-inner z [] k within = absurd (omega arith)
placed-inner z (i ∷ wall) zero within = omega (arith, ints)
placed-inner z (i ∷ wall) (suc k) within =
    subst (λ y. IsSomeAnd (slice_get (placed_from (z +ℤ pos 2 *ℤ i.lamina.t) wall) k) (λ p. y ≡ p.inner)) (omega (arith, ints))
    (placed-inner (z +ℤ pos 2 *ℤ i.lamina.t) wall k (omega arith))

pub placed-outer : (z : ℤ) (wall : List Item) (k : ℕ) → k < length wall
    → IsSomeAnd (slice_get (placed_from z wall) k) (λ p. z +ℤ pos 2 *ℤ wall_thickness (take (suc k) wall) ≡ p.outer)
placed-outer z [] k within = absurd (omega arith)
placed-outer z (i ∷ wall) zero within = omega (arith, ints)
placed-outer z (i ∷ wall) (suc k) within =
    subst (λ y. IsSomeAnd (slice_get (placed_from (z +ℤ pos 2 *ℤ i.lamina.t) wall) k) (λ p. y ≡ p.outer)) (omega (arith, ints))
    (placed-outer (z +ℤ pos 2 *ℤ i.lamina.t) wall k (omega arith))

-- ---- items within their limits

-- each is from 50 µm to 20 mm thick
pub thickness-within : (items : List Item) → All WithinLimits items
    → (pos (50 * length items) ≤ℤ wall_thickness items) × (wall_thickness items ≤ℤ pos (20000 * length items))
thickness-within [] h = (omega (arith, ints), omega (arith, ints))
thickness-within (i ∷ items) h =
    let t = (All-head WithinLimits i items h).limits.range.rest in
    let rest = thickness-within items (All-tail WithinLimits i items h) in
    (omega (arith, ints, t.least_t, rest.0), omega (arith, ints, t.greatest_t, rest.1))

-- neither one of them nor all together have a negative thickness
pub thickness_not_negative : {i : Item} → WithinLimits i → pos 0 ≤ℤ i.lamina.t
thickness_not_negative h = omega (arith, ints, h.limits.range.rest.least_t)

pub wall_not_negative : (items : List Item) → All WithinLimits items → pos 0 ≤ℤ wall_thickness items
wall_not_negative items h = let t = (thickness-within items h).0 in omega (arith, ints, t)
