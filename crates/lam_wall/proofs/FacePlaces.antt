-- The faces of a wall of some numbers of a catalogue, as they are computed.
use Rattle.std.proofs.Common.{◌≡◌, sym, ◌∙◌, ap, ap₂, subst, ℕ, ◌+◌, ◌<◌, ◌≤◌, Some, IsSomeAnd, List, length, take, slice_get, All, ℤ, pos, neg_ℤ, ◌+ℤ◌, ◌-ℤ◌, ◌*ℤ◌, ◌≤ℤ◌, to_z, of_z, w64, add-one, arith}
use Rattle.std.proofs.lemmas.Int.{ints, to_z-of_z}
use Rattle.lam_stock.specs.declared.item.Item.{Item}
use Rattle.lam_stock.specs.declared.item.ItemNo.{ItemNo}
use Rattle.lam_stock.specs.Stock.{WithinLimits}
use Rattle.lam_job.specs.Schedule.{items_of}
use Rattle.lam_job.specs.Wall.{placed_plies, wall_thickness}
use Rattle.lam_job.proofs.Listed.{IsItemOf, items_of-length, items_of-take}
use Rattle.lam_job.proofs.Places.{face-at, placed-inner, placed-outer}
use Rattle.lam_job.proofs.ThicknessSteps.{small_fits}
use Rattle.lam_wall.specs.Faces.{faces}
use Rattle.lam_wall.proofs.LaidWall.{first_within}

-- by the thickness of the plies below and of all
machine : (a b : ℤ) → pos 0 ≤ℤ a → a ≤ℤ pos 1280000 → pos 0 ≤ℤ b → b ≤ℤ pos 1280000
    → to_z w64 (of_z w64 (to_z w64 (of_z w64 (pos 2 *ℤ to_z w64 (of_z w64 a))) -ℤ to_z w64 (of_z w64 b))) ≡ neg_ℤ b +ℤ pos 2 *ℤ a
machine a b la ga lb gb =
    ap (λ x. to_z w64 (of_z w64 (to_z w64 (of_z w64 (pos 2 *ℤ x)) -ℤ to_z w64 (of_z w64 b)))) (to_z-of_z w64 a (small_fits a (omega (arith, ints)) (omega (arith, ints))))
    ∙ ap₂ (λ x y. to_z w64 (of_z w64 (x -ℤ y))) (to_z-of_z w64 (pos 2 *ℤ a) (small_fits (pos 2 *ℤ a) (omega (arith, ints)) (omega (arith, ints))))
    (to_z-of_z w64 b (small_fits b (omega (arith, ints)) (omega (arith, ints))))
    ∙ to_z-of_z w64 (pos 2 *ℤ a -ℤ b) (small_fits (pos 2 *ℤ a -ℤ b) (omega (arith, ints)) (omega (arith, ints)))
    ∙ omega (arith, ints)

module _ (stock : List Item) (wall : List ItemNo) (k : ℕ) where
  -- half as far again as the plies below it are thick
  abbrev pub place : ℤ
  place = neg_ℤ (wall_thickness (items_of stock wall)) +ℤ pos 2 *ℤ wall_thickness (items_of stock (take k wall))

  pub place-is : (items : List Item) (numbers : List ItemNo) (n : ℕ) (a b : ℤ) → items ≡ stock → numbers ≡ wall → n ≡ k
      → a ≡ wall_thickness (items_of items (take n numbers)) → b ≡ wall_thickness (items_of items numbers)
      → pos 0 ≤ℤ a → a ≤ℤ pos 1280000 → pos 0 ≤ℤ b → b ≤ℤ pos 1280000
      → to_z w64 (of_z w64 (to_z w64 (of_z w64 (pos 2 *ℤ to_z w64 (of_z w64 a))) -ℤ to_z w64 (of_z w64 b))) ≡ place
  place-is items numbers n a b p q r below all la ga lb gb =
      machine a b la ga lb gb
      ∙ ap₂ (λ x y. neg_ℤ y +ℤ pos 2 *ℤ x) (below ∙ (λ i. wall_thickness (items_of (p i) (take (r i) (q i))))) (all ∙ (λ i. wall_thickness (items_of (p i) (q i))))

  module _ (known : All (IsItemOf stock) wall) (within : k ≤ length wall) where
    -- face k of the wall
    at : slice_get (faces (items_of stock wall)) k ≡ Some place
    at =
        face-at (neg_ℤ (wall_thickness (items_of stock wall))) (items_of stock wall) k (omega (arith, items_of-length stock wall known, within))
        ∙ ap (λ xs. Some (neg_ℤ (wall_thickness (items_of stock wall)) +ℤ pos 2 *ℤ wall_thickness xs)) (sym (items_of-take stock k wall known))

    pub face-is : {v : ℤ} → v ≡ place → slice_get (faces (items_of stock wall)) k ≡ Some v
    face-is is = at ∙ ap Some (sym is)

    module _ {v : ℤ} (is : slice_get (faces (items_of stock wall)) k ≡ Some v) where
      -- where it lies, by the plies below it
      lies : v ≡ place
      lies = let there = at in cc

      taken : v ≡ neg_ℤ (wall_thickness (items_of stock wall)) +ℤ pos 2 *ℤ wall_thickness (take k (items_of stock wall))
      taken = lies ∙ ap (λ xs. neg_ℤ (wall_thickness (items_of stock wall)) +ℤ pos 2 *ℤ wall_thickness xs) (items_of-take stock k wall known)

      pub face-greatest : All WithinLimits stock → v ≤ℤ wall_thickness (items_of stock wall)
      face-greatest limits = let part = first_within stock wall k limits in omega (arith, ints, lies, part)

      pub face-inner : k < length wall → IsSomeAnd (slice_get (placed_plies (items_of stock wall)) k) (λ p. v ≡ p.inner)
      face-inner inside = subst (λ y. IsSomeAnd (slice_get (placed_plies (items_of stock wall)) k) (λ p. y ≡ p.inner)) (sym taken)
          (placed-inner (neg_ℤ (wall_thickness (items_of stock wall))) (items_of stock wall) k (omega (arith, items_of-length stock wall known, inside)))

      pub face-outer : (n : ℕ) → k ≡ n + 1 → IsSomeAnd (slice_get (placed_plies (items_of stock wall)) n) (λ p. v ≡ p.outer)
      face-outer n next =
          let last = neg_ℤ (wall_thickness (items_of stock wall)) in
          subst (λ y. IsSomeAnd (slice_get (placed_plies (items_of stock wall)) n) (λ p. y ≡ p.outer))
          (sym (taken ∙ ap (λ j. last +ℤ pos 2 *ℤ wall_thickness (take j (items_of stock wall))) (next ∙ add-one n)))
          (placed-outer last (items_of stock wall) n (omega (arith, items_of-length stock wall known, within, next)))
