-- The thickest and the thinnest of more items.
use Rattle.std.proofs.Common.{◌≡◌, sym, ◌∙◌, ap, subst, ℕ, ◌+◌, ◌<◌, ℤ, pos, ◌≤ℤ◌, List, length, take, get_or, All, to_z, of_z, w64, arith}
use Rattle.std.specs.Int.{int_max, int_min}
use Rattle.std.proofs.lemmas.Int.{ints, clamps, to_z-of_z}
use Rattle.std.proofs.lemmas.List.Sums.{fold_more}
use Rattle.lam_stock.specs.declared.item.Item.{Item}
use Rattle.lam_stock.specs.LimitNumbers.{greatest_thickness}
use Rattle.lam_stock.specs.Stock.{WithinLimits}
use Rattle.lam_job.specs.Partial.{thickest}
use Rattle.lam_job.proofs.ThicknessSteps.{small_fits}
use Rattle.lam_boxes.specs.inside.Extents.{thinnest}

pub record SoFar (next v : ℤ) : Type 0 where
  pub so_far : v ≡ next
  pub least : pos 0 ≤ℤ v
  pub greatest : v ≤ℤ pos 20000

module _ (items : List Item) (k : ℕ) (i : Item) (z r : ℤ) (limits : All WithinLimits items) (within : k < length items) (here : i ≡ get_or items k i) (low : pos 0 ≤ℤ z) (high : z ≤ℤ pos 20000) where
  own : i.lamina.t ≡ (get_or items k i).lamina.t
  own = ap (λ (x : Item). x.lamina.t) here

  narrow : to_z w64 (of_z w64 i.lamina.t) ≡ i.lamina.t
  narrow = let t = (limits k i within).limits.range.rest in to_z-of_z w64 i.lamina.t (small_fits i.lamina.t (omega (arith, ints, own, t.least_t)) (omega (arith, ints, own, t.greatest_t)))

  kept : (next : ℤ) → r ≡ next → pos 0 ≤ℤ r → r ≤ℤ pos 20000 → SoFar next (to_z w64 (of_z w64 r))
  kept next e least greatest =
      let fits : to_z w64 (of_z w64 r) ≡ r = to_z-of_z w64 r (small_fits r (omega (arith, ints, least)) (omega (arith, ints, greatest))) in
      subst (SoFar next) (sym fits) (record { so_far = e; least = least; greatest = greatest })

  pub thickest-more : z ≡ thickest (take k items) → r ≡ int_max z (to_z w64 (of_z w64 i.lamina.t)) → SoFar (thickest (take (k + 1) items)) (to_z w64 (of_z w64 r))
  thickest-more so_far computed =
      let t = (limits k i within).limits.range.rest in
      let is : r ≡ int_max z i.lamina.t = computed ∙ ap (λ (x : ℤ). int_max z x) narrow in
      kept _
      (is ∙ ap (λ (x : ℤ). int_max x i.lamina.t) so_far ∙ ap (λ (x : ℤ). int_max (thickest (take k items)) x) own ∙ sym (fold_more (λ (x : ℤ) (other : Item). int_max x other.lamina.t) (pos 0) items k i within))
      (omega (arith, ints, clamps, is, low)) (omega (arith, ints, clamps, is, high, own, t.greatest_t))

  pub thinnest-more : z ≡ thinnest (take k items) → r ≡ int_min z (to_z w64 (of_z w64 i.lamina.t)) → SoFar (thinnest (take (k + 1) items)) (to_z w64 (of_z w64 r))
  thinnest-more so_far computed =
      let t = (limits k i within).limits.range.rest in
      let is : r ≡ int_min z i.lamina.t = computed ∙ ap (λ (x : ℤ). int_min z x) narrow in
      kept _
      (is ∙ ap (λ (x : ℤ). int_min x i.lamina.t) so_far ∙ ap (λ (x : ℤ). int_min (thinnest (take k items)) x) own ∙ sym (fold_more (λ (x : ℤ) (other : Item). int_min x other.lamina.t) greatest_thickness items k i within))
      (omega (arith, ints, clamps, is, low, own, t.least_t)) (omega (arith, ints, clamps, is, high))
