-- A wall that is the same from both faces and bears no moment does not bend: turned over, its laminate strain would bend
-- the other way, and it has but one.
use Rattle.std.proofs.Common.{◌≡◌, refl, sym, ◌∙◌, ap, ap₂, ℤ, pos, neg_ℤ, ◌+ℤ◌, ◌-ℤ◌, ◌*ℤ◌, List, [], ◌∷◌, ◌++◌, map, reverse, arith}
use Rattle.std.proofs.lemmas.Int.{ints}
use Rattle.std.proofs.lemmas.List.{map-append, reverse-append}
use Rattle.lam_fraction.specs.Fraction.{ℚ, whole, fraction, ◌+ℚ◌, ◌-ℚ◌, ◌*ℚ◌, opposite}
use Rattle.lam_fraction.specs.Sums.{sum_over}
use Rattle.lam_fraction.proofs.Expression.{int, ◌⊕◌, ◌⊖◌, ◌⊗◌, minus}
use Rattle.lam_fraction.proofs.Solver.{◌≐◌}
use Rattle.lam_fraction.proofs.FractionPairs.{fraction-opposite}
use Rattle.lam_fraction.proofs.FractionRing.{sum_comm}
use Rattle.lam_fraction.proofs.FractionSums.{of_each, sum-map, sum-opposite, sum-reverse, sum-same}
use Rattle.lam_fraction.proofs.Rationals.{solve, from₁, positive_number, zero_factor}
use Rattle.lam_fraction.proofs.WholeFractions.{whole-opposite}
use Rattle.lam_stock.specs.declared.item.Item.{Item}
use Rattle.lam_stock.specs.PlyLaw.{OffAxis}
use Rattle.lam_stock.proofs.EnergyTransformed.{same_off_axis}
use Rattle.lam_job.specs.declared.load.Load.{Load}
use Rattle.lam_job.specs.Equilibrium.{Solves, item_stress, inner_stress, outer_stress, ply_force, ply_moment, force_sum, moment_sum}
use Rattle.lam_job.specs.LaminateStrain.{LaminateStrain, strain_at}
use Rattle.lam_job.specs.Wall.{Placed, placed_from, placed_plies, wall_thickness}
use Rattle.lam_job.proofs.Places.{placed-append, thickness-append}
use Rattle.lam_wall.proofs.OffAxes.{none}
use Rattle.lam_boxes.specs.inside.Parts.{IsMembrane}

-- ---- a wall turned over

abbrev pub mirrored : Placed → Placed
mirrored p = record { item = p.item; inner = neg_ℤ p.outer; outer = neg_ℤ p.inner }

thickness-reverse : (wall : List Item) → wall_thickness (reverse wall) ≡ wall_thickness wall
thickness-reverse [] = refl
thickness-reverse (i ∷ rest) =
    ap wall_thickness (reverse-append (i ∷ []) rest) ∙ thickness-append (reverse rest) (i ∷ [])
    ∙ (let h = thickness-reverse rest in omega (arith, ints, h))

same-placed : (i : Item) {a b c d : ℤ} → a ≡ c → b ≡ d → (let p : Placed = record { item = i; inner = a; outer = b } in p) ≡ (let p : Placed = record { item = i; inner = c; outer = d } in p)
same-placed i p q = λ j. record { item = i; inner = p j; outer = q j }

placed-reverse : (z y : ℤ) (wall : List Item) → y ≡ neg_ℤ z -ℤ pos 2 *ℤ wall_thickness wall
    → placed_from z (reverse wall) ≡ map mirrored (reverse (placed_from y wall))
placed-reverse z y [] e = refl
placed-reverse z y (i ∷ rest) e =
    let next = y +ℤ pos 2 *ℤ i.lamina.t in
    let p : Placed = record { item = i; inner = y; outer = next } in
    let below = thickness-reverse rest in
    ap (placed_from z) (reverse-append (i ∷ []) rest) ∙ placed-append z (reverse rest) (i ∷ [])
    ∙ ap₂ (λ a b. a ++ b) (placed-reverse z next rest (omega (arith, ints, e)))
    (ap (λ q. q ∷ []) (same-placed i (omega (arith, ints, e, below)) (omega (arith, ints, e, below))))
    ∙ sym (ap (map mirrored) (reverse-append (p ∷ []) (placed_from next rest)) ∙ map-append mirrored (reverse (placed_from next rest)) (p ∷ []))

module _ (wall : List Item) (same : wall ≡ reverse wall) where
  -- a sum over the plies is one over their mirror images
  sum-mirrored : (f : Placed → ℚ) → sum_over f (placed_plies wall) ≡ sum_over (λ p. f (mirrored p)) (placed_plies wall)
  sum-mirrored f =
      let z = neg_ℤ (wall_thickness wall) in
      ap (λ w. sum_over f (placed_from z w)) same ∙ ap (sum_over f) (placed-reverse z z wall (omega (arith, ints)))
      ∙ sum-map f mirrored (reverse (placed_from z wall)) ∙ sum-reverse (λ p. f (mirrored p)) (placed_from z wall)

-- ---- its laminate strain

abbrev turned : OffAxis → OffAxis
turned k = record { x = opposite k.x; y = opposite k.y; s = opposite k.s }

abbrev bent_back : LaminateStrain → LaminateStrain
bent_back f = record { mid_plane = f.mid_plane; curvature = turned f.curvature }

component : (z : ℤ) (e k : ℚ) → e +ℚ fraction (neg_ℤ z) (pos 2) *ℚ opposite k ≡ e +ℚ fraction z (pos 2) *ℚ k
component z e k =
    ap (λ f. e +ℚ f *ℚ opposite k) (sym (fraction-opposite z (pos 2) (omega (arith, ints))))
    ∙ solve 3 (λ e f k. e ⊕ minus f ⊗ minus k ≐ e ⊕ f ⊗ k) refl e (fraction z (pos 2)) k

strain-turned : (f : LaminateStrain) (z : ℤ) → strain_at (bent_back f) (neg_ℤ z) ≡ strain_at f z
strain-turned f z = same_off_axis (component z f.mid_plane.x f.curvature.x) (component z f.mid_plane.y f.curvature.y) (component z f.mid_plane.s f.curvature.s)

module _ (f : LaminateStrain) (p : Placed) where
  inner-turned : inner_stress (bent_back f) (mirrored p) ≡ outer_stress f p
  inner-turned = ap (item_stress p.item) (strain-turned f p.outer)

  outer-turned : outer_stress (bent_back f) (mirrored p) ≡ inner_stress f p
  outer-turned = ap (item_stress p.item) (strain-turned f p.inner)

  module _ (of : OffAxis → ℚ) where
    force-turned : ply_force of (bent_back f) (mirrored p) ≡ ply_force of f p
    force-turned =
        ap₂ (λ (a b : OffAxis). whole (pos 2 *ℤ p.item.lamina.t) *ℚ (of a +ℚ of b)) inner-turned outer-turned
        ∙ ap (λ s. whole (pos 2 *ℤ p.item.lamina.t) *ℚ s) (sum_comm (of (outer_stress f p)) (of (inner_stress f p)))

    moment-turned : ply_moment of (bent_back f) (mirrored p) ≡ opposite (ply_moment of f p)
    moment-turned =
        let t = whole p.item.lamina.t in
        let first : whole (pos 2 *ℤ neg_ℤ p.outer +ℤ neg_ℤ p.inner) ≡ opposite (whole (p.inner +ℤ pos 2 *ℤ p.outer)) =
        ap whole (omega (arith, ints)) ∙ whole-opposite (p.inner +ℤ pos 2 *ℤ p.outer) in
        let second : whole (neg_ℤ p.outer +ℤ pos 2 *ℤ neg_ℤ p.inner) ≡ opposite (whole (pos 2 *ℤ p.inner +ℤ p.outer)) =
        ap whole (omega (arith, ints)) ∙ whole-opposite (pos 2 *ℤ p.inner +ℤ p.outer) in
        ap₂ (λ (a b : OffAxis). t *ℚ (of a *ℚ whole (pos 2 *ℤ neg_ℤ p.outer +ℤ neg_ℤ p.inner) +ℚ of b *ℚ whole (neg_ℤ p.outer +ℤ pos 2 *ℤ neg_ℤ p.inner))) inner-turned outer-turned
        ∙ ap₂ (λ a b. t *ℚ (of (outer_stress f p) *ℚ a +ℚ of (inner_stress f p) *ℚ b)) first second
        ∙ solve 5 (λ t o i a b. t ⊗ (o ⊗ minus a ⊕ i ⊗ minus b) ≐ minus (t ⊗ (i ⊗ b ⊕ o ⊗ a))) refl
        t (of (outer_stress f p)) (of (inner_stress f p)) (whole (p.inner +ℤ pos 2 *ℤ p.outer)) (whole (pos 2 *ℤ p.inner +ℤ p.outer))

module _ (wall : List Item) (same : wall ≡ reverse wall) (f : LaminateStrain) where
  forces-turned : (of : OffAxis → ℚ) → force_sum of (bent_back f) wall ≡ force_sum of f wall
  forces-turned of =
      sum-mirrored wall same (ply_force of (bent_back f))
      ∙ sum-same (λ p. ply_force of (bent_back f) (mirrored p)) (ply_force of f) (placed_plies wall)
      (of_each (λ p. ply_force of (bent_back f) (mirrored p) ≡ ply_force of f p) (placed_plies wall) (λ p. force-turned f p of))

  moments-turned : (of : OffAxis → ℚ) → moment_sum of (bent_back f) wall ≡ opposite (moment_sum of f wall)
  moments-turned of =
      sum-mirrored wall same (ply_moment of (bent_back f))
      ∙ sum-same (λ p. ply_moment of (bent_back f) (mirrored p)) (λ p. opposite (ply_moment of f p)) (placed_plies wall)
      (of_each (λ p. ply_moment of (bent_back f) (mirrored p) ≡ opposite (ply_moment of f p)) (placed_plies wall) (λ p. moment-turned f p of))
      ∙ sum-opposite (ply_moment of f) (placed_plies wall)

  -- a moment of 0 is its own opposite
  no_moment : (m : ℤ) → m ≡ pos 0 → opposite (whole (pos 12000 *ℤ m)) ≡ whole (pos 12000 *ℤ m)
  no_moment m e = sym (whole-opposite (pos 12000 *ℤ m)) ∙ ap whole (omega (arith, ints, e))

  solves-turned : (load : Load) → IsMembrane load → Solves wall load f → Solves wall load (bent_back f)
  solves-turned load zero s = record {
    nx = forces-turned (λ t. t.x) ∙ s.nx;
    ny = forces-turned (λ t. t.y) ∙ s.ny;
    nxy = forces-turned (λ t. t.s) ∙ s.nxy;
    mx = moments-turned (λ t. t.x) ∙ ap opposite s.mx ∙ no_moment load.mx zero.mx;
    my = moments-turned (λ t. t.y) ∙ ap opposite s.my ∙ no_moment load.my zero.my;
    mxy = moments-turned (λ t. t.s) ∙ ap opposite s.mxy ∙ no_moment load.mxy zero.mxy;
  }

own-opposite : (k : ℚ) → k ≡ opposite k → k ≡ whole (pos 0)
unfolding ◌-ℚ◌
own-opposite k e = zero_factor (whole (pos 2)) (positive_number 1)
    (from₁ (whole (pos 1)) e (solve 1 (λ k. int (pos 2) ⊗ k ≐ int (pos 0) ⊕ int (pos 1) ⊗ (k ⊖ minus k)) refl k))

-- where a wall has one laminate strain alone, it has no curvature
pub unbent : (wall : List Item) → wall ≡ reverse wall → (load : Load) → IsMembrane load
    → ((f g : LaminateStrain) → Solves wall load f → Solves wall load g → f ≡ g)
    → (f : LaminateStrain) → Solves wall load f → f.curvature ≡ none
unbent wall same load zero one f s =
    let e = one f (bent_back f) s (solves-turned wall same f load zero s) in
    same_off_axis (own-opposite f.curvature.x (ap (λ (g : LaminateStrain). g.curvature.x) e))
    (own-opposite f.curvature.y (ap (λ (g : LaminateStrain). g.curvature.y) e)) (own-opposite f.curvature.s (ap (λ (g : LaminateStrain). g.curvature.s) e))

-- so that its strain is that of the mid-plane everywhere
flat : (z : ℤ) (e k : ℚ) → k ≡ whole (pos 0) → e +ℚ fraction z (pos 2) *ℚ k ≡ e
unfolding ◌-ℚ◌
flat z e k h = ap (λ k. e +ℚ fraction z (pos 2) *ℚ k) h ∙ solve 2 (λ e f. e ⊕ f ⊗ int (pos 0) ≐ e) refl e (fraction z (pos 2))

pub strain-unbent : (f : LaminateStrain) (z : ℤ) → f.curvature ≡ none → strain_at f z ≡ f.mid_plane
strain-unbent f z e = same_off_axis (flat z f.mid_plane.x f.curvature.x (ap (λ t. t.x) e))
    (flat z f.mid_plane.y f.curvature.y (ap (λ t. t.y) e)) (flat z f.mid_plane.s f.curvature.s (ap (λ t. t.s) e))
