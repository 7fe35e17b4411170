-- Twice the energy of a wall lies between floor and q0 times its thickness and the mean squares of its strains.
use Rattle.std.proofs.Common.{◌≡◌, refl, sym, ◌∙◌, ap, subst₂, ℤ, pos, neg_ℤ, ◌+ℤ◌, ◌*ℤ◌, ◌≤ℤ◌, List, [], ◌∷◌}
use Rattle.std.proofs.lemmas.List.Elements.{recursion_from_All}
use Rattle.std.specs.List.{AllByRecursion}
use Rattle.lam_fraction.specs.Fraction.{ℚ, whole, fraction, inverse, ◌+ℚ◌, ◌*ℚ◌, ◌/ℚ◌, ◌≤ℚ◌, ◌-ℚ◌}
use Rattle.lam_fraction.specs.Sums.{sum_over}
use Rattle.lam_fraction.proofs.Expression.{int, ◌⊕◌, ◌⊖◌, ◌⊗◌}
use Rattle.lam_fraction.proofs.Solver.{◌≐◌}
use Rattle.lam_fraction.proofs.FractionSums as Sums
use Rattle.lam_fraction.proofs.Rationals.{solve, from₁, from₂, without_factor, positive_number}
use Rattle.lam_fraction.proofs.FractionBounds.{times-inverse}
use Rattle.lam_stock.specs.declared.item.Item.{Item}
use Rattle.lam_stock.specs.PlyLaw.{OffAxis}
use Rattle.lam_job.specs.Wall.{Placed, placed_from, placed_plies, wall_thickness}
use Rattle.lam_job.specs.LaminateStrain.{LaminateStrain}
use Rattle.lam_job.specs.Equilibrium.{ply_force, ply_moment}
use Rattle.lam_wall.specs.Matrices.{bending_strain}
use Rattle.lam_stock.specs.Energy.{strain_squares, LayerEnergyBetween}
use Rattle.lam_wall.specs.Energy.{twice_wall_energy, mean_squares, EnergyBetween}
use Rattle.lam_fraction.proofs.WholeFractions.{twice_half}
use Rattle.lam_wall.proofs.LinearSums.{row, sum-row, sum-combined}
use Rattle.lam_wall.proofs.PlaceSums.{thickness_of, with_places, with_squares, thickness_sum, wall_places_sum, wall_squares_sum}
use Rattle.lam_wall.proofs.PlyEnergy.{twelve_energies, mixed, all_squares, energies_at_least, energies_at_most}

-- ---- the two sums

energy_sum : (f : LaminateStrain) (wall : List Item) → sum_over (twelve_energies f) (placed_plies wall) ≡ whole (pos 12) *ℚ twice_wall_energy f wall
unfolding ◌-ℚ◌ ◌/ℚ◌
energy_sum f wall =
    sum-combined (whole (pos 1)) (ply_force (λ t. t.x) f) (ply_force (λ t. t.y) f) (ply_force (λ t. t.s) f) (ply_moment (λ t. t.x) f) (ply_moment (λ t. t.y) f) (ply_moment (λ t. t.s) f)
    (whole (pos 3) *ℚ f.mid_plane.x) (whole (pos 3) *ℚ f.mid_plane.y) (whole (pos 3) *ℚ f.mid_plane.s) f.curvature.x f.curvature.y f.curvature.s (placed_plies wall)
    ∙ parts _ _ _ _ _ _ f.mid_plane f.curvature
  where
    parts : (a b c l m n : ℚ) (e k : OffAxis)
        → whole (pos 1) *ℚ (row a b c (whole (pos 3) *ℚ e.x) (whole (pos 3) *ℚ e.y) (whole (pos 3) *ℚ e.s) +ℚ row l m n k.x k.y k.s)
        ≡ whole (pos 12) *ℚ (row a b c e.x e.y e.s /ℚ whole (pos 4) +ℚ row l m n k.x k.y k.s /ℚ whole (pos 12))
    parts a b c l m n e k = sym (from₂ (whole (pos 3) *ℚ row a b c e.x e.y e.s) (times-inverse (positive_number 3)) (row l m n k.x k.y k.s) (times-inverse (positive_number 11))
        (solve 14 (λ a b c l m n ex ey es kx ky ks i j.
        int (pos 12) ⊗ ((a ⊗ ex ⊕ b ⊗ ey ⊕ c ⊗ es) ⊗ i ⊕ (l ⊗ kx ⊕ m ⊗ ky ⊕ n ⊗ ks) ⊗ j)
        ≐ int (pos 1) ⊗ ((a ⊗ (int (pos 3) ⊗ ex) ⊕ b ⊗ (int (pos 3) ⊗ ey) ⊕ c ⊗ (int (pos 3) ⊗ es)) ⊕ (l ⊗ kx ⊕ m ⊗ ky ⊕ n ⊗ ks))
        ⊕ int (pos 3) ⊗ (a ⊗ ex ⊕ b ⊗ ey ⊕ c ⊗ es) ⊗ (int (pos 4) ⊗ i ⊖ int (pos 1)) ⊕ (l ⊗ kx ⊕ m ⊗ ky ⊕ n ⊗ ks) ⊗ (int (pos 12) ⊗ j ⊖ int (pos 1))) refl
        a b c l m n e.x e.y e.s k.x k.y k.s (inverse (whole (pos 4))) (inverse (whole (pos 12)))))

squares_sum : (f : LaminateStrain) (wall : List Item)
    → sum_over (all_squares f) (placed_plies wall) ≡ whole (pos 12) *ℚ (whole (wall_thickness wall) *ℚ mean_squares f.mid_plane (bending_strain (wall_thickness wall) f.curvature))
unfolding ◌-ℚ◌ ◌/ℚ◌
squares_sum f wall =
    sum-row thickness_of with_places with_squares (whole (pos 12) *ℚ strain_squares f.mid_plane) (whole (pos 6) *ℚ mixed f.mid_plane f.curvature) (strain_squares f.curvature) (placed_plies wall)
    ∙ (λ i. row (thickness_sum (neg_ℤ (wall_thickness wall)) wall i) (wall_places_sum wall i) (wall_squares_sum wall i)
    (whole (pos 12) *ℚ strain_squares f.mid_plane) (whole (pos 6) *ℚ mixed f.mid_plane f.curvature) (strain_squares f.curvature))
    ∙ ap (λ h. row h (whole (pos 0)) (h *ℚ h *ℚ h) (whole (pos 12) *ℚ strain_squares f.mid_plane) (whole (pos 6) *ℚ mixed f.mid_plane f.curvature) (strain_squares f.curvature)) (twice_half (wall_thickness wall))
    ∙ parts (fraction (wall_thickness wall) (pos 2)) (strain_squares f.mid_plane) (mixed f.mid_plane f.curvature) (fraction (pos 1) (pos 2)) f.curvature
    ∙ ap (λ h. whole (pos 12) *ℚ (h *ℚ mean_squares f.mid_plane (bending_strain (wall_thickness wall) f.curvature))) (sym (twice_half (wall_thickness wall)))
  where
    -- g is half the thickness
    parts : (g n m h : ℚ) (k : OffAxis)
        → row (whole (pos 2) *ℚ g) (whole (pos 0)) (whole (pos 2) *ℚ g *ℚ (whole (pos 2) *ℚ g) *ℚ (whole (pos 2) *ℚ g)) (whole (pos 12) *ℚ n) (whole (pos 6) *ℚ m) (k.x *ℚ k.x +ℚ k.y *ℚ k.y +ℚ h *ℚ (k.s *ℚ k.s))
        ≡ whole (pos 12) *ℚ (whole (pos 2) *ℚ g *ℚ (n +ℚ (g *ℚ k.x *ℚ (g *ℚ k.x) +ℚ g *ℚ k.y *ℚ (g *ℚ k.y) +ℚ h *ℚ (g *ℚ k.s *ℚ (g *ℚ k.s))) /ℚ whole (pos 3)))
    parts g n m h k = sym (from₁ (whole (pos 8) *ℚ g *ℚ (g *ℚ k.x *ℚ (g *ℚ k.x) +ℚ g *ℚ k.y *ℚ (g *ℚ k.y) +ℚ h *ℚ (g *ℚ k.s *ℚ (g *ℚ k.s)))) (times-inverse (positive_number 2))
        (solve 8 (λ g n m h x y s i.
        let k = g ⊗ x ⊗ (g ⊗ x) ⊕ g ⊗ y ⊗ (g ⊗ y) ⊕ h ⊗ (g ⊗ s ⊗ (g ⊗ s)) in
        let two_g = int (pos 2) ⊗ g in
        int (pos 12) ⊗ (two_g ⊗ (n ⊕ k ⊗ i))
        ≐ two_g ⊗ (int (pos 12) ⊗ n) ⊕ int (pos 0) ⊗ (int (pos 6) ⊗ m) ⊕ two_g ⊗ two_g ⊗ two_g ⊗ (x ⊗ x ⊕ y ⊗ y ⊕ h ⊗ (s ⊗ s))
        ⊕ int (pos 8) ⊗ g ⊗ k ⊗ (int (pos 3) ⊗ i ⊖ int (pos 1))) refl
        g n m h k.x k.y k.s (inverse (whole (pos 3)))))

-- ---- ply by ply

module _ (f : LaminateStrain) (floor q0 : ℤ) where
  abbrev Bounded : Placed → Type 0
  Bounded p = (whole floor *ℚ all_squares f p ≤ℚ twelve_energies f p) × (twelve_energies f p ≤ℚ whole q0 *ℚ all_squares f p)

  bounded : (z : ℤ) (wall : List Item) → AllByRecursion (λ i. pos 0 ≤ℤ i.lamina.t) wall → AllByRecursion (LayerEnergyBetween floor q0) wall
      → AllByRecursion Bounded (placed_from z wall)
  bounded z [] thick between = tt
  bounded z (i ∷ wall) thick between =
      let p : Placed = record { item = i; inner = z; outer = z +ℤ pos 2 *ℤ i.lamina.t } in (
        (energies_at_least f p floor q0 thick.0 between.0, energies_at_most f p floor q0 thick.0 between.0),
        bounded (z +ℤ pos 2 *ℤ i.lamina.t) wall thick.1 between.1,
      )

  lower_sums : (plies : List Placed) → AllByRecursion Bounded plies → whole floor *ℚ sum_over (all_squares f) plies ≤ℚ sum_over (twelve_energies f) plies
  lower_sums plies h = subst₂ ◌≤ℚ◌ (Sums.sum-times_left (whole floor) (all_squares f) plies) refl
      (Sums.sum_monotone (λ p. whole floor *ℚ all_squares f p) (twelve_energies f) plies (firsts plies h))
    where
      firsts : (plies : List Placed) → AllByRecursion Bounded plies → AllByRecursion (λ p. whole floor *ℚ all_squares f p ≤ℚ twelve_energies f p) plies
      firsts [] h = tt
      firsts (p ∷ plies) h = (h.0.0, firsts plies h.1)

  upper_sums : (plies : List Placed) → AllByRecursion Bounded plies → sum_over (twelve_energies f) plies ≤ℚ whole q0 *ℚ sum_over (all_squares f) plies
  upper_sums plies h = subst₂ ◌≤ℚ◌ refl (Sums.sum-times_left (whole q0) (all_squares f) plies)
      (Sums.sum_monotone (twelve_energies f) (λ p. whole q0 *ℚ all_squares f p) plies (seconds plies h))
    where
      seconds : (plies : List Placed) → AllByRecursion Bounded plies → AllByRecursion (λ p. twelve_energies f p ≤ℚ whole q0 *ℚ all_squares f p) plies
      seconds [] h = tt
      seconds (p ∷ plies) h = (h.0.1, seconds plies h.1)

-- a factor to the front
turned : (f s : ℚ) → f *ℚ (whole (pos 12) *ℚ s) ≡ whole (pos 12) *ℚ (f *ℚ s)
unfolding ◌-ℚ◌ ◌/ℚ◌
turned f s = solve 2 (λ f s. f ⊗ (int (pos 12) ⊗ s) ≐ int (pos 12) ⊗ (f ⊗ s)) refl f s

pub energy_between : EnergyBetween
energy_between floor q0 wall f thick between =
    let h = whole (wall_thickness wall) *ℚ mean_squares f.mid_plane (bending_strain (wall_thickness wall) f.curvature) in
    let each = bounded f floor q0 (neg_ℤ (wall_thickness wall)) wall (recursion_from_All _ wall thick) (recursion_from_All _ wall between) in (
      without_factor (whole (pos 12)) (positive_number 11)
          (subst₂ ◌≤ℚ◌ (ap (λ s. whole floor *ℚ s) (squares_sum f wall) ∙ turned (whole floor) h) (energy_sum f wall) (lower_sums f floor q0 (placed_plies wall) each)),
      without_factor (whole (pos 12)) (positive_number 11)
          (subst₂ ◌≤ℚ◌ (energy_sum f wall) (ap (λ s. whole q0 *ℚ s) (squares_sum f wall) ∙ turned (whole q0) h) (upper_sums f floor q0 (placed_plies wall) each)),
    )
