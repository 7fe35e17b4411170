-- The quadratic form of a wall's matrices, by its energy.
use Rattle.std.proofs.Common.{◌≡◌, refl, sym, ◌∙◌, ap, ap₂, subst₂, ℤ, pos, List}
use Rattle.lam_fraction.specs.Fraction.{ℚ, whole, fraction, inverse, ◌+ℚ◌, ◌*ℚ◌, ◌/ℚ◌, ◌≤ℚ◌, ◌<ℚ◌, ◌-ℚ◌}
use Rattle.lam_fraction.proofs.Expression.{int, ◌⊕◌, ◌⊖◌, ◌⊗◌}
use Rattle.lam_fraction.proofs.Solver.{◌≐◌}
use Rattle.lam_fraction.proofs.Rationals.{solve, from₂, without_factor, positive_number, ◌*ₚ◌}
use Rattle.lam_fraction.proofs.FractionBounds.{times-inverse, fraction-times, whole_positive}
use Rattle.lam_stock.specs.declared.item.Item.{Item}
use Rattle.lam_stock.specs.PlyLaw.{OffAxis}
use Rattle.lam_job.specs.Wall.{wall_thickness}
use Rattle.lam_job.specs.LaminateStrain.{LaminateStrain}
use Rattle.lam_wall.specs.Matrices.{Matrices, bending_strain, forces, moments}
use Rattle.lam_wall.specs.MatrixLaw.{AreMatrices, times}
use Rattle.lam_stock.specs.Energy.{twice_energy}
use Rattle.lam_wall.specs.Energy.{twice_wall_energy, mean_squares, HasEnergyBetween}
use Rattle.lam_wall.specs.QuadraticForm.{quadratic_form, HasFormBetween, HasStiffnessBetween, FormBetween}
use Rattle.lam_fraction.proofs.WholeFractions.{twice_half, whole-product₃, whole-product₄}
use Rattle.lam_wall.proofs.Strains.{laminate_strain, bending_of_curvature}
use Rattle.lam_wall.proofs.WallEnergy.{energy_between}

-- the energy of sums that are 4 h q and 6 h h q times n and m, with g half of h
energy_by : (g q : ℚ) (n m e k : OffAxis)
    → twice_energy (times (whole (pos 4) *ℚ (whole (pos 2) *ℚ g *ℚ q)) n) e /ℚ whole (pos 4)
    +ℚ twice_energy (times (whole (pos 6) *ℚ (whole (pos 2) *ℚ g *ℚ (whole (pos 2) *ℚ g *ℚ q))) m) k /ℚ whole (pos 12)
    ≡ q *ℚ (whole (pos 2) *ℚ g *ℚ (twice_energy n e +ℚ twice_energy m (times g k)))
unfolding ◌-ℚ◌ ◌/ℚ◌
energy_by g q n m e k = from₂ (whole (pos 2) *ℚ g *ℚ q *ℚ twice_energy n e) (times-inverse (positive_number 3)) (whole (pos 2) *ℚ g *ℚ g *ℚ q *ℚ twice_energy m k) (times-inverse (positive_number 11))
    (solve 16 (λ g q nx ny ns mx my ms ex ey es kx ky ks i j.
    let f = int (pos 4) ⊗ (int (pos 2) ⊗ g ⊗ q) in
    let b = int (pos 6) ⊗ (int (pos 2) ⊗ g ⊗ (int (pos 2) ⊗ g ⊗ q)) in
    let ne = nx ⊗ ex ⊕ ny ⊗ ey ⊕ ns ⊗ es in
    let mk = mx ⊗ kx ⊕ my ⊗ ky ⊕ ms ⊗ ks in
    (f ⊗ nx ⊗ ex ⊕ f ⊗ ny ⊗ ey ⊕ f ⊗ ns ⊗ es) ⊗ i ⊕ (b ⊗ mx ⊗ kx ⊕ b ⊗ my ⊗ ky ⊕ b ⊗ ms ⊗ ks) ⊗ j
    ≐ q ⊗ (int (pos 2) ⊗ g ⊗ (ne ⊕ (mx ⊗ (g ⊗ kx) ⊕ my ⊗ (g ⊗ ky) ⊕ ms ⊗ (g ⊗ ks))))
    ⊕ int (pos 2) ⊗ g ⊗ q ⊗ ne ⊗ (int (pos 4) ⊗ i ⊖ int (pos 1)) ⊕ int (pos 2) ⊗ g ⊗ g ⊗ q ⊗ mk ⊗ (int (pos 12) ⊗ j ⊖ int (pos 1))) refl
    g q n.x n.y n.s m.x m.y m.s e.x e.y e.s k.x k.y k.s (inverse (whole (pos 4))) (inverse (whole (pos 12))))

-- twice the energy is q0 h times the quadratic form
pub energy_is_form : (q0 : ℤ) (wall : List Item) (m : Matrices) → AreMatrices q0 wall m → (f : LaminateStrain)
    → twice_wall_energy f wall ≡ whole q0 *ℚ (whole (wall_thickness wall) *ℚ quadratic_form m f.mid_plane (bending_strain (wall_thickness wall) f.curvature))
energy_is_form q0 wall m are f =
    let h = wall_thickness wall in
    let k = bending_strain h f.curvature in
    let stretch = whole-product₃ (pos 4) h q0 ∙ ap (λ s. whole (pos 4) *ℚ (s *ℚ whole q0)) (twice_half h) in
    let bend = whole-product₄ (pos 6) h h q0 ∙ ap (λ s. whole (pos 6) *ℚ (s *ℚ (s *ℚ whole q0))) (twice_half h) in
    ap₂ (λ n m. twice_energy n f.mid_plane /ℚ whole (pos 4) +ℚ twice_energy m f.curvature /ℚ whole (pos 12)) (are f).forces (are f).moments
    ∙ ap₂ (λ u v. twice_energy (times u (forces m f.mid_plane k)) f.mid_plane /ℚ whole (pos 4) +ℚ twice_energy (times v (moments m f.mid_plane k)) f.curvature /ℚ whole (pos 12)) stretch bend
    ∙ energy_by (fraction h (pos 2)) (whole q0) (forces m f.mid_plane k) (moments m f.mid_plane k) f.mid_plane f.curvature
    ∙ ap (λ s. whole q0 *ℚ (s *ℚ quadratic_form m f.mid_plane k)) (sym (twice_half h))

module _ (floor q0 : ℤ) (wall : List Item) (m : Matrices) (e k : OffAxis) (b : HasStiffnessBetween floor q0 wall) (are : AreMatrices q0 wall m) where
  abbrev h : ℤ
  h = wall_thickness wall

  -- the energy at these strains
  abbrev f : LaminateStrain
  f = laminate_strain h e k

  bent : bending_strain h f.curvature ≡ k
  bent = bending_of_curvature h b.thickness k

  energy : twice_wall_energy f wall ≡ whole q0 *ℚ (whole h *ℚ quadratic_form m e k)
  energy = energy_is_form q0 wall m are f ∙ ap (λ s. whole q0 *ℚ (whole h *ℚ quadratic_form m e s)) bent

  bounds : HasEnergyBetween floor q0 wall f
  bounds = energy_between floor q0 wall f b.each b.layers

  least : whole floor *ℚ (whole h *ℚ mean_squares e k) ≤ℚ whole q0 *ℚ (whole h *ℚ quadratic_form m e k)
  least = subst₂ ◌≤ℚ◌ (ap (λ s. whole floor *ℚ (whole h *ℚ mean_squares e s)) bent) energy bounds.0

  greatest : whole q0 *ℚ (whole h *ℚ quadratic_form m e k) ≤ℚ whole q0 *ℚ (whole h *ℚ mean_squares e k)
  greatest = subst₂ ◌≤ℚ◌ energy (ap (λ s. whole q0 *ℚ (whole h *ℚ mean_squares e s)) bent) bounds.1

  -- over the thickness and the scale
  above : whole (pos 0) <ℚ whole q0 *ℚ whole h
  above = whole_positive b.scale *ₚ whole_positive b.thickness

  front : (s : ℚ) → whole q0 *ℚ (whole h *ℚ s) ≡ whole q0 *ℚ whole h *ℚ s
  unfolding ◌-ℚ◌ ◌/ℚ◌
  front s = solve 3 (λ q h s. q ⊗ (h ⊗ s) ≐ q ⊗ h ⊗ s) refl (whole q0) (whole h) s

  low : whole floor *ℚ (whole h *ℚ mean_squares e k) ≡ whole q0 *ℚ whole h *ℚ (fraction floor q0 *ℚ mean_squares e k)
  unfolding ◌-ℚ◌ ◌/ℚ◌
  low = ap (λ f. f *ℚ (whole h *ℚ mean_squares e k)) (sym (fraction-times floor q0 b.scale))
      ∙ solve 4 (λ f q h s. f ⊗ q ⊗ (h ⊗ s) ≐ q ⊗ h ⊗ (f ⊗ s)) refl (fraction floor q0) (whole q0) (whole h) (mean_squares e k)

  within : HasFormBetween floor q0 m e k
  within = (
    without_factor (whole q0 *ℚ whole h) above (subst₂ ◌≤ℚ◌ low (front (quadratic_form m e k)) least),
    without_factor (whole q0 *ℚ whole h) above (subst₂ ◌≤ℚ◌ (front (quadratic_form m e k)) (front (mean_squares e k)) greatest),
  )

pub form_between : FormBetween
form_between = within
