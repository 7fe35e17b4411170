-- Laminate strains by the mid-plane strains and the bending strains.
use Rattle.std.proofs.Common.{◌≡◌, refl, sym, ◌∙◌, ap, ℤ, pos, ◌<ℤ◌}
use Rattle.lam_fraction.specs.Fraction.{ℚ, whole, fraction, inverse, ◌*ℚ◌, ◌/ℚ◌, ◌-ℚ◌}
use Rattle.lam_fraction.proofs.Expression.{int, ◌⊕◌, ◌⊖◌, ◌⊗◌}
use Rattle.lam_fraction.proofs.Solver.{◌≐◌}
use Rattle.lam_fraction.proofs.Rationals.{solve, from₁}
use Rattle.lam_fraction.proofs.FractionBounds.{times-inverse, whole_positive}
use Rattle.lam_stock.specs.PlyLaw.{OffAxis}
use Rattle.lam_stock.proofs.EnergyTransformed.{same_off_axis}
use Rattle.lam_job.specs.LaminateStrain.{LaminateStrain}
use Rattle.lam_wall.specs.Matrices.{bending_strain}
use Rattle.lam_fraction.proofs.WholeFractions.{twice_half}

-- the curvatures of these bending strains
abbrev pub curvature_of : ℤ → OffAxis → OffAxis
curvature_of h k = record {
  x = whole (pos 2) /ℚ whole h *ℚ k.x;
  y = whole (pos 2) /ℚ whole h *ℚ k.y;
  s = whole (pos 2) /ℚ whole h *ℚ k.s;
}

abbrev pub laminate_strain : ℤ → OffAxis → OffAxis → LaminateStrain
laminate_strain h e k = record { mid_plane = e; curvature = curvature_of h k }

module _ (h : ℤ) (above : pos 0 <ℤ h) where
  halves : whole (pos 2) *ℚ fraction h (pos 2) *ℚ inverse (whole h) ≡ whole (pos 1)
  halves = ap (λ s. s *ℚ inverse (whole h)) (sym (twice_half h)) ∙ times-inverse (whole_positive above)

  there : (k : ℚ) → fraction h (pos 2) *ℚ (whole (pos 2) /ℚ whole h *ℚ k) ≡ k
  unfolding ◌-ℚ◌ ◌/ℚ◌
  there k = from₁ k halves (solve 3 (λ f i k. f ⊗ (int (pos 2) ⊗ i ⊗ k) ≐ k ⊕ k ⊗ (int (pos 2) ⊗ f ⊗ i ⊖ int (pos 1))) refl (fraction h (pos 2)) (inverse (whole h)) k)

  back : (k : ℚ) → whole (pos 2) /ℚ whole h *ℚ (fraction h (pos 2) *ℚ k) ≡ k
  unfolding ◌-ℚ◌ ◌/ℚ◌
  back k = from₁ k halves (solve 3 (λ f i k. int (pos 2) ⊗ i ⊗ (f ⊗ k) ≐ k ⊕ k ⊗ (int (pos 2) ⊗ f ⊗ i ⊖ int (pos 1))) refl (fraction h (pos 2)) (inverse (whole h)) k)

  -- each bending strain is that of one curvature
  pub bending_of_curvature : (k : OffAxis) → bending_strain h (curvature_of h k) ≡ k
  bending_of_curvature k = same_off_axis (there k.x) (there k.y) (there k.s)

  pub curvature_of_bending : (k : OffAxis) → curvature_of h (bending_strain h k) ≡ k
  curvature_of_bending k = same_off_axis (back k.x) (back k.y) (back k.s)

  -- a laminate strain is that of its mid-plane strains and its bending strains
  pub strain_is : (f : LaminateStrain) → laminate_strain h f.mid_plane (bending_strain h f.curvature) ≡ f
  strain_is f = λ i. record { mid_plane = f.mid_plane; curvature = curvature_of_bending f.curvature i }
