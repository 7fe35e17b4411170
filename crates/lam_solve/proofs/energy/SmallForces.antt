-- Small forces and moments by a wall's matrices come from small strains, since the quadratic form is at least floor over
-- q0 times the mean squares of the strains. So a guess whose forces and moments are nearly others is near.
use Rattle.std.proofs.Common.{◌≡◌, refl, sym, subst, subst₂, ℤ, pos, ◌<ℤ◌}
use Rattle.lam_fraction.specs.Fraction.{ℚ, whole, fraction, inverse, ◌+ℚ◌, ◌-ℚ◌, ◌*ℚ◌, ◌/ℚ◌, ◌≤ℚ◌, ◌<ℚ◌}
use Rattle.lam_fraction.proofs.Expression.{Expr, ◌⊕◌, ◌⊖◌, ◌⊗◌}
use Rattle.lam_fraction.proofs.Solver.{◌≐◌}
use Rattle.lam_fraction.proofs.Rationals.{solve, from₁, above, at_most_over, with_factor, weaken}
use Rattle.lam_fraction.proofs.FractionBounds.{fraction-times, whole_positive}
use Rattle.lam_fraction.proofs.WholeFractions.{fraction_positive}
use Rattle.lam_stock.specs.PlyLaw.{OffAxis}
use Rattle.lam_stock.specs.Energy.{twice_energy}
use Rattle.lam_wall.specs.Energy.{mean_squares}
use Rattle.lam_wall.specs.Matrices.{Matrices, forces, moments}
use Rattle.lam_wall.specs.MatrixLaw.{times}
use Rattle.lam_wall.specs.QuadraticForm.{HasFormBetween}
use Rattle.lam_wall.proofs.JointEnergy.{forces-less, moments-less}
use Rattle.lam_wall.proofs.OffAxes.{less}
use Rattle.lam_solve.specs.StrainBounds.{AreWithin, AreNear, StrainsWithin, StrainsNear}
use Rattle.lam_solve.proofs.energy.Sizes.{within-weaker, within-unscaled, within-near, near-within}
use Rattle.lam_solve.proofs.energy.SmallWork.{small_work}

-- ---- a factor of the strains
squares_scaled : (p : ℚ) (e k : OffAxis) → mean_squares (times p e) (times p k) ≡ p *ℚ (p *ℚ mean_squares e k)
unfolding ◌-ℚ◌ ◌/ℚ◌
squares_scaled p e k = solve 9 (λ p ex ey es kx ky ks h i.
    let sq : Expr → Expr = λ x. x ⊗ x in
    (sq (p ⊗ ex) ⊕ sq (p ⊗ ey) ⊕ h ⊗ sq (p ⊗ es)) ⊕ (sq (p ⊗ kx) ⊕ sq (p ⊗ ky) ⊕ h ⊗ sq (p ⊗ ks)) ⊗ i
    ≐ p ⊗ (p ⊗ ((sq ex ⊕ sq ey ⊕ h ⊗ sq es) ⊕ (sq kx ⊕ sq ky ⊕ h ⊗ sq ks) ⊗ i))) refl
    p e.x e.y e.s k.x k.y k.s (fraction (pos 1) (pos 2)) (inverse (whole (pos 3)))

work_scaled : (p : ℚ) (n m e k : OffAxis) → p *ℚ (twice_energy n e +ℚ twice_energy m k) ≡ twice_energy n (times p e) +ℚ twice_energy m (times p k)
work_scaled p n m e k = solve 13 (λ p nx ny ns mx my ms ex ey es kx ky ks.
    p ⊗ ((nx ⊗ ex ⊕ ny ⊗ ey ⊕ ns ⊗ es) ⊕ (mx ⊗ kx ⊕ my ⊗ ky ⊕ ms ⊗ ks))
    ≐ (nx ⊗ (p ⊗ ex) ⊕ ny ⊗ (p ⊗ ey) ⊕ ns ⊗ (p ⊗ es)) ⊕ (mx ⊗ (p ⊗ kx) ⊕ my ⊗ (p ⊗ ky) ⊕ ms ⊗ (p ⊗ ks))) refl
    p n.x n.y n.s m.x m.y m.s e.x e.y e.s k.x k.y k.s

weaker : {r t : ℚ} {u : OffAxis} → r ≤ℚ t → AreWithin r u → AreWithin t u
weaker h w = record { x = within-weaker h w.x; y = within-weaker h w.y; s = within-weaker h w.s }

-- ---- strains and bending strains whose quadratic form is bounded from below
module _ (floor q0 : ℤ) (m : Matrices) (r bound : ℚ) (floor_above : pos 0 <ℤ floor) (scale_above : pos 0 <ℤ q0)
    (size : r *ℚ whole q0 ≤ℚ bound *ℚ whole floor) where
  abbrev ratio : ℚ
  ratio = fraction floor q0

  ratio_above : whole (pos 0) <ℚ ratio
  ratio_above = fraction_positive floor q0 floor_above scale_above

  -- r is at most the ratio times the bound
  at_most_ratio : r ≤ℚ ratio *ℚ bound
  unfolding ◌-ℚ◌
  at_most_ratio = at_most_over (whole_positive scale_above) (above size)
      (from₁ bound (fraction-times floor q0 scale_above)
      (solve 5 (λ p b r q f. q ⊗ (p ⊗ b ⊖ r) ≐ (b ⊗ f ⊖ r ⊗ q) ⊕ b ⊗ (p ⊗ q ⊖ f)) refl ratio bound r (whole q0) (whole floor)))

  pub small_forces : (e k : OffAxis) → HasFormBetween floor q0 m e k → AreWithin r (forces m e k) → AreWithin r (moments m e k) → StrainsWithin bound e k
  small_forces e k form are_forces are_moments =
      let scaled = small_work (ratio *ℚ bound) (times ratio e) (times ratio k) (forces m e k) (moments m e k) (weaker at_most_ratio are_forces) (weaker at_most_ratio are_moments)
      (subst₂ ◌≤ℚ◌ (sym (squares_scaled ratio e k)) (work_scaled ratio (forces m e k) (moments m e k) e k) (with_factor ratio (weaken ratio_above) form.0)) in record {
        ex = within-unscaled (fraction (pos 5) (pos 2)) ratio bound ratio_above scaled.ex;
        ey = within-unscaled (fraction (pos 5) (pos 2)) ratio bound ratio_above scaled.ey;
        es = within-unscaled (whole (pos 4)) ratio bound ratio_above scaled.es;
        kx = within-unscaled (whole (pos 5)) ratio bound ratio_above scaled.kx;
        ky = within-unscaled (whole (pos 5)) ratio bound ratio_above scaled.ky;
        ks = within-unscaled (whole (pos 8)) ratio bound ratio_above scaled.ks;
      }

  -- strains (e, k) that are near to (u, v) by their forces and moments
  pub near_forces : (u v e k : OffAxis) → HasFormBetween floor q0 m (less e u) (less k v)
      → AreNear r (forces m e k) (forces m u v) → AreNear r (moments m e k) (moments m u v) → StrainsNear bound u v e k
  near_forces u v e k form f b =
      let w = small_forces (less e u) (less k v) form
      (subst (AreWithin r) (sym (forces-less m e k u v)) (record { x = within-near f.x; y = within-near f.y; s = within-near f.s }))
      (subst (AreWithin r) (sym (moments-less m e k u v)) (record { x = within-near b.x; y = within-near b.y; s = within-near b.s })) in record {
        ex = near-within w.ex;
        ey = near-within w.ey;
        es = near-within w.es;
        kx = near-within w.kx;
        ky = near-within w.ky;
        ks = near-within w.ks;
      }
