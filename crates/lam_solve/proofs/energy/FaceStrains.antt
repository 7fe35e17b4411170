-- The strain at a place in a wall: that of the mid-plane, and a share of what bending adds at the outer surface.
use Rattle.std.proofs.Common.{◌≡◌, refl, sym, subst, ◌∙◌, ap, ℤ, pos, neg_ℤ, ◌≤ℤ◌, ◌<ℤ◌}
use Rattle.lam_fraction.specs.Fraction.{ℚ, whole, fraction, ◌+ℚ◌, ◌-ℚ◌, ◌*ℚ◌, opposite}
use Rattle.lam_fraction.proofs.FractionRing.{product_comm}
use Rattle.lam_fraction.proofs.Expression.{int, ◌⊕◌, ◌⊖◌, ◌⊗◌, minus}
use Rattle.lam_fraction.proofs.Solver.{◌≐◌}
use Rattle.lam_fraction.proofs.FractionBounds.{fraction-times, whole_positive}
use Rattle.lam_fraction.proofs.WholeFractions.{whole-opposite, whole_at_most}
use Rattle.lam_fraction.proofs.Rationals.{solve, from₁, from₂, above, at_most, at_most_over, product_within, ◌+ₙ◌}
use Rattle.lam_stock.specs.PlyLaw.{OffAxis}
use Rattle.lam_stock.proofs.EnergyTransformed.{same_off_axis}
use Rattle.lam_job.specs.LaminateStrain.{LaminateStrain, strain_at}
use Rattle.lam_wall.specs.Matrices.{bending_strain}
use Rattle.lam_wall.proofs.UnitStrains.{strain-at}
use Rattle.lam_solve.specs.StrainBounds.{IsWithin, AreWithin}

-- mid-plane strains, and a share z of bending strains
abbrev pub with_bending : OffAxis → OffAxis → ℚ → OffAxis
with_bending e k z = record { x = e.x +ℚ k.x *ℚ z; y = e.y +ℚ k.y *ℚ z; s = e.s +ℚ k.s *ℚ z }

module _ (h z : ℤ) (thick : pos 0 <ℤ h) where
  -- z is in half µm, and so is at most h in size
  pub face-strain : (f : LaminateStrain) → strain_at f z ≡ with_bending f.mid_plane (bending_strain h f.curvature) (fraction z h)
  face-strain f =
      let k = bending_strain h f.curvature in
      strain-at h z thick f
      ∙ same_off_axis (ap (λ s. f.mid_plane.x +ℚ s) (product_comm (fraction z h) k.x)) (ap (λ s. f.mid_plane.y +ℚ s) (product_comm (fraction z h) k.y))
      (ap (λ s. f.mid_plane.s +ℚ s) (product_comm (fraction z h) k.s))

  -- component by component
  pub face-x : (f : LaminateStrain) → f.mid_plane.x +ℚ (bending_strain h f.curvature).x *ℚ fraction z h ≡ (strain_at f z).x
  face-x f = ap (λ t. t.x) (sym (face-strain f))

  pub face-y : (f : LaminateStrain) → f.mid_plane.y +ℚ (bending_strain h f.curvature).y *ℚ fraction z h ≡ (strain_at f z).y
  face-y f = ap (λ t. t.y) (sym (face-strain f))

  pub face-s : (f : LaminateStrain) → f.mid_plane.s +ℚ (bending_strain h f.curvature).s *ℚ fraction z h ≡ (strain_at f z).s
  face-s f = ap (λ t. t.s) (sym (face-strain f))

  module _ (inner : neg_ℤ h ≤ℤ z) (outer : z ≤ℤ h) where
    -- a place of the wall is a share that is at most 1 in size
    pub share-within : IsWithin (whole (pos 1)) (fraction z h)
    unfolding ◌-ℚ◌
    share-within = record {
      from = at_most_over (whole_positive thick) (above (whole_at_most inner))
          (from₂ (whole (pos 1)) (fraction-times z h thick) (whole (pos 1)) (whole-opposite h)
          (solve 4 (λ f h z n. h ⊗ (f ⊖ minus (int (pos 1))) ≐ (z ⊖ n) ⊕ int (pos 1) ⊗ (f ⊗ h ⊖ z) ⊕ int (pos 1) ⊗ (n ⊖ minus h)) refl (fraction z h) (whole h) (whole z) (whole (neg_ℤ h))));
      to = at_most_over (whole_positive thick) (above (whole_at_most outer))
          (from₁ (opposite (whole (pos 1))) (fraction-times z h thick)
          (solve 3 (λ f h z. h ⊗ (int (pos 1) ⊖ f) ≐ (h ⊖ z) ⊕ minus (int (pos 1)) ⊗ (f ⊗ h ⊖ z)) refl (fraction z h) (whole h) (whole z)));
    }

    within : {a b e k : ℚ} → IsWithin a e → IsWithin b k → IsWithin (a +ℚ b *ℚ whole (pos 1)) (e +ℚ k *ℚ fraction z h)
    unfolding ◌-ℚ◌
    within {a} {b} {e} {k} p q =
        let share = product_within q.from q.to share-within.from share-within.to in record {
          from = at_most (above p.from +ₙ above share.0) (solve 5 (λ a b e k z. (e ⊕ k ⊗ z) ⊖ minus (a ⊕ b ⊗ int (pos 1)) ≐ (e ⊖ minus a) ⊕ (k ⊗ z ⊖ minus (b ⊗ int (pos 1)))) refl a b e k (fraction z h));
          to = at_most (above p.to +ₙ above share.1) (solve 5 (λ a b e k z. (a ⊕ b ⊗ int (pos 1)) ⊖ (e ⊕ k ⊗ z) ≐ (a ⊖ e) ⊕ (b ⊗ int (pos 1) ⊖ k ⊗ z)) refl a b e k (fraction z h));
        }

    -- so the strain there is at most that of the mid-plane and that of bending
    pub face-within : {a b : ℚ} (f : LaminateStrain) → AreWithin a f.mid_plane → AreWithin b (bending_strain h f.curvature) → AreWithin (a +ℚ b *ℚ whole (pos 1)) (strain_at f z)
    face-within {a} {b} f p q = subst (AreWithin (a +ℚ b *ℚ whole (pos 1))) (sym (face-strain f)) (record { x = within p.x q.x; y = within p.y q.y; s = within p.s q.s })
