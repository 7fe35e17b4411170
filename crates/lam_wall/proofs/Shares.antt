-- The shares of a ply in the matrices of a wall of thickness h, as equations without quotients.
use Rattle.std.proofs.Common.{◌≡◌, refl, sym, ◌∙◌, ap, ap₂, ℤ, pos, ◌+ℤ◌, ◌*ℤ◌, ◌<ℤ◌}
use Rattle.lam_fraction.specs.Fraction.{ℚ, whole, fraction, ◌+ℚ◌, ◌*ℚ◌, ◌-ℚ◌, ◌/ℚ◌}
use Rattle.lam_fraction.proofs.Expression.{int, ◌⊕◌, ◌⊗◌}
use Rattle.lam_fraction.proofs.Solver.{◌≐◌}
use Rattle.lam_fraction.proofs.Rationals.{solve, same_without_factor, positive_number, ◌*ₚ◌}
use Rattle.lam_fraction.proofs.FractionBounds.{fraction-times, whole_positive}
use Rattle.lam_job.specs.Wall.{Placed}
use Rattle.lam_wall.specs.Matrices.{extension_share, coupling_share, bending_share}
use Rattle.lam_fraction.proofs.WholeFractions.{whole-product₃, whole-product₄, twice_half}
use Rattle.lam_wall.proofs.Wholes.{twice_square, three_cubes, whole-times_sum, whole-times_squares}

module _ (h : ℤ) (above : pos 0 <ℤ h) (p : Placed) where
  -- half the wall's thickness, and z of the ply's faces in µm
  abbrev half_h : ℚ
  half_h = fraction h (pos 2)

  abbrev half_inner : ℚ
  half_inner = fraction p.inner (pos 2)

  abbrev half_outer : ℚ
  half_outer = fraction p.outer (pos 2)

  -- ---- with whole numbers
  pub extension_whole : extension_share h p *ℚ whole h ≡ whole p.item.lamina.t
  extension_whole = fraction-times p.item.lamina.t h above

  pub coupling_whole : coupling_share h p *ℚ (whole (pos 2) *ℚ (whole h *ℚ whole h)) ≡ whole p.item.lamina.t *ℚ (whole p.inner +ℚ whole p.outer)
  coupling_whole =
      ap (λ s. coupling_share h p *ℚ s) (sym (whole-product₃ (pos 2) h h))
      ∙ fraction-times (p.item.lamina.t *ℤ (p.inner +ℤ p.outer)) (pos 2 *ℤ (h *ℤ h)) (twice_square h above)
      ∙ whole-times_sum p.item.lamina.t p.inner p.outer

  pub bending_whole : bending_share h p *ℚ (whole (pos 3) *ℚ (whole h *ℚ (whole h *ℚ whole h)))
      ≡ whole p.item.lamina.t *ℚ (whole p.inner *ℚ whole p.inner +ℚ whole p.inner *ℚ whole p.outer +ℚ whole p.outer *ℚ whole p.outer)
  bending_whole =
      ap (λ s. bending_share h p *ℚ s) (sym (whole-product₄ (pos 3) h h h))
      ∙ fraction-times (p.item.lamina.t *ℤ (p.inner *ℤ p.inner +ℤ p.inner *ℤ p.outer +ℤ p.outer *ℤ p.outer)) (pos 3 *ℤ (h *ℤ (h *ℤ h))) (three_cubes h above)
      ∙ whole-times_squares p.item.lamina.t p.inner p.outer

  -- ---- with the halves
  pub thickness_is : whole p.item.lamina.t ≡ extension_share h p *ℚ (whole (pos 2) *ℚ half_h)
  thickness_is = sym extension_whole ∙ ap (λ s. extension_share h p *ℚ s) (twice_half h)

  pub coupling_is : coupling_share h p *ℚ (whole (pos 2) *ℚ half_h) ≡ extension_share h p *ℚ (half_inner +ℚ half_outer)
  unfolding ◌-ℚ◌ ◌/ℚ◌
  coupling_is = same_without_factor (whole (pos 2) *ℚ whole h) (positive_number 1 *ₚ whole_positive above)
      (ap (λ s. whole (pos 2) *ℚ whole h *ℚ (coupling_share h p *ℚ s)) (sym (twice_half h))
      ∙ solve 2 (λ c h. int (pos 2) ⊗ h ⊗ (c ⊗ h) ≐ c ⊗ (int (pos 2) ⊗ (h ⊗ h))) refl (coupling_share h p) (whole h)
      ∙ coupling_whole
      ∙ ap₂ ◌*ℚ◌ (sym extension_whole) (ap₂ ◌+ℚ◌ (twice_half p.inner) (twice_half p.outer))
      ∙ solve 4 (λ m h a b. m ⊗ h ⊗ (int (pos 2) ⊗ a ⊕ int (pos 2) ⊗ b) ≐ int (pos 2) ⊗ h ⊗ (m ⊗ (a ⊕ b))) refl (extension_share h p) (whole h) half_inner half_outer)

  pub bending_is : bending_share h p *ℚ (whole (pos 3) *ℚ (half_h *ℚ half_h))
      ≡ extension_share h p *ℚ (half_inner *ℚ half_inner +ℚ half_inner *ℚ half_outer +ℚ half_outer *ℚ half_outer)
  unfolding ◌-ℚ◌ ◌/ℚ◌
  bending_is = same_without_factor (whole (pos 4) *ℚ whole h) (positive_number 3 *ₚ whole_positive above)
      (solve 3 (λ d h f. int (pos 4) ⊗ h ⊗ (d ⊗ (int (pos 3) ⊗ (f ⊗ f))) ≐ d ⊗ (int (pos 3) ⊗ (h ⊗ ((int (pos 2) ⊗ f) ⊗ (int (pos 2) ⊗ f))))) refl (bending_share h p) (whole h) half_h
      ∙ ap (λ s. bending_share h p *ℚ (whole (pos 3) *ℚ (whole h *ℚ (s *ℚ s)))) (sym (twice_half h))
      ∙ bending_whole
      ∙ ap₂ ◌*ℚ◌ (sym extension_whole) (ap₂ (λ a b. a *ℚ a +ℚ a *ℚ b +ℚ b *ℚ b) (twice_half p.inner) (twice_half p.outer))
      ∙ solve 4 (λ m h a b. m ⊗ h ⊗ ((int (pos 2) ⊗ a) ⊗ (int (pos 2) ⊗ a) ⊕ (int (pos 2) ⊗ a) ⊗ (int (pos 2) ⊗ b) ⊕ (int (pos 2) ⊗ b) ⊗ (int (pos 2) ⊗ b))
      ≐ int (pos 4) ⊗ h ⊗ (m ⊗ (a ⊗ a ⊕ a ⊗ b ⊕ b ⊗ b))) refl (extension_share h p) (whole h) half_inner half_outer)
