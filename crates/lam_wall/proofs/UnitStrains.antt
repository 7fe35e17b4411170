-- What the layers above ask of a laminate strain and of the matrices: the strain at a place, and the bending stiffnesses
-- of a plate.
use Rattle.std.proofs.Common.{◌≡◌, refl, sym, ◌∙◌, ap, ℤ, pos, ◌*ℤ◌, ◌<ℤ◌, List, arith}
use Rattle.std.proofs.lemmas.Int.{ints}
use Rattle.lam_fraction.specs.Fraction.{ℚ, whole, fraction, inverse, ◌+ℚ◌, ◌*ℚ◌, ◌/ℚ◌, ◌-ℚ◌}
use Rattle.lam_fraction.proofs.Expression.{int, ◌⊕◌, ◌⊖◌, ◌⊗◌}
use Rattle.lam_fraction.proofs.Solver.{◌≐◌}
use Rattle.lam_fraction.proofs.Rationals.{solve, from₁, same_without_factor, positive_number}
use Rattle.lam_fraction.proofs.FractionBounds.{times-inverse, fraction-times}
use Rattle.lam_stock.specs.declared.item.Item.{Item}
use Rattle.lam_stock.proofs.EnergyTransformed.{same_off_axis}
use Rattle.lam_job.specs.LaminateStrain.{LaminateStrain, strain_at}
use Rattle.lam_job.specs.Plate.{bent_x, bent_y, twisted, stiffness_11, stiffness_12, stiffness_22, stiffness_66}
use Rattle.lam_job.specs.Wall.{wall_thickness}
use Rattle.lam_wall.specs.Matrices.{Matrices, added, bending_strain}
use Rattle.lam_wall.specs.MatrixLaw.{AreMatrices, times}
use Rattle.lam_fraction.proofs.WholeFractions.{twice_half, whole-product₄}

-- ---- the strain at a place, by the bending strains

half-is : (h z : ℤ) → pos 0 <ℤ h → fraction z (pos 2) ≡ fraction z h *ℚ fraction h (pos 2)
unfolding ◌-ℚ◌
half-is h z above = same_without_factor (whole (pos 2)) (positive_number 1)
    (sym (twice_half z) ∙ sym (fraction-times z h above) ∙ ap (λ s. fraction z h *ℚ s) (twice_half h)
    ∙ solve 2 (λ a b. a ⊗ (int (pos 2) ⊗ b) ≐ int (pos 2) ⊗ (a ⊗ b)) refl (fraction z h) (fraction h (pos 2)))

component : (h z : ℤ) → pos 0 <ℤ h → (e k : ℚ) → e +ℚ fraction z (pos 2) *ℚ k ≡ e +ℚ fraction z h *ℚ (fraction h (pos 2) *ℚ k)
unfolding ◌-ℚ◌
component h z above e k =
    ap (λ s. e +ℚ s *ℚ k) (half-is h z above)
    ∙ solve 4 (λ e a b k. e ⊕ a ⊗ b ⊗ k ≐ e ⊕ a ⊗ (b ⊗ k)) refl e (fraction z h) (fraction h (pos 2)) k

-- z is in half µm, so that it is h at the outer surface
pub strain-at : (h z : ℤ) → pos 0 <ℤ h → (f : LaminateStrain)
    → strain_at f z ≡ added f.mid_plane (times (fraction z h) (bending_strain h f.curvature))
strain-at h z above f = same_off_axis
    (component h z above f.mid_plane.x f.curvature.x) (component h z above f.mid_plane.y f.curvature.y) (component h z above f.mid_plane.s f.curvature.s)

-- ---- the bending stiffnesses of a plate

-- rows of the moments at a unit curvature and no mid-plane strain
bent_first : (a b c d e f g : ℚ)
    → (a *ℚ whole (pos 0) +ℚ b *ℚ whole (pos 0) +ℚ c *ℚ whole (pos 0)) +ℚ (d *ℚ (g *ℚ whole (pos 1)) +ℚ e *ℚ (g *ℚ whole (pos 0)) +ℚ f *ℚ (g *ℚ whole (pos 0))) ≡ g *ℚ d
unfolding ◌-ℚ◌
bent_first = solve 7 (λ a b c d e f g.
    (a ⊗ int (pos 0) ⊕ b ⊗ int (pos 0) ⊕ c ⊗ int (pos 0)) ⊕ (d ⊗ (g ⊗ int (pos 1)) ⊕ e ⊗ (g ⊗ int (pos 0)) ⊕ f ⊗ (g ⊗ int (pos 0))) ≐ g ⊗ d) refl

bent_second : (a b c d e f g : ℚ)
    → (a *ℚ whole (pos 0) +ℚ b *ℚ whole (pos 0) +ℚ c *ℚ whole (pos 0)) +ℚ (d *ℚ (g *ℚ whole (pos 0)) +ℚ e *ℚ (g *ℚ whole (pos 1)) +ℚ f *ℚ (g *ℚ whole (pos 0))) ≡ g *ℚ e
unfolding ◌-ℚ◌
bent_second = solve 7 (λ a b c d e f g.
    (a ⊗ int (pos 0) ⊕ b ⊗ int (pos 0) ⊕ c ⊗ int (pos 0)) ⊕ (d ⊗ (g ⊗ int (pos 0)) ⊕ e ⊗ (g ⊗ int (pos 1)) ⊕ f ⊗ (g ⊗ int (pos 0))) ≐ g ⊗ e) refl

bent_third : (a b c d e f g : ℚ)
    → (a *ℚ whole (pos 0) +ℚ b *ℚ whole (pos 0) +ℚ c *ℚ whole (pos 0)) +ℚ (d *ℚ (g *ℚ whole (pos 0)) +ℚ e *ℚ (g *ℚ whole (pos 0)) +ℚ f *ℚ (g *ℚ whole (pos 1))) ≡ g *ℚ f
unfolding ◌-ℚ◌
bent_third = solve 7 (λ a b c d e f g.
    (a ⊗ int (pos 0) ⊕ b ⊗ int (pos 0) ⊕ c ⊗ int (pos 0)) ⊕ (d ⊗ (g ⊗ int (pos 0)) ⊕ e ⊗ (g ⊗ int (pos 0)) ⊕ f ⊗ (g ⊗ int (pos 1))) ≐ g ⊗ f) refl

-- a twelfth of 6 h² q0 times h / 2
twelfth : (q0 h : ℤ) (d : ℚ) {sum t : ℚ} → sum ≡ whole (pos 6 *ℤ (h *ℤ (h *ℤ q0))) *ℚ t → t ≡ fraction h (pos 2) *ℚ d
    → sum /ℚ whole (pos 12) ≡ fraction (h *ℤ (h *ℤ (h *ℤ q0))) (pos 4) *ℚ d
unfolding ◌-ℚ◌ ◌/ℚ◌
twelfth q0 h d {sum} {t} p r = same_without_factor (whole (pos 12)) (positive_number 11)
    (from₁ sum (times-inverse (positive_number 11)) (solve 2 (λ s i. int (pos 12) ⊗ (s ⊗ i) ≐ s ⊕ s ⊗ (int (pos 12) ⊗ i ⊖ int (pos 1))) refl sum (inverse (whole (pos 12))))
    ∙ p ∙ ap (λ s. whole (pos 6 *ℤ (h *ℤ (h *ℤ q0))) *ℚ s) r
    ∙ ap (λ s. s *ℚ (fraction h (pos 2) *ℚ d)) (whole-product₄ (pos 6) h h q0)
    ∙ from₁ (whole (pos 3) *ℚ (whole h *ℚ (whole h *ℚ whole q0)) *ℚ d) (sym (twice_half h))
    (solve 4 (λ h q g d. int (pos 6) ⊗ (h ⊗ (h ⊗ q)) ⊗ (g ⊗ d)
    ≐ int (pos 3) ⊗ (h ⊗ (h ⊗ (h ⊗ q))) ⊗ d ⊕ int (pos 3) ⊗ (h ⊗ (h ⊗ q)) ⊗ d ⊗ (int (pos 2) ⊗ g ⊖ h)) refl (whole h) (whole q0) (fraction h (pos 2)) d)
    ∙ ap (λ s. whole (pos 3) *ℚ s *ℚ d) (sym (whole-product₄ h h h q0) ∙ sym (fraction-times (h *ℤ (h *ℤ (h *ℤ q0))) (pos 4) (omega (arith, ints))))
    ∙ solve 2 (λ f d. int (pos 3) ⊗ (f ⊗ int (pos 4)) ⊗ d ≐ int (pos 12) ⊗ (f ⊗ d)) refl (fraction (h *ℤ (h *ℤ (h *ℤ q0))) (pos 4)) d)

-- they are h³ q0 / 4 times the entries of d
module _ (q0 : ℤ) (wall : List Item) (m : Matrices) (are : AreMatrices q0 wall m) where
  abbrev pub bending_unit : ℚ
  bending_unit = fraction (wall_thickness wall *ℤ (wall_thickness wall *ℤ (wall_thickness wall *ℤ q0))) (pos 4)

  abbrev half_h : ℚ
  half_h = fraction (wall_thickness wall) (pos 2)

  pub bending_11 : stiffness_11 wall ≡ bending_unit *ℚ m.d.xx
  bending_11 = twelfth q0 (wall_thickness wall) m.d.xx (ap (λ t. t.x) (are bent_x).moments) (bent_first m.b.xx m.b.xy m.b.xs m.d.xx m.d.xy m.d.xs half_h)

  pub bending_12 : stiffness_12 wall ≡ bending_unit *ℚ m.d.xy
  bending_12 = twelfth q0 (wall_thickness wall) m.d.xy (ap (λ t. t.x) (are bent_y).moments) (bent_second m.b.xx m.b.xy m.b.xs m.d.xx m.d.xy m.d.xs half_h)

  pub bending_22 : stiffness_22 wall ≡ bending_unit *ℚ m.d.yy
  bending_22 = twelfth q0 (wall_thickness wall) m.d.yy (ap (λ t. t.y) (are bent_y).moments) (bent_second m.b.xy m.b.yy m.b.ys m.d.xy m.d.yy m.d.ys half_h)

  pub bending_66 : stiffness_66 wall ≡ bending_unit *ℚ m.d.ss
  bending_66 = twelfth q0 (wall_thickness wall) m.d.ss (ap (λ t. t.s) (are twisted).moments) (bent_third m.b.xs m.b.ys m.b.ss m.d.xs m.d.ys m.d.ss half_h)
