-- The force and the moment of one ply, by its shares in the matrices.
use Rattle.std.proofs.Common.{◌≡◌, refl, sym, ◌∙◌, ap, ap₂, ℤ, pos, ◌*ℤ◌, ◌<ℤ◌}
use Rattle.lam_fraction.specs.Fraction.{ℚ, whole, fraction, ◌+ℚ◌, ◌*ℚ◌, opposite, ◌-ℚ◌, ◌/ℚ◌}
use Rattle.lam_fraction.proofs.Expression.{int, ◌⊕◌, ◌⊖◌, ◌⊗◌, minus}
use Rattle.lam_fraction.proofs.Solver.{◌≐◌}
use Rattle.lam_fraction.proofs.FractionRing.{whole-product}
use Rattle.lam_fraction.proofs.Rationals.{solve, from₁, from₂}
use Rattle.lam_stock.specs.PlyLaw.{OffAxis}
use Rattle.lam_job.specs.Wall.{Placed}
use Rattle.lam_job.specs.LaminateStrain.{LaminateStrain, strain_at}
use Rattle.lam_job.specs.Equilibrium.{item_stress, ply_force, ply_moment}
use Rattle.lam_wall.specs.Matrices.{extension_share, coupling_share, bending_share, bending_strain}
use Rattle.lam_fraction.proofs.WholeFractions.{twice_half, whole-product₃, whole-product₄}
use Rattle.lam_wall.proofs.Wholes.{whole-twice_and_one, whole-one_and_twice}
use Rattle.lam_wall.proofs.Shares.{thickness_is, coupling_is, bending_is}
use Rattle.lam_wall.proofs.LinearSums.{row, combined}

-- Half places a and b of the two faces, half the thickness h of the wall; m, c and d are the shares of the ply, and
-- 2 h m is its thickness.
force_by_shares : (a b h q m c u v w x y z k l n : ℚ) → c *ℚ (whole (pos 2) *ℚ h) ≡ m *ℚ (a +ℚ b)
    → whole (pos 2) *ℚ (m *ℚ (whole (pos 2) *ℚ h))
    *ℚ (q *ℚ row u v w (x +ℚ a *ℚ k) (y +ℚ a *ℚ l) (z +ℚ a *ℚ n) +ℚ q *ℚ row u v w (x +ℚ b *ℚ k) (y +ℚ b *ℚ l) (z +ℚ b *ℚ n))
    ≡ combined (whole (pos 4) *ℚ (whole (pos 2) *ℚ h *ℚ q)) (m *ℚ u) (m *ℚ v) (m *ℚ w) (c *ℚ u) (c *ℚ v) (c *ℚ w) x y z (h *ℚ k) (h *ℚ l) (h *ℚ n)
unfolding ◌-ℚ◌ ◌/ℚ◌
force_by_shares a b h q m c u v w x y z k l n e =
    from₁ (opposite (whole (pos 4) *ℚ h *ℚ q *ℚ row u v w k l n)) e
    (solve 15 (λ a b h q m c u v w x y z k l n.
    int (pos 2) ⊗ (m ⊗ (int (pos 2) ⊗ h))
    ⊗ (q ⊗ (u ⊗ (x ⊕ a ⊗ k) ⊕ v ⊗ (y ⊕ a ⊗ l) ⊕ w ⊗ (z ⊕ a ⊗ n)) ⊕ q ⊗ (u ⊗ (x ⊕ b ⊗ k) ⊕ v ⊗ (y ⊕ b ⊗ l) ⊕ w ⊗ (z ⊕ b ⊗ n)))
    ≐ int (pos 4) ⊗ (int (pos 2) ⊗ h ⊗ q)
    ⊗ ((m ⊗ u ⊗ x ⊕ m ⊗ v ⊗ y ⊕ m ⊗ w ⊗ z) ⊕ (c ⊗ u ⊗ (h ⊗ k) ⊕ c ⊗ v ⊗ (h ⊗ l) ⊕ c ⊗ w ⊗ (h ⊗ n)))
    ⊕ minus (int (pos 4) ⊗ h ⊗ q ⊗ (u ⊗ k ⊕ v ⊗ l ⊕ w ⊗ n)) ⊗ (c ⊗ (int (pos 2) ⊗ h) ⊖ m ⊗ (a ⊕ b))) refl
    a b h q m c u v w x y z k l n)

moment_by_shares : (a b h q m c d u v w x y z k l n : ℚ) → c *ℚ (whole (pos 2) *ℚ h) ≡ m *ℚ (a +ℚ b)
    → d *ℚ (whole (pos 3) *ℚ (h *ℚ h)) ≡ m *ℚ (a *ℚ a +ℚ a *ℚ b +ℚ b *ℚ b)
    → m *ℚ (whole (pos 2) *ℚ h)
    *ℚ (q *ℚ row u v w (x +ℚ a *ℚ k) (y +ℚ a *ℚ l) (z +ℚ a *ℚ n) *ℚ (whole (pos 2) *ℚ (whole (pos 2) *ℚ a) +ℚ whole (pos 2) *ℚ b)
    +ℚ q *ℚ row u v w (x +ℚ b *ℚ k) (y +ℚ b *ℚ l) (z +ℚ b *ℚ n) *ℚ (whole (pos 2) *ℚ a +ℚ whole (pos 2) *ℚ (whole (pos 2) *ℚ b)))
    ≡ combined (whole (pos 6) *ℚ (whole (pos 2) *ℚ h *ℚ (whole (pos 2) *ℚ h *ℚ q))) (c *ℚ u) (c *ℚ v) (c *ℚ w) (d *ℚ u) (d *ℚ v) (d *ℚ w) x y z (h *ℚ k) (h *ℚ l) (h *ℚ n)
unfolding ◌-ℚ◌ ◌/ℚ◌
moment_by_shares a b h q m c d u v w x y z k l n e g =
    from₂ (opposite (whole (pos 12) *ℚ h *ℚ q *ℚ row u v w x y z)) e (opposite (whole (pos 8) *ℚ h *ℚ q *ℚ row u v w k l n)) g
    (solve 16 (λ a b h q m c d u v w x y z k l n.
    m ⊗ (int (pos 2) ⊗ h)
    ⊗ (q ⊗ (u ⊗ (x ⊕ a ⊗ k) ⊕ v ⊗ (y ⊕ a ⊗ l) ⊕ w ⊗ (z ⊕ a ⊗ n)) ⊗ (int (pos 2) ⊗ (int (pos 2) ⊗ a) ⊕ int (pos 2) ⊗ b)
    ⊕ q ⊗ (u ⊗ (x ⊕ b ⊗ k) ⊕ v ⊗ (y ⊕ b ⊗ l) ⊕ w ⊗ (z ⊕ b ⊗ n)) ⊗ (int (pos 2) ⊗ a ⊕ int (pos 2) ⊗ (int (pos 2) ⊗ b)))
    ≐ int (pos 6) ⊗ (int (pos 2) ⊗ h ⊗ (int (pos 2) ⊗ h ⊗ q))
    ⊗ ((c ⊗ u ⊗ x ⊕ c ⊗ v ⊗ y ⊕ c ⊗ w ⊗ z) ⊕ (d ⊗ u ⊗ (h ⊗ k) ⊕ d ⊗ v ⊗ (h ⊗ l) ⊕ d ⊗ w ⊗ (h ⊗ n)))
    ⊕ minus (int (pos 12) ⊗ h ⊗ q ⊗ (u ⊗ x ⊕ v ⊗ y ⊕ w ⊗ z)) ⊗ (c ⊗ (int (pos 2) ⊗ h) ⊖ m ⊗ (a ⊕ b))
    ⊕ minus (int (pos 8) ⊗ h ⊗ q ⊗ (u ⊗ k ⊕ v ⊗ l ⊕ w ⊗ n)) ⊗ (d ⊗ (int (pos 3) ⊗ (h ⊗ h)) ⊖ m ⊗ (a ⊗ a ⊕ a ⊗ b ⊕ b ⊗ b))) refl
    a b h q m c d u v w x y z k l n)

-- A component of the stress of the ply is q0 times the linear form of a row u, v, w of its stiffness.
module _ (q0 h : ℤ) (above : pos 0 <ℤ h) (f : LaminateStrain) (p : Placed) (of : OffAxis → ℚ) (u v w : ℚ)
    (by_row : (e : OffAxis) → of (item_stress p.item e) ≡ whole q0 *ℚ row u v w e.x e.y e.s) where
  abbrev k : OffAxis
  k = bending_strain h f.curvature

  pub ply_force_is : ply_force of f p
      ≡ combined (whole (pos 4 *ℤ (h *ℤ q0)))
      (extension_share h p *ℚ u) (extension_share h p *ℚ v) (extension_share h p *ℚ w)
      (coupling_share h p *ℚ u) (coupling_share h p *ℚ v) (coupling_share h p *ℚ w)
      f.mid_plane.x f.mid_plane.y f.mid_plane.s k.x k.y k.s
  ply_force_is =
      ap₂ ◌*ℚ◌ (whole-product (pos 2) p.item.lamina.t ∙ ap (λ t. whole (pos 2) *ℚ t) (thickness_is h above p))
      (ap₂ ◌+ℚ◌ (by_row (strain_at f p.inner)) (by_row (strain_at f p.outer)))
      ∙ force_by_shares (fraction p.inner (pos 2)) (fraction p.outer (pos 2)) (fraction h (pos 2)) (whole q0) (extension_share h p) (coupling_share h p)
      u v w f.mid_plane.x f.mid_plane.y f.mid_plane.s f.curvature.x f.curvature.y f.curvature.s (coupling_is h above p)
      ∙ ap (λ n. combined n
      (extension_share h p *ℚ u) (extension_share h p *ℚ v) (extension_share h p *ℚ w)
      (coupling_share h p *ℚ u) (coupling_share h p *ℚ v) (coupling_share h p *ℚ w)
      f.mid_plane.x f.mid_plane.y f.mid_plane.s k.x k.y k.s)
      (ap (λ t. whole (pos 4) *ℚ (t *ℚ whole q0)) (sym (twice_half h)) ∙ sym (whole-product₃ (pos 4) h q0))

  pub ply_moment_is : ply_moment of f p
      ≡ combined (whole (pos 6 *ℤ (h *ℤ (h *ℤ q0))))
      (coupling_share h p *ℚ u) (coupling_share h p *ℚ v) (coupling_share h p *ℚ w)
      (bending_share h p *ℚ u) (bending_share h p *ℚ v) (bending_share h p *ℚ w)
      f.mid_plane.x f.mid_plane.y f.mid_plane.s k.x k.y k.s
  ply_moment_is =
      ap₂ ◌*ℚ◌ (thickness_is h above p)
      (ap₂ ◌+ℚ◌
      (ap₂ ◌*ℚ◌ (by_row (strain_at f p.inner))
      (whole-twice_and_one p.inner p.outer ∙ ap₂ (λ a b. whole (pos 2) *ℚ a +ℚ b) (twice_half p.inner) (twice_half p.outer)))
      (ap₂ ◌*ℚ◌ (by_row (strain_at f p.outer))
      (whole-one_and_twice p.inner p.outer ∙ ap₂ (λ a b. a +ℚ whole (pos 2) *ℚ b) (twice_half p.inner) (twice_half p.outer))))
      ∙ moment_by_shares (fraction p.inner (pos 2)) (fraction p.outer (pos 2)) (fraction h (pos 2)) (whole q0) (extension_share h p) (coupling_share h p) (bending_share h p)
      u v w f.mid_plane.x f.mid_plane.y f.mid_plane.s f.curvature.x f.curvature.y f.curvature.s (coupling_is h above p) (bending_is h above p)
      ∙ ap (λ n. combined n
      (coupling_share h p *ℚ u) (coupling_share h p *ℚ v) (coupling_share h p *ℚ w)
      (bending_share h p *ℚ u) (bending_share h p *ℚ v) (bending_share h p *ℚ w)
      f.mid_plane.x f.mid_plane.y f.mid_plane.s k.x k.y k.s)
      (ap (λ t. whole (pos 6) *ℚ (t *ℚ (t *ℚ whole q0))) (sym (twice_half h)) ∙ sym (whole-product₄ (pos 6) h h q0))
