-- Twice the energy of one ply: its thickness times the work of its stresses in three strains, with no calculus.
use Rattle.std.proofs.Common.{◌≡◌, refl, sym, ◌∙◌, ap, ap₂, subst₂, ℤ, pos, ◌≤ℤ◌}
use Rattle.lam_fraction.specs.Fraction.{ℚ, whole, fraction, ◌+ℚ◌, ◌*ℚ◌, ◌≤ℚ◌, ◌-ℚ◌, ◌/ℚ◌}
use Rattle.lam_fraction.proofs.Expression.{int, ◌⊕◌, ◌⊗◌}
use Rattle.lam_fraction.proofs.Solver.{◌≐◌}
use Rattle.lam_fraction.proofs.FractionPairs.{whole-le}
use Rattle.lam_fraction.proofs.FractionRing.{whole-product}
use Rattle.lam_fraction.proofs.Rationals.{solve, with_factor, number, ◌*ₙ◌}
use Rattle.lam_fraction.proofs.FractionBounds.{sum_monotone}
use Rattle.lam_stock.specs.PlyLaw.{OffAxis}
use Rattle.lam_job.specs.Wall.{Placed}
use Rattle.lam_job.specs.LaminateStrain.{LaminateStrain, strain_at}
use Rattle.lam_job.specs.Equilibrium.{item_stress, ply_force, ply_moment}
use Rattle.lam_wall.specs.Matrices.{added}
use Rattle.lam_stock.specs.Energy.{twice_energy, strain_squares, LayerEnergyBetween}
use Rattle.lam_fraction.proofs.WholeFractions.{twice_half}
use Rattle.lam_wall.proofs.Wholes.{whole-twice_and_one, whole-one_and_twice}
use Rattle.lam_wall.proofs.LinearSums.{row, combined}
use Rattle.lam_wall.proofs.PlaceSums.{thickness_of, with_places, with_squares}
use Rattle.lam_wall.proofs.Additive.{stress-sum}

-- twelve times the energy: three times the work of the forces in the strains, and the work of the moments in the curvatures
abbrev pub twelve_energies : LaminateStrain → Placed → ℚ
twelve_energies f p = combined (whole (pos 1))
    (ply_force (λ t. t.x) f p) (ply_force (λ t. t.y) f p) (ply_force (λ t. t.s) f p)
    (ply_moment (λ t. t.x) f p) (ply_moment (λ t. t.y) f p) (ply_moment (λ t. t.s) f p)
    (whole (pos 3) *ℚ f.mid_plane.x) (whole (pos 3) *ℚ f.mid_plane.y) (whole (pos 3) *ℚ f.mid_plane.s) f.curvature.x f.curvature.y f.curvature.s

-- the mixed product that belongs to the squares
abbrev pub mixed : OffAxis → OffAxis → ℚ
mixed u v = u.x *ℚ v.x +ℚ u.y *ℚ v.y +ℚ fraction (pos 1) (pos 2) *ℚ (u.s *ℚ v.s)

-- of stresses u and v at the half places a and b, with the ply's thickness t
works : (t a b : ℚ) (u v e k : OffAxis)
    → whole (pos 1) *ℚ (row (whole (pos 2) *ℚ t *ℚ (u.x +ℚ v.x)) (whole (pos 2) *ℚ t *ℚ (u.y +ℚ v.y)) (whole (pos 2) *ℚ t *ℚ (u.s +ℚ v.s)) (whole (pos 3) *ℚ e.x) (whole (pos 3) *ℚ e.y) (whole (pos 3) *ℚ e.s)
    +ℚ row (t *ℚ (u.x *ℚ (whole (pos 2) *ℚ (whole (pos 2) *ℚ a) +ℚ whole (pos 2) *ℚ b) +ℚ v.x *ℚ (whole (pos 2) *ℚ a +ℚ whole (pos 2) *ℚ (whole (pos 2) *ℚ b))))
    (t *ℚ (u.y *ℚ (whole (pos 2) *ℚ (whole (pos 2) *ℚ a) +ℚ whole (pos 2) *ℚ b) +ℚ v.y *ℚ (whole (pos 2) *ℚ a +ℚ whole (pos 2) *ℚ (whole (pos 2) *ℚ b))))
    (t *ℚ (u.s *ℚ (whole (pos 2) *ℚ (whole (pos 2) *ℚ a) +ℚ whole (pos 2) *ℚ b) +ℚ v.s *ℚ (whole (pos 2) *ℚ a +ℚ whole (pos 2) *ℚ (whole (pos 2) *ℚ b))))
    k.x k.y k.s)
    ≡ whole (pos 2) *ℚ t *ℚ (twice_energy u (record { x = e.x +ℚ a *ℚ k.x; y = e.y +ℚ a *ℚ k.y; s = e.s +ℚ a *ℚ k.s })
    +ℚ twice_energy v (record { x = e.x +ℚ b *ℚ k.x; y = e.y +ℚ b *ℚ k.y; s = e.s +ℚ b *ℚ k.s })
    +ℚ twice_energy (added u v) (added (record { x = e.x +ℚ a *ℚ k.x; y = e.y +ℚ a *ℚ k.y; s = e.s +ℚ a *ℚ k.s }) (record { x = e.x +ℚ b *ℚ k.x; y = e.y +ℚ b *ℚ k.y; s = e.s +ℚ b *ℚ k.s })))
unfolding ◌-ℚ◌ ◌/ℚ◌
works t a b u v e k = solve 15 (λ t a b ux uy us vx vy vs ex ey es kx ky ks.
    let m = int (pos 2) ⊗ (int (pos 2) ⊗ a) ⊕ int (pos 2) ⊗ b in
    let n = int (pos 2) ⊗ a ⊕ int (pos 2) ⊗ (int (pos 2) ⊗ b) in
    int (pos 1)
    ⊗ ((int (pos 2) ⊗ t ⊗ (ux ⊕ vx) ⊗ (int (pos 3) ⊗ ex) ⊕ int (pos 2) ⊗ t ⊗ (uy ⊕ vy) ⊗ (int (pos 3) ⊗ ey) ⊕ int (pos 2) ⊗ t ⊗ (us ⊕ vs) ⊗ (int (pos 3) ⊗ es))
    ⊕ (t ⊗ (ux ⊗ m ⊕ vx ⊗ n) ⊗ kx ⊕ t ⊗ (uy ⊗ m ⊕ vy ⊗ n) ⊗ ky ⊕ t ⊗ (us ⊗ m ⊕ vs ⊗ n) ⊗ ks))
    ≐ int (pos 2) ⊗ t ⊗ ((ux ⊗ (ex ⊕ a ⊗ kx) ⊕ uy ⊗ (ey ⊕ a ⊗ ky) ⊕ us ⊗ (es ⊕ a ⊗ ks)) ⊕ (vx ⊗ (ex ⊕ b ⊗ kx) ⊕ vy ⊗ (ey ⊕ b ⊗ ky) ⊕ vs ⊗ (es ⊕ b ⊗ ks))
    ⊕ ((ux ⊕ vx) ⊗ ((ex ⊕ a ⊗ kx) ⊕ (ex ⊕ b ⊗ kx)) ⊕ (uy ⊕ vy) ⊗ ((ey ⊕ a ⊗ ky) ⊕ (ey ⊕ b ⊗ ky)) ⊕ (us ⊕ vs) ⊗ ((es ⊕ a ⊗ ks) ⊕ (es ⊕ b ⊗ ks))))) refl
    t a b u.x u.y u.s v.x v.y v.s e.x e.y e.s k.x k.y k.s

-- the same of the squares, by z of the faces in half µm
squares_of : (h t a b : ℚ) (e k : OffAxis) (q : ℚ)
    → whole (pos 2) *ℚ t *ℚ (q *ℚ ((e.x +ℚ a *ℚ k.x) *ℚ (e.x +ℚ a *ℚ k.x) +ℚ (e.y +ℚ a *ℚ k.y) *ℚ (e.y +ℚ a *ℚ k.y) +ℚ h *ℚ ((e.s +ℚ a *ℚ k.s) *ℚ (e.s +ℚ a *ℚ k.s)))
    +ℚ q *ℚ ((e.x +ℚ b *ℚ k.x) *ℚ (e.x +ℚ b *ℚ k.x) +ℚ (e.y +ℚ b *ℚ k.y) *ℚ (e.y +ℚ b *ℚ k.y) +ℚ h *ℚ ((e.s +ℚ b *ℚ k.s) *ℚ (e.s +ℚ b *ℚ k.s)))
    +ℚ q *ℚ (((e.x +ℚ a *ℚ k.x) +ℚ (e.x +ℚ b *ℚ k.x)) *ℚ ((e.x +ℚ a *ℚ k.x) +ℚ (e.x +ℚ b *ℚ k.x)) +ℚ ((e.y +ℚ a *ℚ k.y) +ℚ (e.y +ℚ b *ℚ k.y)) *ℚ ((e.y +ℚ a *ℚ k.y) +ℚ (e.y +ℚ b *ℚ k.y))
    +ℚ h *ℚ (((e.s +ℚ a *ℚ k.s) +ℚ (e.s +ℚ b *ℚ k.s)) *ℚ ((e.s +ℚ a *ℚ k.s) +ℚ (e.s +ℚ b *ℚ k.s)))))
    ≡ q *ℚ row t (t *ℚ (whole (pos 2) *ℚ a +ℚ whole (pos 2) *ℚ b))
    (t *ℚ (whole (pos 2) *ℚ a *ℚ (whole (pos 2) *ℚ a) +ℚ whole (pos 2) *ℚ a *ℚ (whole (pos 2) *ℚ b) +ℚ whole (pos 2) *ℚ b *ℚ (whole (pos 2) *ℚ b)))
    (whole (pos 12) *ℚ (e.x *ℚ e.x +ℚ e.y *ℚ e.y +ℚ h *ℚ (e.s *ℚ e.s)))
    (whole (pos 6) *ℚ (e.x *ℚ k.x +ℚ e.y *ℚ k.y +ℚ h *ℚ (e.s *ℚ k.s))) (k.x *ℚ k.x +ℚ k.y *ℚ k.y +ℚ h *ℚ (k.s *ℚ k.s))
unfolding ◌-ℚ◌ ◌/ℚ◌
squares_of h t a b e k q = solve 11 (λ h t a b ex ey es kx ky ks q.
    let two_a = int (pos 2) ⊗ a in
    let two_b = int (pos 2) ⊗ b in
    int (pos 2) ⊗ t ⊗ (q ⊗ ((ex ⊕ a ⊗ kx) ⊗ (ex ⊕ a ⊗ kx) ⊕ (ey ⊕ a ⊗ ky) ⊗ (ey ⊕ a ⊗ ky) ⊕ h ⊗ ((es ⊕ a ⊗ ks) ⊗ (es ⊕ a ⊗ ks)))
    ⊕ q ⊗ ((ex ⊕ b ⊗ kx) ⊗ (ex ⊕ b ⊗ kx) ⊕ (ey ⊕ b ⊗ ky) ⊗ (ey ⊕ b ⊗ ky) ⊕ h ⊗ ((es ⊕ b ⊗ ks) ⊗ (es ⊕ b ⊗ ks)))
    ⊕ q ⊗ (((ex ⊕ a ⊗ kx) ⊕ (ex ⊕ b ⊗ kx)) ⊗ ((ex ⊕ a ⊗ kx) ⊕ (ex ⊕ b ⊗ kx)) ⊕ ((ey ⊕ a ⊗ ky) ⊕ (ey ⊕ b ⊗ ky)) ⊗ ((ey ⊕ a ⊗ ky) ⊕ (ey ⊕ b ⊗ ky))
    ⊕ h ⊗ (((es ⊕ a ⊗ ks) ⊕ (es ⊕ b ⊗ ks)) ⊗ ((es ⊕ a ⊗ ks) ⊕ (es ⊕ b ⊗ ks)))))
    ≐ q ⊗ (t ⊗ (int (pos 12) ⊗ (ex ⊗ ex ⊕ ey ⊗ ey ⊕ h ⊗ (es ⊗ es))) ⊕ t ⊗ (two_a ⊕ two_b) ⊗ (int (pos 6) ⊗ (ex ⊗ kx ⊕ ey ⊗ ky ⊕ h ⊗ (es ⊗ ks)))
    ⊕ t ⊗ (two_a ⊗ two_a ⊕ two_a ⊗ two_b ⊕ two_b ⊗ two_b) ⊗ (kx ⊗ kx ⊕ ky ⊗ ky ⊕ h ⊗ (ks ⊗ ks)))) refl
    h t a b e.x e.y e.s k.x k.y k.s q

module _ (f : LaminateStrain) (p : Placed) where
  abbrev t : ℚ
  t = whole p.item.lamina.t

  abbrev at_inner : OffAxis
  at_inner = strain_at f p.inner

  abbrev at_outer : OffAxis
  at_outer = strain_at f p.outer

  force_is : (of : OffAxis → ℚ) → ply_force of f p ≡ whole (pos 2) *ℚ t *ℚ (of (item_stress p.item at_inner) +ℚ of (item_stress p.item at_outer))
  force_is of = ap (λ n. n *ℚ (of (item_stress p.item at_inner) +ℚ of (item_stress p.item at_outer))) (whole-product (pos 2) p.item.lamina.t)

  moment_is : (of : OffAxis → ℚ) → ply_moment of f p
      ≡ t *ℚ (of (item_stress p.item at_inner) *ℚ (whole (pos 2) *ℚ (whole (pos 2) *ℚ fraction p.inner (pos 2)) +ℚ whole (pos 2) *ℚ fraction p.outer (pos 2))
      +ℚ of (item_stress p.item at_outer) *ℚ (whole (pos 2) *ℚ fraction p.inner (pos 2) +ℚ whole (pos 2) *ℚ (whole (pos 2) *ℚ fraction p.outer (pos 2))))
  moment_is of = ap₂ (λ m n. t *ℚ (of (item_stress p.item at_inner) *ℚ m +ℚ of (item_stress p.item at_outer) *ℚ n))
      (whole-twice_and_one p.inner p.outer ∙ ap₂ (λ a b. whole (pos 2) *ℚ a +ℚ b) (twice_half p.inner) (twice_half p.outer))
      (whole-one_and_twice p.inner p.outer ∙ ap₂ (λ a b. a +ℚ whole (pos 2) *ℚ b) (twice_half p.inner) (twice_half p.outer))

  pub energies_are : twelve_energies f p
      ≡ whole (pos 2) *ℚ t *ℚ (twice_energy (item_stress p.item at_inner) at_inner +ℚ twice_energy (item_stress p.item at_outer) at_outer
      +ℚ twice_energy (item_stress p.item (added at_inner at_outer)) (added at_inner at_outer))
  energies_are =
      (λ i. combined (whole (pos 1)) (force_is (λ t. t.x) i) (force_is (λ t. t.y) i) (force_is (λ t. t.s) i) (moment_is (λ t. t.x) i) (moment_is (λ t. t.y) i) (moment_is (λ t. t.s) i)
      (whole (pos 3) *ℚ f.mid_plane.x) (whole (pos 3) *ℚ f.mid_plane.y) (whole (pos 3) *ℚ f.mid_plane.s) f.curvature.x f.curvature.y f.curvature.s)
      ∙ works t (fraction p.inner (pos 2)) (fraction p.outer (pos 2)) (item_stress p.item at_inner) (item_stress p.item at_outer) f.mid_plane f.curvature
      ∙ ap (λ s. whole (pos 2) *ℚ t *ℚ (twice_energy (item_stress p.item at_inner) at_inner +ℚ twice_energy (item_stress p.item at_outer) at_outer +ℚ twice_energy s (added at_inner at_outer)))
      (sym (stress-sum p.item at_inner at_outer))

  -- the squares of the same three strains
  abbrev pub all_squares : ℚ
  all_squares = row (thickness_of p) (with_places p) (with_squares p) (whole (pos 12) *ℚ strain_squares f.mid_plane) (whole (pos 6) *ℚ mixed f.mid_plane f.curvature) (strain_squares f.curvature)

  squares_are : (q : ℚ) → whole (pos 2) *ℚ t *ℚ (q *ℚ strain_squares at_inner +ℚ q *ℚ strain_squares at_outer +ℚ q *ℚ strain_squares (added at_inner at_outer)) ≡ q *ℚ all_squares
  squares_are q =
      squares_of (fraction (pos 1) (pos 2)) t (fraction p.inner (pos 2)) (fraction p.outer (pos 2)) f.mid_plane f.curvature q
      ∙ ap₂ (λ a b. q *ℚ row t (t *ℚ (a +ℚ b)) (t *ℚ (a *ℚ a +ℚ a *ℚ b +ℚ b *ℚ b)) (whole (pos 12) *ℚ strain_squares f.mid_plane) (whole (pos 6) *ℚ mixed f.mid_plane f.curvature) (strain_squares f.curvature))
      (sym (twice_half p.inner)) (sym (twice_half p.outer))

  -- ---- the bounds
  module _ (floor q0 : ℤ) (thick : pos 0 ≤ℤ p.item.lamina.t) (between : LayerEnergyBetween floor q0 p.item) where
    t_above : whole (pos 0) ≤ℚ whole (pos 2) *ℚ t
    t_above = number 2 *ₙ (whole-le (pos 0) p.item.lamina.t).1 thick

    pub energies_at_least : whole floor *ℚ all_squares ≤ℚ twelve_energies f p
    energies_at_least = subst₂ ◌≤ℚ◌ (squares_are (whole floor)) (sym energies_are)
        (with_factor (whole (pos 2) *ℚ t) t_above
        (sum_monotone (sum_monotone (between at_inner).0 (between at_outer).0) (between (added at_inner at_outer)).0))

    pub energies_at_most : twelve_energies f p ≤ℚ whole q0 *ℚ all_squares
    energies_at_most = subst₂ ◌≤ℚ◌ (sym energies_are) (squares_are (whole q0))
        (with_factor (whole (pos 2) *ℚ t) t_above
        (sum_monotone (sum_monotone (between at_inner).1 (between at_outer).1) (between (added at_inner at_outer)).1))
