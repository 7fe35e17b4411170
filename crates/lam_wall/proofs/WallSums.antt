-- The force and moment sums of a wall by its matrices.
use Rattle.std.proofs.Common.{◌≡◌, refl, sym, ◌∙◌, ap, subst, ℤ, pos, ◌*ℤ◌, ◌<ℤ◌, List, arith}
use Rattle.std.proofs.lemmas.Int.{ints}
use Rattle.lam_fraction.specs.Fraction.{ℚ, whole, ◌*ℚ◌, ◌/ℚ◌, ◌-ℚ◌, ◌≤ℚ◌}
use Rattle.lam_fraction.specs.Sums.{sum_over}
use Rattle.lam_fraction.proofs.Expression.{◌⊗◌}
use Rattle.lam_fraction.proofs.Solver.{◌≐◌}
use Rattle.lam_fraction.proofs.Rationals.{solve, reflexive}
use Rattle.lam_fraction.proofs.FractionBounds.{quotient-times}
use Rattle.lam_fraction.proofs.FractionPairs.{whole-le}
use Rattle.lam_fraction.proofs.FractionSums.{sum-same, of_each}
use Rattle.lam_stock.specs.declared.item.Item.{Item}
use Rattle.lam_stock.specs.PlyLaw.{OffAxis}
use Rattle.lam_stock.proofs.EnergyTransformed.{same_off_axis}
use Rattle.lam_job.specs.Wall.{Placed, placed_plies, wall_thickness}
use Rattle.lam_job.specs.LaminateStrain.{LaminateStrain}
use Rattle.lam_job.specs.Equilibrium.{item_stress, ply_force, ply_moment, force_sum, moment_sum}
use Rattle.lam_wall.specs.Matrices.{extension_share, coupling_share, bending_share, bending_strain}
use Rattle.lam_wall.specs.MatrixLaw.{SumsByMatrices}
use Rattle.lam_wall.proofs.LinearSums.{row, combined, sum-combined}
use Rattle.lam_wall.proofs.PlySums.{ply_force_is, ply_moment_is}

-- A component of the stress of each item is q0 times the linear form of a row u, v, w of its stiffness.
module _ (q0 : ℤ) (wall : List Item) (above : pos 0 <ℤ wall_thickness wall) (f : LaminateStrain) (of : OffAxis → ℚ) (u v w : Item → ℚ)
    (by_row : (i : Item) (e : OffAxis) → of (item_stress i e) ≡ whole q0 *ℚ row (u i) (v i) (w i) e.x e.y e.s) where
  abbrev h : ℤ
  h = wall_thickness wall

  abbrev k : OffAxis
  k = bending_strain h f.curvature

  abbrev entry : (ℤ → Placed → ℚ) → (Item → ℚ) → ℚ
  entry share u = sum_over (λ p. share h p *ℚ u p.item) (placed_plies wall)

  pub force_sum_is : force_sum of f wall
      ≡ combined (whole (pos 4 *ℤ (h *ℤ q0))) (entry extension_share u) (entry extension_share v) (entry extension_share w)
      (entry coupling_share u) (entry coupling_share v) (entry coupling_share w) f.mid_plane.x f.mid_plane.y f.mid_plane.s k.x k.y k.s
  force_sum_is =
      sum-same (ply_force of f) (λ p. combined (whole (pos 4 *ℤ (h *ℤ q0)))
      (extension_share h p *ℚ u p.item) (extension_share h p *ℚ v p.item) (extension_share h p *ℚ w p.item)
      (coupling_share h p *ℚ u p.item) (coupling_share h p *ℚ v p.item) (coupling_share h p *ℚ w p.item)
      f.mid_plane.x f.mid_plane.y f.mid_plane.s k.x k.y k.s) (placed_plies wall)
      (of_each _ (placed_plies wall) (λ p. ply_force_is q0 h above f p of (u p.item) (v p.item) (w p.item) (by_row p.item)))
      ∙ sum-combined (whole (pos 4 *ℤ (h *ℤ q0)))
      (λ p. extension_share h p *ℚ u p.item) (λ p. extension_share h p *ℚ v p.item) (λ p. extension_share h p *ℚ w p.item)
      (λ p. coupling_share h p *ℚ u p.item) (λ p. coupling_share h p *ℚ v p.item) (λ p. coupling_share h p *ℚ w p.item)
      f.mid_plane.x f.mid_plane.y f.mid_plane.s k.x k.y k.s (placed_plies wall)

  pub moment_sum_is : moment_sum of f wall
      ≡ combined (whole (pos 6 *ℤ (h *ℤ (h *ℤ q0)))) (entry coupling_share u) (entry coupling_share v) (entry coupling_share w)
      (entry bending_share u) (entry bending_share v) (entry bending_share w) f.mid_plane.x f.mid_plane.y f.mid_plane.s k.x k.y k.s
  moment_sum_is =
      sum-same (ply_moment of f) (λ p. combined (whole (pos 6 *ℤ (h *ℤ (h *ℤ q0))))
      (coupling_share h p *ℚ u p.item) (coupling_share h p *ℚ v p.item) (coupling_share h p *ℚ w p.item)
      (bending_share h p *ℚ u p.item) (bending_share h p *ℚ v p.item) (bending_share h p *ℚ w p.item)
      f.mid_plane.x f.mid_plane.y f.mid_plane.s k.x k.y k.s) (placed_plies wall)
      (of_each _ (placed_plies wall) (λ p. ply_moment_is q0 h above f p of (u p.item) (v p.item) (w p.item) (by_row p.item)))
      ∙ sum-combined (whole (pos 6 *ℤ (h *ℤ (h *ℤ q0))))
      (λ p. coupling_share h p *ℚ u p.item) (λ p. coupling_share h p *ℚ v p.item) (λ p. coupling_share h p *ℚ w p.item)
      (λ p. bending_share h p *ℚ u p.item) (λ p. bending_share h p *ℚ v p.item) (λ p. bending_share h p *ℚ w p.item)
      f.mid_plane.x f.mid_plane.y f.mid_plane.s k.x k.y k.s (placed_plies wall)

-- a number that is not 0, as a fraction
not_none : {q0 : ℤ} → ¬ (q0 ≡ pos 0) → ¬ (whole q0 ≡ whole (pos 0))
not_none {q0} h e =
    let most = (whole-le q0 (pos 0)).0 (subst (λ x. x ≤ℚ whole (pos 0)) (sym e) (reflexive (whole (pos 0)))) in
    let least = (whole-le (pos 0) q0).0 (subst (λ x. whole (pos 0) ≤ℚ x) (sym e) (reflexive (whole (pos 0)))) in
    h (omega (arith, ints, most, least))

pub above_not_none : {q0 : ℤ} → pos 0 <ℤ q0 → ¬ (q0 ≡ pos 0)
above_not_none above e = omega (arith, ints, above, e)

-- a stress over q0, times q0
back : (q0 : ℤ) → ¬ (q0 ≡ pos 0) → {t u : ℚ} → u ≡ t /ℚ whole q0 → t ≡ whole q0 *ℚ u
unfolding ◌-ℚ◌ ◌/ℚ◌
back q0 scale {t} {u} e =
    sym (quotient-times t (whole q0) (not_none scale))
    ∙ ap (λ s. s *ℚ whole q0) (sym e) ∙ solve 2 (λ u q. u ⊗ q ≐ q ⊗ u) refl u (whole q0)

pub sums_by_matrices : SumsByMatrices
sums_by_matrices q0 stiffness wall scale are above f = record {
  forces = same_off_axis
      (force_sum_is q0 wall above f (λ t. t.x) (λ i. (stiffness i).xx) (λ i. (stiffness i).xy) (λ i. (stiffness i).xs) x_row)
      (force_sum_is q0 wall above f (λ t. t.y) (λ i. (stiffness i).xy) (λ i. (stiffness i).yy) (λ i. (stiffness i).ys) y_row)
      (force_sum_is q0 wall above f (λ t. t.s) (λ i. (stiffness i).xs) (λ i. (stiffness i).ys) (λ i. (stiffness i).ss) s_row);
  moments = same_off_axis
      (moment_sum_is q0 wall above f (λ t. t.x) (λ i. (stiffness i).xx) (λ i. (stiffness i).xy) (λ i. (stiffness i).xs) x_row)
      (moment_sum_is q0 wall above f (λ t. t.y) (λ i. (stiffness i).xy) (λ i. (stiffness i).yy) (λ i. (stiffness i).ys) y_row)
      (moment_sum_is q0 wall above f (λ t. t.s) (λ i. (stiffness i).xs) (λ i. (stiffness i).ys) (λ i. (stiffness i).ss) s_row);
}
  where
    x_row : (i : Item) (e : OffAxis) → (item_stress i e).x ≡ whole q0 *ℚ row (stiffness i).xx (stiffness i).xy (stiffness i).xs e.x e.y e.s
    x_row i e = back q0 scale (ap (λ t. t.x) ((are i).gives e))

    y_row : (i : Item) (e : OffAxis) → (item_stress i e).y ≡ whole q0 *ℚ row (stiffness i).xy (stiffness i).yy (stiffness i).ys e.x e.y e.s
    y_row i e = back q0 scale (ap (λ t. t.y) ((are i).gives e))

    s_row : (i : Item) (e : OffAxis) → (item_stress i e).s ≡ whole q0 *ℚ row (stiffness i).xs (stiffness i).ys (stiffness i).ss e.x e.y e.s
    s_row i e = back q0 scale (ap (λ t. t.s) ((are i).gives e))
