-- Equilibrium of a wall as six linear equations.
use Rattle.std.proofs.Common.{◌≡◌, ◌↔◌, refl, sym, ◌∙◌, ap, ℤ, pos, ◌*ℤ◌, ◌<ℤ◌, arith}
use Rattle.std.proofs.lemmas.Int.{ints}
use Rattle.lam_fraction.specs.inside.WholeNumbers.{product_positive}
use Rattle.lam_fraction.specs.Fraction.{ℚ, whole, fraction, ◌*ℚ◌, ◌<ℚ◌, ◌-ℚ◌, ◌/ℚ◌}
use Rattle.lam_fraction.proofs.Expression.{int, ◌⊗◌}
use Rattle.lam_fraction.proofs.Solver.{◌≐◌}
use Rattle.lam_fraction.proofs.FractionRing.{whole-product}
use Rattle.lam_fraction.proofs.Rationals.{solve, same_without_factor, fraction_times}
use Rattle.lam_fraction.proofs.FractionBounds.{fraction-times, whole_positive}
use Rattle.lam_stock.proofs.EnergyTransformed.{same_off_axis}
use Rattle.lam_job.specs.Wall.{wall_thickness}
use Rattle.lam_wall.specs.MatrixLaw.{EquilibriumByMatrices}

-- a sum that is k times x is n where x is n over k
scaled : {sum x goal n : ℚ} (k : ℚ) → whole (pos 0) <ℚ k → k *ℚ goal ≡ n → sum ≡ k *ℚ x → (sum ≡ n) ↔ (x ≡ goal)
scaled k above is s = ((λ e. same_without_factor k above (sym s ∙ e ∙ sym is)), (λ e. s ∙ ap (λ t. k *ℚ t) e ∙ is))

moment_goal : (m l : ℤ) → pos 0 <ℤ l → whole (pos 6 *ℤ l) *ℚ fraction (pos 2000 *ℤ m) l ≡ whole (pos 12000 *ℤ m)
unfolding ◌-ℚ◌ ◌/ℚ◌
moment_goal m l above =
    ap (λ s. s *ℚ fraction (pos 2000 *ℤ m) l) (whole-product (pos 6) l)
    ∙ solve 2 (λ l f. int (pos 6) ⊗ l ⊗ f ≐ int (pos 6) ⊗ (f ⊗ l)) refl (whole l) (fraction (pos 2000 *ℤ m) l)
    ∙ ap (λ s. whole (pos 6) *ℚ s) (fraction-times (pos 2000 *ℤ m) l above ∙ whole-product (pos 2000) m)
    ∙ solve 1 (λ m. int (pos 6) ⊗ (int (pos 2000) ⊗ m) ≐ int (pos 12000) ⊗ m) refl (whole m)
    ∙ sym (whole-product (pos 12000) m)

pub equilibrium_by_matrices : EquilibriumByMatrices
equilibrium_by_matrices q0 wall m load f scale_above above are = (
  (λ s. record {
    forces = same_off_axis ((force load.nx (ap (λ t. t.x) (are f).forces)).0 s.nx) ((force load.ny (ap (λ t. t.y) (are f).forces)).0 s.ny) ((force load.nxy (ap (λ t. t.s) (are f).forces)).0 s.nxy);
    moments = same_off_axis ((moment load.mx (ap (λ t. t.x) (are f).moments)).0 s.mx) ((moment load.my (ap (λ t. t.y) (are f).moments)).0 s.my) ((moment load.mxy (ap (λ t. t.s) (are f).moments)).0 s.mxy);
  }),
  (λ s. record {
    nx = (force load.nx (ap (λ t. t.x) (are f).forces)).1 (ap (λ t. t.x) s.forces);
    ny = (force load.ny (ap (λ t. t.y) (are f).forces)).1 (ap (λ t. t.y) s.forces);
    nxy = (force load.nxy (ap (λ t. t.s) (are f).forces)).1 (ap (λ t. t.s) s.forces);
    mx = (moment load.mx (ap (λ t. t.x) (are f).moments)).1 (ap (λ t. t.x) s.moments);
    my = (moment load.my (ap (λ t. t.y) (are f).moments)).1 (ap (λ t. t.y) s.moments);
    mxy = (moment load.mxy (ap (λ t. t.s) (are f).moments)).1 (ap (λ t. t.s) s.moments);
  }),
)
  where
    stretch : pos 0 <ℤ (wall_thickness wall *ℤ q0)
    stretch = product_positive (wall_thickness wall) q0 above scale_above

    bend : pos 0 <ℤ (wall_thickness wall *ℤ (wall_thickness wall *ℤ q0))
    bend = product_positive (wall_thickness wall) (wall_thickness wall *ℤ q0) above stretch

    four : pos 0 <ℤ (pos 4 *ℤ (wall_thickness wall *ℤ q0))
    four = product_positive (pos 4) (wall_thickness wall *ℤ q0) (omega (arith, ints)) stretch

    six : pos 0 <ℤ (pos 6 *ℤ (wall_thickness wall *ℤ (wall_thickness wall *ℤ q0)))
    six = product_positive (pos 6) (wall_thickness wall *ℤ (wall_thickness wall *ℤ q0)) (omega (arith, ints)) bend

    force : {sum x : ℚ} (n : ℤ) → sum ≡ whole (pos 4 *ℤ (wall_thickness wall *ℤ q0)) *ℚ x
        → (sum ≡ whole n) ↔ (x ≡ fraction n (pos 4 *ℤ (wall_thickness wall *ℤ q0)))
    force n e = scaled (whole (pos 4 *ℤ (wall_thickness wall *ℤ q0))) (whole_positive four) (fraction_times n (pos 4 *ℤ (wall_thickness wall *ℤ q0)) four) e

    moment : {sum x : ℚ} (n : ℤ) → sum ≡ whole (pos 6 *ℤ (wall_thickness wall *ℤ (wall_thickness wall *ℤ q0))) *ℚ x
        → (sum ≡ whole (pos 12000 *ℤ n)) ↔ (x ≡ fraction (pos 2000 *ℤ n) (wall_thickness wall *ℤ (wall_thickness wall *ℤ q0)))
    moment n e = scaled (whole (pos 6 *ℤ (wall_thickness wall *ℤ (wall_thickness wall *ℤ q0)))) (whole_positive six)
        (moment_goal n (wall_thickness wall *ℤ (wall_thickness wall *ℤ q0)) bend) e
