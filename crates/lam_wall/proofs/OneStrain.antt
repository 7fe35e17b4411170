-- Under a load a wall has at most one laminate strain: the quadratic form is 0 at a difference of two.
use Rattle.std.proofs.Common.{◌≡◌, refl, sym, ◌∙◌, ap₂, subst, pos}
use Rattle.lam_fraction.specs.Fraction.{whole, fraction, ◌+ℚ◌, ◌-ℚ◌, ◌*ℚ◌, ◌≤ℚ◌, ◌/ℚ◌}
use Rattle.lam_fraction.proofs.Expression.{int, ◌⊕◌, ◌⊗◌}
use Rattle.lam_fraction.proofs.Solver.{◌≐◌}
use Rattle.lam_fraction.proofs.Rationals.{solve, without_factor}
use Rattle.lam_fraction.proofs.WholeFractions.{fraction_positive}
use Rattle.lam_stock.specs.PlyLaw.{OffAxis}
use Rattle.lam_job.specs.Wall.{wall_thickness}
use Rattle.lam_stock.specs.Energy.{twice_energy}
use Rattle.lam_wall.specs.Matrices.{Matrices, bending_strain, forces, moments}
use Rattle.lam_wall.specs.Energy.{mean_squares}
use Rattle.lam_wall.specs.QuadraticForm.{quadratic_form, AtMostOneLaminateStrain}
use Rattle.lam_wall.proofs.OffAxes.{none, less, same_is_none, same_of_none}
use Rattle.lam_wall.proofs.Strains.{laminate_strain, strain_is}
use Rattle.lam_wall.proofs.Equilibrium.{equilibrium_by_matrices}
use Rattle.lam_wall.proofs.WallForm.{form_between}
use Rattle.lam_wall.proofs.JointEnergy.{forces-less, moments-less}
use Rattle.lam_wall.proofs.MeanSquares.{no_strain, no_bending}

-- no force and no moment make no energy
no_energy : (m : Matrices) (e k : OffAxis) → forces m e k ≡ none → moments m e k ≡ none → quadratic_form m e k ≡ whole (pos 0)
unfolding ◌-ℚ◌ ◌/ℚ◌
no_energy m e k p q =
    ap₂ (λ n b. twice_energy n e +ℚ twice_energy b k) p q
    ∙ solve 6 (λ a b c x y z. (int (pos 0) ⊗ a ⊕ int (pos 0) ⊗ b ⊕ int (pos 0) ⊗ c) ⊕ (int (pos 0) ⊗ x ⊕ int (pos 0) ⊗ y ⊕ int (pos 0) ⊗ z) ≐ int (pos 0)) refl e.x e.y e.s k.x k.y k.s

pub at_most_one_laminate_strain : AtMostOneLaminateStrain
unfolding ◌-ℚ◌ ◌/ℚ◌
at_most_one_laminate_strain floor q0 wall m load f g floor_above between are solves_f solves_g =
    let h = wall_thickness wall in
    let u = bending_strain h f.curvature in
    let v = bending_strain h g.curvature in
    let e = less f.mid_plane g.mid_plane in
    let k = less u v in
    let b = (equilibrium_by_matrices q0 wall m load f between.scale between.thickness are).0 solves_f in
    let c = (equilibrium_by_matrices q0 wall m load g between.scale between.thickness are).0 solves_g in
    let nothing = no_energy m e k
    (forces-less m f.mid_plane u g.mid_plane v ∙ same_is_none b.forces c.forces)
    (moments-less m f.mid_plane u g.mid_plane v ∙ same_is_none b.moments c.moments) in
    let ratio = fraction floor q0 in
    let least : ratio *ℚ mean_squares e k ≤ℚ ratio *ℚ whole (pos 0) = subst (λ s. ratio *ℚ mean_squares e k ≤ℚ s)
    (nothing ∙ solve 1 (λ r. int (pos 0) ≐ r ⊗ int (pos 0)) refl ratio) (form_between floor q0 wall m e k between are).0 in
    let none_left = without_factor ratio (fraction_positive floor q0 floor_above between.scale) least in
    sym (strain_is h between.thickness f)
    ∙ ap₂ (laminate_strain h) (same_of_none (no_strain e k none_left)) (same_of_none (no_bending e k none_left))
    ∙ strain_is h between.thickness g
