-- Under each load a wall has a laminate strain: its quadratic form is above 0, so that its matrices can be solved for the
-- load.
use Rattle.std.proofs.Common.{◌∙◌, ap}
use Rattle.lam_fraction.proofs.Rationals.{below_then_at_most, ◌*ₚ◌}
use Rattle.lam_job.specs.Wall.{wall_thickness}
use Rattle.lam_fraction.proofs.WholeFractions.{fraction_positive}
use Rattle.lam_wall.specs.Matrices.{forces, moments}
use Rattle.lam_wall.specs.MatrixLaw.{load_forces, load_moments}
use Rattle.lam_wall.specs.QuadraticForm.{HasLaminateStrain}
use Rattle.lam_wall.proofs.Equilibrium.{equilibrium_by_matrices}
use Rattle.lam_wall.proofs.Solutions.{solution, IsFormDefinite}
use Rattle.lam_wall.proofs.Strains.{laminate_strain, bending_of_curvature}
use Rattle.lam_wall.proofs.WallForm.{form_between}

pub has_laminate_strain : HasLaminateStrain
has_laminate_strain floor q0 wall m load floor_above between are =
    let h = wall_thickness wall in
    let definite : IsFormDefinite m = λ e k some.
    below_then_at_most (fraction_positive floor q0 floor_above between.scale *ₚ some) (form_between floor q0 wall m e k between are).0 in
    let s = solution m definite (load_forces q0 h load) (load_moments q0 h load) in
    let f = laminate_strain h s.strain s.bending in
    let bent = bending_of_curvature h between.thickness s.bending in (
      f,
      (equilibrium_by_matrices q0 wall m load f between.scale between.thickness are).1 (record {
        forces = ap (λ k. forces m s.strain k) bent ∙ s.forces_are;
        moments = ap (λ k. moments m s.strain k) bent ∙ s.moments_are;
      }),
    )
