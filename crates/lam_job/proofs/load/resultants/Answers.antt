use Rattle.std.proofs.Common.{refl, subst, pos, ◌*ℤ◌, ◌+ℤ◌}
use Rattle.std.proofs.lemmas.Int.{to_z-of_z}
use mir.Syntax.{w64}
use Rattle.lam_job.specs.Ranges.{IsKind}
use Rattle.lam_job.specs.LoadOf as spec
use Rattle.lam_job.specs.declared.case.CaseKind.TheVariants.{Resultants, Cylinder}
use Rattle.lam_job.proofs.LoadFits.{force_fits, quarters_fit, moment_fits, axial_fits, end_fits}
use Rattle.lam_job.proofs.load.resultants.Goals as goal

pub returns-in-Resultants : goal.returns-in-Resultants
returns-in-Resultants c =
    let k = c.in-Resultants in
    let range : IsKind (Resultants k.nx k.ny k.nxy k.mx k.my k.mxy) = subst IsKind k.is c.case.invariant.kind in
    rw (
      to_z-of_z w64 k.nx (force_fits k.nx range.0),
      to_z-of_z w64 k.ny (force_fits k.ny range.1),
      to_z-of_z w64 k.nxy (force_fits k.nxy range.2),
      to_z-of_z w64 (pos 4 *ℤ k.nx) (quarters_fit k.nx range.0),
      to_z-of_z w64 (pos 4 *ℤ k.ny) (quarters_fit k.ny range.1),
      to_z-of_z w64 (pos 4 *ℤ k.nxy) (quarters_fit k.nxy range.2),
      to_z-of_z w64 k.mx (moment_fits k.mx range.3),
      to_z-of_z w64 k.my (moment_fits k.my range.4),
      to_z-of_z w64 k.mxy (moment_fits k.mxy range.5),
      ← c.case.view_is,
      k.is,
    )
    record { value = refl }

pub returns-in-Cylinder : goal.returns-in-Cylinder
returns-in-Cylinder c =
    let k = c.in-Cylinder in
    let range : IsKind (Cylinder k.pressure k.diameter k.closed k.axial k.mx k.my) = subst IsKind k.is c.case.invariant.kind in
    rw (
      to_z-of_z w64 c.end_force.result (end_fits _ c.end_force.ensures.least c.end_force.ensures.greatest),
      to_z-of_z w64 k.axial (force_fits k.axial range.2),
      to_z-of_z w64 (pos 4 *ℤ k.axial) (quarters_fit k.axial range.2),
      to_z-of_z w64 (c.end_force.result +ℤ pos 4 *ℤ k.axial) (axial_fits c.end_force.result k.axial c.end_force.ensures.least c.end_force.ensures.greatest range.2),
      to_z-of_z w64 c.hoop_force.result (record { sfits = c.hoop_force.type_inv }),
      to_z-of_z w64 k.mx (moment_fits k.mx range.3),
      to_z-of_z w64 k.my (moment_fits k.my range.4),
      ← c.case.view_is,
      k.is,
      c.end_force.ensures.value,
      c.hoop_force.ensures.value,
    )
    record { value = refl {a = spec.load_of (Cylinder k.pressure k.diameter k.closed k.axial k.mx k.my)} }
