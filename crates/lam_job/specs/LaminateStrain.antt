-- The strain of a wall (Jones, classical lamination theory: the strain varies linearly through the thickness).
use Rattle.std.specs.Prelude.{ℤ, pos}
use Rattle.lam_fraction.specs.Fraction.{fraction, ◌+ℚ◌, ◌*ℚ◌}
use Rattle.lam_stock.specs.PlyLaw.{OffAxis}

-- the strains of the mid-plane, and the curvatures per µm, of which the third is the engineering twist, -2 w,xy
pub record LaminateStrain : Type 0 where
  pub mid_plane : OffAxis
  pub curvature : OffAxis

-- the strain at a z in doubled µm
abbrev pub strain_at : LaminateStrain → ℤ → OffAxis
strain_at f z = record {
  x = f.mid_plane.x +ℚ fraction z (pos 2) *ℚ f.curvature.x;
  y = f.mid_plane.y +ℚ fraction z (pos 2) *ℚ f.curvature.y;
  s = f.mid_plane.s +ℚ fraction z (pos 2) *ℚ f.curvature.s;
}
