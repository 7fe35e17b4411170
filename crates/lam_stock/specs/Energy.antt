-- The strain energy of a layer, and the sum of the squares of its strains: neither changes with the axes.
use Rattle.std.specs.Prelude.{ℤ, pos}
use Rattle.lam_fraction.specs.Fraction.{ℚ, whole, fraction, ◌+ℚ◌, ◌*ℚ◌, ◌≤ℚ◌}
use Rattle.lam_stock.specs.declared.item.Item.{Item}
use Rattle.lam_stock.specs.PlyLaw.{OffAxis, OnAxis, layer_stress}

-- twice the strain energy of a stress at a strain for each unit of volume, in MPa, in laminate axes
abbrev pub twice_energy : OffAxis → OffAxis → ℚ
twice_energy t e = t.x *ℚ e.x +ℚ t.y *ℚ e.y +ℚ t.s *ℚ e.s

-- and in ply axes
abbrev pub twice_energy_on_axis : OnAxis → OnAxis → ℚ
twice_energy_on_axis t e = t.along *ℚ e.along +ℚ t.across *ℚ e.across +ℚ t.shear *ℚ e.shear

-- the sum of the squares of strains: ex² + ey² + g²/2 with the engineering shear strain g, in laminate axes
abbrev pub strain_squares : OffAxis → ℚ
strain_squares e = e.x *ℚ e.x +ℚ e.y *ℚ e.y +ℚ fraction (pos 1) (pos 2) *ℚ (e.s *ℚ e.s)

-- and in ply axes
abbrev pub strain_squares_on_axis : OnAxis → ℚ
strain_squares_on_axis e = e.along *ℚ e.along +ℚ e.across *ℚ e.across +ℚ fraction (pos 1) (pos 2) *ℚ (e.shear *ℚ e.shear)

-- twice the strain energy of an item's layer at each strain lies between floor and q0 times the sum of its squares
abbrev pub LayerEnergyBetween : ℤ → ℤ → Item → Type 0
LayerEnergyBetween floor q0 i = (e : OffAxis)
    → (whole floor *ℚ strain_squares e ≤ℚ twice_energy (layer_stress i.kind i.lamina i.dir e) e)
    × (twice_energy (layer_stress i.kind i.lamina i.dir e) e ≤ℚ whole q0 *ℚ strain_squares e)
