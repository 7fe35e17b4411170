-- Twice the strain energy of a wall, and how it is bounded by its strains: force and moment sums, times the strains and
-- curvatures that they belong to, for each unit of the wall's area, in MPa µm.
use Rattle.std.specs.Prelude.{ℤ, pos, ◌≤ℤ◌, List, All}
use Rattle.lam_fraction.specs.Fraction.{ℚ, whole, ◌+ℚ◌, ◌*ℚ◌, ◌/ℚ◌, ◌≤ℚ◌}
use Rattle.lam_stock.specs.declared.item.Item.{Item}
use Rattle.lam_stock.specs.declared.item.ItemNo.{ItemNo}
use Rattle.lam_stock.specs.PlyLaw.{OffAxis}
use Rattle.lam_stock.specs.Scale.{scale_of}
use Rattle.lam_stock.specs.Energy.{twice_energy, strain_squares, LayerEnergyBetween}
use Rattle.lam_job.specs.Wall.{wall_thickness}
use Rattle.lam_job.specs.Schedule.{items_of}
use Rattle.lam_job.specs.LaminateStrain.{LaminateStrain}
use Rattle.lam_wall.specs.Matrices.{bending_strain}
use Rattle.lam_wall.specs.MatrixLaw.{force_sums, moment_sums}

-- ---- a wall

-- the force sums are in quarters of N/m, and the moment sums in twelfths of MPa µm²
abbrev pub twice_wall_energy : LaminateStrain → List Item → ℚ
twice_wall_energy f wall = twice_energy (force_sums f wall) f.mid_plane /ℚ whole (pos 4) +ℚ twice_energy (moment_sums f wall) f.curvature /ℚ whole (pos 12)

-- the mean of the squares of the strains through a wall: those of the mid-plane, and a third of those that bending adds at
-- the surface
abbrev pub mean_squares : OffAxis → OffAxis → ℚ
mean_squares e k = strain_squares e +ℚ strain_squares k /ℚ whole (pos 3)

-- twice the energy lies between floor and q0, each times the thickness of the wall and the mean squares of its strains
abbrev pub HasEnergyBetween : ℤ → ℤ → List Item → LaminateStrain → Type 0
HasEnergyBetween floor q0 wall f =
    (whole floor *ℚ (whole (wall_thickness wall) *ℚ mean_squares f.mid_plane (bending_strain (wall_thickness wall) f.curvature)) ≤ℚ twice_wall_energy f wall)
    × (twice_wall_energy f wall ≤ℚ whole q0 *ℚ (whole (wall_thickness wall) *ℚ mean_squares f.mid_plane (bending_strain (wall_thickness wall) f.curvature)))

-- ---- the laws

-- For a maker: a wall of items none of which is softer than floor is nowhere softer than floor itself. Whatever
-- strains and bending a load gives it, the load does at least the work that it would do on one layer of stiffness floor
-- and of the wall's thickness, and at most that on one of stiffness q0.
abbrev pub EnergyBetween : Type 0
EnergyBetween = (floor q0 : ℤ) (wall : List Item) (f : LaminateStrain)
    → All (λ i. pos 0 ≤ℤ i.lamina.t) wall → All (LayerEnergyBetween floor q0) wall
    → HasEnergyBetween floor q0 wall f

-- so it is for each wall of a catalogue, between the catalogue's own floor and q0
abbrev pub CatalogueEnergy : List Item → Type 0
CatalogueEnergy stock = (numbers : List ItemNo) (f : LaminateStrain)
    → HasEnergyBetween (scale_of stock).floor (scale_of stock).q0 (items_of stock numbers) f
