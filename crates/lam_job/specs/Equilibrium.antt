-- Equilibrium of a wall with a load, ply by ply. The stress of a layer varies linearly between its faces, so its
-- force is its thickness times the mean of its stresses there, and its moment follows from both stresses and their z.
use Rattle.std.specs.Prelude.{◌≡◌, pos, ◌+ℤ◌, ◌*ℤ◌, List}
use Rattle.lam_fraction.specs.Fraction.{ℚ, whole, ◌+ℚ◌, ◌*ℚ◌}
use Rattle.lam_fraction.specs.Sums.{sum_over}
use Rattle.lam_stock.specs.declared.item.Item.{Item}
use Rattle.lam_stock.specs.PlyLaw.{OffAxis, layer_stress}
use Rattle.lam_job.specs.declared.load.Load.{Load}
use Rattle.lam_job.specs.Wall.{Placed, placed_plies}
use Rattle.lam_job.specs.LaminateStrain.{LaminateStrain, strain_at}

-- the stress of an item's layer at a strain of the wall, in MPa
abbrev pub item_stress : Item → OffAxis → OffAxis
item_stress i e = layer_stress i.kind i.lamina i.dir e

-- the stresses of a ply at its inner and its outer face
abbrev pub inner_stress : LaminateStrain → Placed → OffAxis
inner_stress f p = item_stress p.item (strain_at f p.inner)

abbrev pub outer_stress : LaminateStrain → Placed → OffAxis
outer_stress f p = item_stress p.item (strain_at f p.outer)

-- a component of the force of a ply, in quarters of N/m
abbrev pub ply_force : (OffAxis → ℚ) → LaminateStrain → Placed → ℚ
ply_force of f p = whole (pos 2 *ℤ p.item.lamina.t) *ℚ (of (inner_stress f p) +ℚ of (outer_stress f p))

-- a component of the moment of a ply about the mid-plane, in 12000ths of mN
abbrev pub ply_moment : (OffAxis → ℚ) → LaminateStrain → Placed → ℚ
ply_moment of f p =
    whole p.item.lamina.t
    *ℚ (of (inner_stress f p) *ℚ whole (pos 2 *ℤ p.inner +ℤ p.outer) +ℚ of (outer_stress f p) *ℚ whole (p.inner +ℤ pos 2 *ℤ p.outer))

abbrev pub force_sum : (OffAxis → ℚ) → LaminateStrain → List Item → ℚ
force_sum of f wall = sum_over (ply_force of f) (placed_plies wall)

abbrev pub moment_sum : (OffAxis → ℚ) → LaminateStrain → List Item → ℚ
moment_sum of f wall = sum_over (ply_moment of f) (placed_plies wall)

-- the laminate strain is one of the wall under the load
pub record Solves (wall : List Item) (load : Load) (f : LaminateStrain) : Type 0 where
  pub nx : force_sum (λ t. t.x) f wall ≡ whole load.nx
  pub ny : force_sum (λ t. t.y) f wall ≡ whole load.ny
  pub nxy : force_sum (λ t. t.s) f wall ≡ whole load.nxy
  pub mx : moment_sum (λ t. t.x) f wall ≡ whole (pos 12000 *ℤ load.mx)
  pub my : moment_sum (λ t. t.y) f wall ≡ whole (pos 12000 *ℤ load.my)
  pub mxy : moment_sum (λ t. t.s) f wall ≡ whole (pos 12000 *ℤ load.mxy)
