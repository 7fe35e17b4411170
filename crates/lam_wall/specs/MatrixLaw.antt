-- The matrices of a wall give its force and moment sums at every laminate strain, so that equilibrium is six linear
-- equations.
use Rattle.std.specs.Prelude.{◌≡◌, ◌↔◌, ℤ, pos, ◌*ℤ◌, ◌<ℤ◌, List}
use Rattle.lam_fraction.specs.Fraction.{ℚ, whole, fraction, ◌*ℚ◌}
use Rattle.lam_stock.specs.declared.item.Item.{Item}
use Rattle.lam_stock.specs.PlyLaw.{OffAxis}
use Rattle.lam_lamina.specs.declared.stiffness.Sym3.{Sym3}
use Rattle.lam_job.specs.declared.load.Load.{Load}
use Rattle.lam_job.specs.Wall.{wall_thickness}
use Rattle.lam_job.specs.LaminateStrain.{LaminateStrain}
use Rattle.lam_job.specs.Equilibrium.{force_sum, moment_sum, Solves}
use Rattle.lam_wall.specs.Matrices.{Matrices, AreStiffnesses, matrices, bending_strain, forces, moments}

abbrev pub force_sums : LaminateStrain → List Item → OffAxis
force_sums f wall = record { x = force_sum (λ t. t.x) f wall; y = force_sum (λ t. t.y) f wall; s = force_sum (λ t. t.s) f wall }

abbrev pub moment_sums : LaminateStrain → List Item → OffAxis
moment_sums f wall = record { x = moment_sum (λ t. t.x) f wall; y = moment_sum (λ t. t.y) f wall; s = moment_sum (λ t. t.s) f wall }

abbrev pub times : ℚ → OffAxis → OffAxis
times c t = record { x = c *ℚ t.x; y = c *ℚ t.y; s = c *ℚ t.s }

-- the force sums are 4 h q0 times the forces n, the moment sums 6 h² q0 times the moments m
pub record SumsAre (q0 h : ℤ) (wall : List Item) (f : LaminateStrain) (n m : OffAxis) : Type 0 where
  pub forces : force_sums f wall ≡ times (whole (pos 4 *ℤ (h *ℤ q0))) n
  pub moments : moment_sums f wall ≡ times (whole (pos 6 *ℤ (h *ℤ (h *ℤ q0)))) m

-- these are the matrices of a wall: they give its sums at every laminate strain
abbrev pub AreMatrices : ℤ → List Item → Matrices → Type 0
AreMatrices q0 wall m = (f : LaminateStrain)
    → SumsAre q0 (wall_thickness wall) wall f
    (forces m f.mid_plane (bending_strain (wall_thickness wall) f.curvature))
    (moments m f.mid_plane (bending_strain (wall_thickness wall) f.curvature))

-- the forces and the moments of a load on a wall of thickness h
abbrev pub load_forces : (q0 h : ℤ) → Load → OffAxis
load_forces q0 h load = record {
  x = fraction load.nx (pos 4 *ℤ (h *ℤ q0));
  y = fraction load.ny (pos 4 *ℤ (h *ℤ q0));
  s = fraction load.nxy (pos 4 *ℤ (h *ℤ q0));
}

abbrev pub load_moments : (q0 h : ℤ) → Load → OffAxis
load_moments q0 h load = record {
  x = fraction (pos 2000 *ℤ load.mx) (h *ℤ (h *ℤ q0));
  y = fraction (pos 2000 *ℤ load.my) (h *ℤ (h *ℤ q0));
  s = fraction (pos 2000 *ℤ load.mxy) (h *ℤ (h *ℤ q0));
}

-- the forces n and the moments m are those of the load
pub record Balances (q0 h : ℤ) (load : Load) (n m : OffAxis) : Type 0 where
  pub forces : n ≡ load_forces q0 h load
  pub moments : m ≡ load_moments q0 h load

-- ---- the laws

abbrev pub SumsByMatrices : Type 0
SumsByMatrices = (q0 : ℤ) (stiffness : Item → Sym3 ℚ) (wall : List Item)
    → ¬ (q0 ≡ pos 0) → AreStiffnesses q0 stiffness → pos 0 <ℤ wall_thickness wall
    → AreMatrices q0 wall (matrices stiffness wall)

-- a laminate strain is one of the wall under the load exactly where its forces and moments by the matrices balance
-- the load
abbrev pub EquilibriumByMatrices : Type 0
EquilibriumByMatrices = (q0 : ℤ) (wall : List Item) (m : Matrices) (load : Load) (f : LaminateStrain)
    → pos 0 <ℤ q0 → pos 0 <ℤ wall_thickness wall → AreMatrices q0 wall m
    → Solves wall load f
    ↔ Balances q0 (wall_thickness wall) load
    (forces m f.mid_plane (bending_strain (wall_thickness wall) f.curvature))
    (moments m f.mid_plane (bending_strain (wall_thickness wall) f.curvature))

-- a wall has at most one set of matrices
abbrev pub OnlyMatrices : Type 0
OnlyMatrices = (q0 : ℤ) (wall : List Item) (m n : Matrices) → pos 0 <ℤ q0 → pos 0 <ℤ wall_thickness wall
    → AreMatrices q0 wall m → AreMatrices q0 wall n → m ≡ n
