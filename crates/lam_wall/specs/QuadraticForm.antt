-- The quadratic form of the matrices A, B and D of a wall: twice its strain energy, over its thickness and the scale of
-- stiffness. It is bounded by the mean squares of the strains, so that a load gives a wall one laminate strain.
use Rattle.std.specs.Prelude.{◌≡◌, ◌≤◌, ℤ, pos, ◌≤ℤ◌, ◌<ℤ◌, List, length, All}
use Rattle.lam_fraction.specs.Fraction.{ℚ, fraction, ◌+ℚ◌, ◌*ℚ◌, ◌≤ℚ◌}
use Rattle.lam_stock.specs.declared.item.Item.{Item}
use Rattle.lam_stock.specs.declared.item.ItemNo.{ItemNo}
use Rattle.lam_stock.specs.PlyLaw.{OffAxis}
use Rattle.lam_stock.specs.Scale.{scale_of}
use Rattle.lam_job.specs.declared.load.Load.{Load}
use Rattle.lam_job.specs.Wall.{wall_thickness}
use Rattle.lam_job.specs.Schedule.{items_of}
use Rattle.lam_job.specs.LaminateStrain.{LaminateStrain}
use Rattle.lam_job.specs.Equilibrium.{Solves}
use Rattle.lam_stock.specs.Energy.{twice_energy, LayerEnergyBetween}
use Rattle.lam_wall.specs.Matrices.{Matrices, forces, moments}
use Rattle.lam_wall.specs.MatrixLaw.{AreMatrices}
use Rattle.lam_wall.specs.Energy.{mean_squares}

-- at mid-plane strains e and bending strains k
abbrev pub quadratic_form : Matrices → OffAxis → OffAxis → ℚ
quadratic_form m e k = twice_energy (forces m e k) e +ℚ twice_energy (moments m e k) k

-- the quadratic form lies between floor / q0 and 1 times the mean squares of the strains
abbrev pub HasFormBetween : ℤ → ℤ → Matrices → OffAxis → OffAxis → Type 0
HasFormBetween floor q0 m e k =
    (fraction floor q0 *ℚ mean_squares e k ≤ℚ quadratic_form m e k) × (quadratic_form m e k ≤ℚ mean_squares e k)

-- ---- the laws

-- a wall none of whose layers is softer than floor or stiffer than q0
pub record HasStiffnessBetween (floor q0 : ℤ) (wall : List Item) : Type 0 where
  pub scale : pos 0 <ℤ q0
  pub thickness : pos 0 <ℤ wall_thickness wall
  pub each : All (λ i. pos 0 ≤ℤ i.lamina.t) wall
  pub layers : All (LayerEnergyBetween floor q0) wall

-- the quadratic form of its matrices lies between them
abbrev pub FormBetween : Type 0
FormBetween = (floor q0 : ℤ) (wall : List Item) (m : Matrices) (e k : OffAxis)
    → HasStiffnessBetween floor q0 wall → AreMatrices q0 wall m → HasFormBetween floor q0 m e k

-- so it is for each wall of a catalogue
abbrev pub CatalogueForm : List Item → Type 0
CatalogueForm stock = (numbers : List ItemNo) (m : Matrices) (e k : OffAxis)
    → 1 ≤ length (items_of stock numbers) → AreMatrices (scale_of stock).q0 (items_of stock numbers) m
    → HasFormBetween (scale_of stock).floor (scale_of stock).q0 m e k

-- under a load such a wall has at most one laminate strain
abbrev pub AtMostOneLaminateStrain : Type 0
AtMostOneLaminateStrain = (floor q0 : ℤ) (wall : List Item) (m : Matrices) (load : Load) (f g : LaminateStrain)
    → pos 0 <ℤ floor → HasStiffnessBetween floor q0 wall → AreMatrices q0 wall m → Solves wall load f → Solves wall load g
    → f ≡ g

-- so it is for each wall of a catalogue
abbrev pub CatalogueAtMostOneLaminateStrain : List Item → Type 0
CatalogueAtMostOneLaminateStrain stock = (numbers : List ItemNo) (load : Load) (f g : LaminateStrain)
    → 1 ≤ length (items_of stock numbers) → Solves (items_of stock numbers) load f → Solves (items_of stock numbers) load g → f ≡ g

-- under each load it has a laminate strain
abbrev pub HasLaminateStrain : Type 0
HasLaminateStrain = (floor q0 : ℤ) (wall : List Item) (m : Matrices) (load : Load)
    → pos 0 <ℤ floor → HasStiffnessBetween floor q0 wall → AreMatrices q0 wall m
    → (f : LaminateStrain) × Solves wall load f

-- so it is for each wall of a catalogue
abbrev pub CatalogueHasLaminateStrain : List Item → Type 0
CatalogueHasLaminateStrain stock = (numbers : List ItemNo) (load : Load)
    → 1 ≤ length (items_of stock numbers) → (f : LaminateStrain) × Solves (items_of stock numbers) load f
