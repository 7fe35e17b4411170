-- How far the laminate strain of a wall under a load can lie from none, and from a guess whose forces and moments are
-- nearly those of the load. A load does at least the work that it would do on a layer of the catalogue's floor, so that
-- small forces make small strains.
use Rattle.std.specs.Prelude.{◌≡◌, ℤ, pos, List}
use Rattle.lam_fraction.specs.Fraction.{ℚ, whole, fraction, ◌+ℚ◌, ◌-ℚ◌, ◌*ℚ◌, ◌≤ℚ◌, opposite}
use Rattle.lam_stock.specs.declared.item.Item.{Item}
use Rattle.lam_stock.specs.declared.item.ItemNo.{ItemNo}
use Rattle.lam_stock.specs.declared.scale.Scale.{Scale}
use Rattle.lam_stock.specs.PlyLaw.{OffAxis}
use Rattle.lam_job.specs.declared.load.Load.{Load}
use Rattle.lam_job.specs.Equilibrium.{Solves}
use Rattle.lam_job.specs.LaminateStrain.{LaminateStrain}
use Rattle.lam_job.specs.LoadRange.{LoadInRange}
use Rattle.lam_job.specs.Schedule.{items_of}
use Rattle.lam_job.specs.Wall.{wall_thickness}
use Rattle.lam_wall.specs.Assembled.{ArePlies}
use Rattle.lam_wall.specs.Matrices.{Matrices, bending_strain, forces, moments}
use Rattle.lam_wall.specs.MatrixLaw.{AreMatrices, load_forces, load_moments}

-- ---- sizes

-- a number is at most r in size
pub record IsWithin (r x : ℚ) : Type 0 where
  pub from : opposite r ≤ℚ x
  pub to : x ≤ℚ r

-- each of three strains, forces or moments is
pub record AreWithin (r : ℚ) (t : OffAxis) : Type 0 where
  pub x : IsWithin r t.x
  pub y : IsWithin r t.y
  pub s : IsWithin r t.s

-- a number lies at most r from c
pub record IsNear (r c x : ℚ) : Type 0 where
  pub from : c -ℚ r ≤ℚ x
  pub to : x ≤ℚ c +ℚ r

-- each of three forces or moments lies at most r from that of t
pub record AreNear (r : ℚ) (t u : OffAxis) : Type 0 where
  pub x : IsNear r t.x u.x
  pub y : IsNear r t.y u.y
  pub s : IsNear r t.s u.s

-- the forces n and the moments m are those of the load, but for r
pub record NearlyBalances (r : ℚ) (q0 h : ℤ) (load : Load) (n m : OffAxis) : Type 0 where
  pub forces : AreNear r (load_forces q0 h load) n
  pub moments : AreNear r (load_moments q0 h load) m

-- ---- the bounds of strains, by one number r: what forces and moments of size r do at most to a layer of stiffness 1

abbrev pub normal_bound : ℚ → ℚ
normal_bound r = fraction (pos 5) (pos 2) *ℚ r

abbrev pub shear_bound : ℚ → ℚ
shear_bound r = whole (pos 4) *ℚ r

abbrev pub bending_bound : ℚ → ℚ
bending_bound r = whole (pos 5) *ℚ r

abbrev pub twist_bound : ℚ → ℚ
twist_bound r = whole (pos 8) *ℚ r

-- mid-plane strains e and bending strains k are so small
pub record StrainsWithin (r : ℚ) (e k : OffAxis) : Type 0 where
  pub ex : IsWithin (normal_bound r) e.x
  pub ey : IsWithin (normal_bound r) e.y
  pub es : IsWithin (shear_bound r) e.s
  pub kx : IsWithin (bending_bound r) k.x
  pub ky : IsWithin (bending_bound r) k.y
  pub ks : IsWithin (twist_bound r) k.s

-- mid-plane strains e and bending strains k are so near to others, u and v
pub record StrainsNear (r : ℚ) (u v e k : OffAxis) : Type 0 where
  pub ex : IsNear (normal_bound r) u.x e.x
  pub ey : IsNear (normal_bound r) u.y e.y
  pub es : IsNear (shear_bound r) u.s e.s
  pub kx : IsNear (bending_bound r) v.x k.x
  pub ky : IsNear (bending_bound r) v.y k.y
  pub ks : IsNear (twist_bound r) v.s k.s

-- ---- the laws, for 1 to 64 plies of a catalogue

-- forces and moments of size r come from strains that are small: by r q0 / floor, or what is above it
abbrev pub SmallForces : Type 0
SmallForces = (scale : Scale) (stock : List Item) (numbers : List ItemNo) (m : Matrices) (e k : OffAxis) (r bound : ℚ)
    → ArePlies scale stock numbers → AreMatrices scale.q0 (items_of stock numbers) m
    → AreWithin r (forces m e k) → AreWithin r (moments m e k) → r *ℚ whole scale.q0 ≤ℚ bound *ℚ whole scale.floor
    → StrainsWithin bound e k

-- under a load in range the mid-plane strains are at most 5/8 and 1 in size, and the bending strains 5/4 and 2
abbrev pub StrainsInRange : Type 0
StrainsInRange = (scale : Scale) (stock : List Item) (numbers : List ItemNo) (load : Load) (f : LaminateStrain)
    → ArePlies scale stock numbers → LoadInRange scale.floor (wall_thickness (items_of stock numbers)) load
    → Solves (items_of stock numbers) load f
    → StrainsWithin (fraction (pos 1) (pos 4)) f.mid_plane (bending_strain (wall_thickness (items_of stock numbers)) f.curvature)

-- a guess (u, v) that balances a load but for r is near to the laminate strain: by r q0 / floor, or what is above it
abbrev pub NearGuess : Type 0
NearGuess = (scale : Scale) (stock : List Item) (numbers : List ItemNo) (m : Matrices) (load : Load) (f : LaminateStrain) (u v : OffAxis) (r bound : ℚ)
    → ArePlies scale stock numbers → AreMatrices scale.q0 (items_of stock numbers) m → Solves (items_of stock numbers) load f
    → NearlyBalances r scale.q0 (wall_thickness (items_of stock numbers)) load (forces m u v) (moments m u v)
    → r *ℚ whole scale.q0 ≤ℚ bound *ℚ whole scale.floor
    → StrainsNear bound u v f.mid_plane (bending_strain (wall_thickness (items_of stock numbers)) f.curvature)

-- a laminate strain of a wall under a load, which every other is
pub record OneStrain (wall : List Item) (load : Load) : Type 0 where
  pub strain : LaminateStrain
  pub solves : Solves wall load strain
  pub only : (f : LaminateStrain) → Solves wall load f → f ≡ strain

-- under each load there is one laminate strain, and one alone
abbrev pub HasOneStrain : Type 0
HasOneStrain = (scale : Scale) (stock : List Item) (numbers : List ItemNo) (load : Load)
    → ArePlies scale stock numbers → OneStrain (items_of stock numbers) load
