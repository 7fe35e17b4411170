-- The laminate strain of a wall that enclosed matrices stand for: small under a load in range, and near to a guess. Here the
-- thickness is that of the enclosed wall.
use Rattle.std.proofs.Common.{refl, sym, subst, List, pos}
use Rattle.lam_fraction.specs.Fraction.{ℚ, whole, fraction, class_of, ◌+ℚ◌, ◌-ℚ◌, ◌*ℚ◌, ◌/ℚ◌, opposite, inverse, is_at_most, ◌≤ℚ◌}
use Rattle.lam_fraction.specs.inside.Quotient.{of_two, on_one, on_two}
use Rattle.lam_fraction.specs.numbers.Numbers.{Numbers}
use Rattle.lam_stock.specs.declared.item.Item.{Item}
use Rattle.lam_stock.specs.declared.item.ItemNo.{ItemNo}
use Rattle.lam_stock.specs.declared.scale.Scale.{Scale}
use Rattle.lam_stock.specs.PlyLaw.{OffAxis}
use Rattle.lam_job.specs.declared.load.Load.{Load}
use Rattle.lam_job.specs.Equilibrium.{Solves}
use Rattle.lam_job.specs.LaminateStrain.{LaminateStrain}
use Rattle.lam_job.specs.LoadRange.{LoadInRange}
use Rattle.lam_job.specs.Schedule.{items_of}
use Rattle.lam_wall.specs.declared.wall.Wall.{Wall}
use Rattle.lam_wall.specs.Assembled.{HoldsWall, StandsFor}
use Rattle.lam_wall.specs.Matrices.{Matrices, bending_strain, forces, moments}
use Rattle.lam_wall.specs.MatrixLaw.{AreMatrices}
use Rattle.lam_solve.specs.StrainBounds.{AreWithin, StrainsWithin, StrainsNear, NearlyBalances, OneStrain, normal_bound, shear_bound, bending_bound, twist_bound}
use Rattle.lam_solve.proofs.energy.Sizes.{within-weaker}
use Rattle.lam_solve.proofs.energy.PlyStrains.{plies-near, plies-only, plies-range}

-- ---- bounds of a quarter are at most 5/2

abbrev pub quarter : ℚ
quarter = fraction (pos 1) (pos 4)

-- the most that a strain can be in range
abbrev pub most_strain : ℚ
most_strain = fraction (pos 5) (pos 2)

normal_least : normal_bound quarter ≤ℚ most_strain
unfolding whole fraction class_of ◌+ℚ◌ ◌-ℚ◌ ◌*ℚ◌ ◌/ℚ◌ opposite inverse is_at_most on_one on_two of_two
normal_least = record { le = refl }

shear_least : shear_bound quarter ≤ℚ most_strain
unfolding whole fraction class_of ◌+ℚ◌ ◌-ℚ◌ ◌*ℚ◌ ◌/ℚ◌ opposite inverse is_at_most on_one on_two of_two
shear_least = record { le = refl }

bending_least : bending_bound quarter ≤ℚ most_strain
unfolding whole fraction class_of ◌+ℚ◌ ◌-ℚ◌ ◌*ℚ◌ ◌/ℚ◌ opposite inverse is_at_most on_one on_two of_two
bending_least = record { le = refl }

twist_least : twist_bound quarter ≤ℚ most_strain
unfolding whole fraction class_of ◌+ℚ◌ ◌-ℚ◌ ◌*ℚ◌ ◌/ℚ◌ opposite inverse is_at_most on_one on_two of_two
twist_least = record { le = refl }

pub in_range_strain : {e k : OffAxis} → StrainsWithin quarter e k → AreWithin most_strain e
in_range_strain w = record { x = within-weaker normal_least w.ex; y = within-weaker normal_least w.ey; s = within-weaker shear_least w.es }

pub in_range_bending : {e k : OffAxis} → StrainsWithin quarter e k → AreWithin most_strain k
in_range_bending w = record { x = within-weaker bending_least w.kx; y = within-weaker bending_least w.ky; s = within-weaker twist_least w.ks }

-- ---- enclosures that stand for plies of a catalogue
module _ {A : Type 0} {n : Numbers A} {w : Wall A} {scale : Scale} {stock : List Item} {numbers : List ItemNo} (k : StandsFor n w scale stock numbers) where
  -- the matrices that are held
  abbrev pub wall-matrices : Matrices
  wall-matrices = k.matrices.0

  pub wall-are : AreMatrices scale.q0 (items_of stock numbers) wall-matrices
  wall-are = k.matrices.1

  pub wall-held : HoldsWall n w wall-matrices
  wall-held = k.matrices.2

  pub wall-only : (load : Load) → OneStrain (items_of stock numbers) load
  wall-only = plies-only k.plies

  module _ (load : Load) (f : LaminateStrain) (solves : Solves (items_of stock numbers) load f) where
    pub wall-range : LoadInRange scale.floor w.h load → StrainsWithin quarter f.mid_plane (bending_strain w.h f.curvature)
    wall-range range = subst (λ h. StrainsWithin quarter f.mid_plane (bending_strain h f.curvature)) (sym k.thickness)
        (plies-range k.plies wall-matrices wall-are load f solves (subst (λ h. LoadInRange scale.floor h load) k.thickness range))

    -- all six are at most 5/2
    pub wall-strain : LoadInRange scale.floor w.h load → AreWithin most_strain f.mid_plane
    wall-strain range = in_range_strain (wall-range range)

    pub wall-bending : LoadInRange scale.floor w.h load → AreWithin most_strain (bending_strain w.h f.curvature)
    wall-bending range = in_range_bending (wall-range range)

    pub wall-near : (u v : OffAxis) (r bound : ℚ) → NearlyBalances r scale.q0 w.h load (forces wall-matrices u v) (moments wall-matrices u v)
        → r *ℚ whole scale.q0 ≤ℚ bound *ℚ whole scale.floor → StrainsNear bound u v f.mid_plane (bending_strain w.h f.curvature)
    wall-near u v r bound b size = subst (λ h. StrainsNear bound u v f.mid_plane (bending_strain h f.curvature)) (sym k.thickness)
        (plies-near k.plies wall-matrices wall-are load f solves u v r bound
        (subst (λ h. NearlyBalances r scale.q0 h load (forces wall-matrices u v) (moments wall-matrices u v)) k.thickness b) size)
