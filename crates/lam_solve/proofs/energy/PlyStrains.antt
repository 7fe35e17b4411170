-- The laminate strain of 1 to 64 plies of a catalogue under a load: small under small forces and under a load in range,
-- near to a guess that nearly balances the load, and the only one.
use Rattle.std.proofs.Common.{◌≡◌, refl, sym, ◌∙◌, ap, subst, ℤ, pos, ◌*ℤ◌, ◌<ℤ◌, List, arith}
use Rattle.std.proofs.lemmas.Int.{ints}
use Rattle.lam_fraction.specs.Fraction.{ℚ, whole, fraction, opposite, ◌-ℚ◌, ◌*ℚ◌, ◌≤ℚ◌}
use Rattle.lam_fraction.specs.inside.WholeNumbers.{product_positive}
use Rattle.lam_fraction.proofs.Expression.{int, ◌⊕◌, ◌⊖◌, ◌⊗◌, minus}
use Rattle.lam_fraction.proofs.Solver.{◌≐◌}
use Rattle.lam_fraction.proofs.FractionBounds.{at_most_same, fraction-times}
use Rattle.lam_fraction.proofs.FractionRing.{whole-product}
use Rattle.lam_fraction.proofs.Rationals.{solve, from₂, same_without_factor, positive_number}
use Rattle.lam_stock.specs.declared.item.Item.{Item}
use Rattle.lam_stock.specs.declared.item.ItemNo.{ItemNo}
use Rattle.lam_stock.specs.declared.scale.Scale.{Scale}
use Rattle.lam_stock.specs.PlyLaw.{OffAxis}
use Rattle.lam_job.specs.declared.load.Load.{Load}
use Rattle.lam_job.specs.Equilibrium.{Solves}
use Rattle.lam_job.specs.LaminateStrain.{LaminateStrain}
use Rattle.lam_job.specs.LoadRange.{LoadInRange}
use Rattle.lam_job.specs.Schedule.{items_of}
use Rattle.lam_job.specs.Wall.{wall_thickness}
use Rattle.lam_wall.specs.Assembled.{ArePlies}
use Rattle.lam_wall.specs.Matrices.{Matrices, bending_strain, forces, moments, matrices, stiffness_of}
use Rattle.lam_wall.specs.MatrixLaw.{AreMatrices, Balances}
use Rattle.lam_wall.proofs.CatalogueWalls.{scale-above, floor-above, plies-exact, plies-form, plies-has_strain, plies-one_strain, plies-thick}
use Rattle.lam_wall.proofs.Equilibrium.{equilibrium_by_matrices}
use Rattle.lam_wall.proofs.OffAxes.{less}
use Rattle.lam_solve.specs.StrainBounds.{AreWithin, AreNear, StrainsWithin, StrainsNear, NearlyBalances, OneStrain, SmallForces, StrainsInRange, NearGuess, HasOneStrain}
use Rattle.lam_solve.proofs.energy.SmallForces as energy
use Rattle.lam_solve.proofs.energy.LoadSizes.{forces-within, moments-within}

-- floor over 4 q0, times q0, is a quarter of floor
quarter : (floor q0 : ℤ) → pos 0 <ℤ q0 → fraction floor (pos 4 *ℤ q0) *ℚ whole q0 ≡ fraction (pos 1) (pos 4) *ℚ whole floor
unfolding ◌-ℚ◌
quarter floor q0 above =
    let four : pos 0 <ℤ pos 4 = omega (arith, ints) in
    let times = ap (λ s. fraction floor (pos 4 *ℤ q0) *ℚ s) (sym (whole-product (pos 4) q0)) ∙ fraction-times floor (pos 4 *ℤ q0) (product_positive (pos 4) q0 four above) in
    same_without_factor (whole (pos 4)) (positive_number 3)
    (from₂ (whole (pos 1)) times (opposite (whole floor)) (fraction-times (pos 1) (pos 4) four)
    (solve 4 (λ x q f g. int (pos 4) ⊗ (x ⊗ q) ≐ int (pos 4) ⊗ (g ⊗ f) ⊕ int (pos 1) ⊗ (x ⊗ (int (pos 4) ⊗ q) ⊖ f) ⊕ minus f ⊗ (g ⊗ int (pos 4) ⊖ int (pos 1))) refl
    (fraction floor (pos 4 *ℤ q0)) (whole q0) (whole floor) (fraction (pos 1) (pos 4))))

module _ {scale : Scale} {stock : List Item} {numbers : List ItemNo} (k : ArePlies scale stock numbers) where
  abbrev wall : List Item
  wall = items_of stock numbers

  abbrev h : ℤ
  h = wall_thickness wall

  above : pos 0 <ℤ scale.q0
  above = scale-above k.catalogue numbers

  floor : pos 0 <ℤ scale.floor
  floor = floor-above k.catalogue numbers

  -- the six equations
  module _ (m : Matrices) (are : AreMatrices scale.q0 wall m) where
    pub plies-small : (e b : OffAxis) (r bound : ℚ) → AreWithin r (forces m e b) → AreWithin r (moments m e b) → r *ℚ whole scale.q0 ≤ℚ bound *ℚ whole scale.floor → StrainsWithin bound e b
    plies-small e b r bound f g size = energy.small_forces scale.floor scale.q0 m r bound floor above size e b (plies-form k m e b are) f g

    module _ (load : Load) (f : LaminateStrain) (solves : Solves wall load f) where
      abbrev bent : OffAxis
      bent = bending_strain h f.curvature

      pub plies-balance : Balances scale.q0 h load (forces m f.mid_plane bent) (moments m f.mid_plane bent)
      plies-balance = (equilibrium_by_matrices scale.q0 wall m load f above (plies-thick k) are).0 solves

      pub plies-near : (u v : OffAxis) (r bound : ℚ) → NearlyBalances r scale.q0 h load (forces m u v) (moments m u v) → r *ℚ whole scale.q0 ≤ℚ bound *ℚ whole scale.floor
          → StrainsNear bound u v f.mid_plane bent
      plies-near u v r bound b size = energy.near_forces scale.floor scale.q0 m r bound floor above size u v f.mid_plane bent
          (plies-form k m (less f.mid_plane u) (less bent v) are)
          (subst (λ t. AreNear r t (forces m u v)) (sym plies-balance.forces) b.forces)
          (subst (λ t. AreNear r t (moments m u v)) (sym plies-balance.moments) b.moments)

      pub plies-range : LoadInRange scale.floor h load → StrainsWithin (fraction (pos 1) (pos 4)) f.mid_plane bent
      plies-range range = plies-small f.mid_plane bent (fraction scale.floor (pos 4 *ℤ scale.q0)) (fraction (pos 1) (pos 4))
          (subst (AreWithin (fraction scale.floor (pos 4 *ℤ scale.q0))) (sym plies-balance.forces) (forces-within scale.floor scale.q0 h above (plies-thick k) load range))
          (subst (AreWithin (fraction scale.floor (pos 4 *ℤ scale.q0))) (sym plies-balance.moments) (moments-within scale.floor scale.q0 h above (plies-thick k) load range))
          (at_most_same (quarter scale.floor scale.q0 above))

  pub plies-only : (load : Load) → OneStrain wall load
  plies-only load =
      let s = plies-has_strain k load in
      record { strain = s.0; solves = s.1; only = λ f solves. plies-one_strain k load f s.0 solves s.1 }

pub small_forces : SmallForces
small_forces scale stock numbers m e b r bound k are = plies-small k m are e b r bound

pub strains_in_range : StrainsInRange
strains_in_range scale stock numbers load f k range solves = plies-range k (matrices (stiffness_of scale.q0) (items_of stock numbers)) (plies-exact k) load f solves range

pub near_guess : NearGuess
near_guess scale stock numbers m load f u v r bound k are solves = plies-near k m are load f solves u v r bound

pub has_one_strain : HasOneStrain
has_one_strain scale stock numbers load k = plies-only k load
