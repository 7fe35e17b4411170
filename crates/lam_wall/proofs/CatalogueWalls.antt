-- The laws of walls, for plies of a catalogue.
use Rattle.std.proofs.Common.{◌≡◌, refl, sym, subst, ◌≤◌, List, length, All, ℤ, pos, ◌≤ℤ◌, ◌<ℤ◌, arith}
use Rattle.std.proofs.lemmas.Int.{ints}
use Rattle.std.proofs.lemmas.List.Elements.{All-weaker}
use Rattle.lam_fraction.specs.numbers.Numbers.{Numbers}
use Rattle.lam_stock.specs.declared.item.Item.{Item}
use Rattle.lam_stock.specs.declared.item.ItemNo.{ItemNo}
use Rattle.lam_stock.specs.declared.scale.Scale.{Scale}
use Rattle.lam_stock.specs.PlyLaw.{OffAxis}
use Rattle.lam_stock.specs.Stock.{IsStock, WithinLimits}
use Rattle.lam_stock.proofs.ScaleFacts.{scale-kept, scale-within}
use Rattle.lam_lamina.specs.Covered.{IsCovered}
use Rattle.lam_stock.specs.Energy.{LayerEnergyBetween}
use Rattle.lam_lamina.proofs.Catalogue.{catalogue-covered, catalogue-works}
use Rattle.lam_lamina.proofs.Identities.{stiffness-gives}
use Rattle.lam_job.specs.declared.load.Load.{Load}
use Rattle.lam_job.specs.Equilibrium.{Solves}
use Rattle.lam_job.specs.LaminateStrain.{LaminateStrain}
use Rattle.lam_job.specs.Schedule.{items_of}
use Rattle.lam_job.specs.Wall.{wall_thickness}
use Rattle.lam_job.proofs.Listed.{items_of-all, items_of-length}
use Rattle.lam_job.proofs.Places.{thickness-within, thickness_not_negative}
use Rattle.lam_wall.specs.declared.wall.Wall.{Wall}
use Rattle.lam_wall.specs.Matrices.{Matrices, AreStiffnesses, matrices, stiffness_of}
use Rattle.lam_wall.specs.MatrixLaw.{AreMatrices}
use Rattle.lam_wall.specs.Energy.{HasEnergyBetween}
use Rattle.lam_wall.specs.QuadraticForm.{HasFormBetween, HasStiffnessBetween}
use Rattle.lam_wall.specs.Assembled.{ArePlies, StandsFor, most_thickness}
use Rattle.lam_wall.proofs.WallSums.{sums_by_matrices, above_not_none}
use Rattle.lam_wall.proofs.WallEnergy.{energy_between}
use Rattle.lam_wall.proofs.WallForm.{form_between}
use Rattle.lam_wall.proofs.OneStrain.{at_most_one_laminate_strain}
use Rattle.lam_wall.proofs.AStrain.{has_laminate_strain}

-- the stiffnesses of a catalogue's items
pub stiffness-is : (q0 : ℤ) → AreStiffnesses q0 (stiffness_of q0)
stiffness-is q0 = λ i. stiffness-gives q0 i.kind i.lamina i.dir

-- ---- items of a catalogue of this scale
module _ {stock : List Item} {scale : Scale} (is : IsStock stock scale) (numbers : List ItemNo) where
  abbrev wall : List Item
  wall = items_of stock numbers

  pub scale-above : pos 0 <ℤ scale.q0
  scale-above = let least = (scale-within stock stock scale is refl).0 in omega (arith, ints, least)

  pub floor-above : pos 0 <ℤ scale.floor
  floor-above = omega (arith, ints, is.floor)

  pub listed-limits : All WithinLimits wall
  listed-limits = items_of-all stock WithinLimits is.limits numbers

  each : All (λ i. pos 0 ≤ℤ i.lamina.t) wall
  each = All-weaker WithinLimits (λ i. pos 0 ≤ℤ i.lamina.t) (λ i h. thickness_not_negative h) wall listed-limits

  works : All (LayerEnergyBetween scale.floor scale.q0) wall
  works = items_of-all stock (LayerEnergyBetween scale.floor scale.q0) (catalogue-works stock scale is.limits (scale-kept stock stock scale is refl).0) numbers

  -- the scale covers each
  pub listed-covered : All (λ i. IsCovered scale.q0 i.lamina) wall
  listed-covered = items_of-all stock (λ i. IsCovered scale.q0 i.lamina) (catalogue-covered stock scale is.limits (scale-kept stock stock scale is refl).0) numbers

  pub listed-energy : (f : LaminateStrain) → HasEnergyBetween scale.floor scale.q0 wall f
  listed-energy f = energy_between scale.floor scale.q0 wall f each works

  module _ (some : 1 ≤ length wall) where
    between : HasStiffnessBetween scale.floor scale.q0 wall
    between = record { scale = scale-above; thickness = (let t = (thickness-within wall listed-limits).0 in omega (arith, ints, t, some)); each = each; layers = works }

    -- the matrices by the plies' shares
    pub listed-exact : AreMatrices scale.q0 wall (matrices (stiffness_of scale.q0) wall)
    listed-exact = sums_by_matrices scale.q0 (stiffness_of scale.q0) wall (above_not_none scale-above) (stiffness-is scale.q0) between.thickness

    pub listed-form : (m : Matrices) (e k : OffAxis) → AreMatrices scale.q0 wall m → HasFormBetween scale.floor scale.q0 m e k
    listed-form m e k are = form_between scale.floor scale.q0 wall m e k between are

    pub listed-one_strain : (load : Load) (f g : LaminateStrain) → Solves wall load f → Solves wall load g → f ≡ g
    listed-one_strain load f g p q =
        at_most_one_laminate_strain scale.floor scale.q0 wall (matrices (stiffness_of scale.q0) wall) load f g floor-above between listed-exact p q

    pub listed-has_strain : (load : Load) → (f : LaminateStrain) × Solves wall load f
    listed-has_strain load = has_laminate_strain scale.floor scale.q0 wall (matrices (stiffness_of scale.q0) wall) load floor-above between listed-exact

-- ---- 1 to 64 plies of a catalogue of this scale
module _ {scale : Scale} {stock : List Item} {numbers : List ItemNo} (k : ArePlies scale stock numbers) where
  abbrev plies : List Item
  plies = items_of stock numbers

  pub plies-limits : All WithinLimits plies
  plies-limits = listed-limits k.catalogue numbers

  pub plies-few : length plies ≤ 64
  plies-few = omega (arith, items_of-length stock numbers k.known, k.few)

  some_plies : 1 ≤ length plies
  some_plies = omega (arith, items_of-length stock numbers k.known, k.some)

  -- its stiffness lies between the floor and q0, which gives all the laws
  pub plies-between : HasStiffnessBetween scale.floor scale.q0 plies
  plies-between = between k.catalogue numbers some_plies

  pub plies-covered : All (λ i. IsCovered scale.q0 i.lamina) plies
  plies-covered = listed-covered k.catalogue numbers

  pub plies-exact : AreMatrices scale.q0 plies (matrices (stiffness_of scale.q0) plies)
  plies-exact = listed-exact k.catalogue numbers some_plies

  -- the quadratic form of their matrices
  pub plies-form : (m : Matrices) (e b : OffAxis) → AreMatrices scale.q0 plies m → HasFormBetween scale.floor scale.q0 m e b
  plies-form = listed-form k.catalogue numbers some_plies

  -- the one laminate strain under a load
  pub plies-one_strain : (load : Load) (f g : LaminateStrain) → Solves plies load f → Solves plies load g → f ≡ g
  plies-one_strain = listed-one_strain k.catalogue numbers some_plies

  pub plies-has_strain : (load : Load) → (f : LaminateStrain) × Solves plies load f
  plies-has_strain = listed-has_strain k.catalogue numbers some_plies

  -- their thickness
  pub plies-thick : pos 0 <ℤ wall_thickness plies
  plies-thick = plies-between.thickness

  pub plies-thin : wall_thickness plies ≤ℤ most_thickness
  plies-thin =
      let t = (thickness-within plies plies-limits).1 in
      omega (arith, ints, t, items_of-length stock numbers k.known, k.few)

-- ---- enclosures that stand for such plies
module _ {A : Type 0} {n : Numbers A} {w : Wall A} {scale : Scale} {stock : List Item} {numbers : List ItemNo} (k : StandsFor n w scale stock numbers) where
  pub wall-thick : pos 0 <ℤ w.h
  wall-thick = subst (λ h. pos 0 <ℤ h) (sym k.thickness) (plies-thick k.plies)

  pub wall-thin : w.h ≤ℤ most_thickness
  wall-thin = subst (λ h. h ≤ℤ most_thickness) (sym k.thickness) (plies-thin k.plies)
