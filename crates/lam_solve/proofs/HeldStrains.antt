-- Every laminate strain of a wall under a load in range lies in the strains round a centre, wherever the centre is.
use Rattle.std.proofs.Common.{◌≡◌, subst, ℕ, ◌*◌, ◌≤◌, List, ℤ, pos, ◌+ℤ◌, ◌-ℤ◌, ◌*ℤ◌, ◌≤ℤ◌, unsigned_abs, arith}
use Rattle.std.proofs.lemmas.Int.{ints}
use Rattle.lam_fraction.specs.Fraction.{ℚ}
use Rattle.lam_fraction.specs.numbers.Ends as ends
use Rattle.lam_fraction.specs.numbers.Numbers.{Numbers, Lawful, unit}
use Rattle.lam_fraction.proofs.WholeFractions.{pos-product}
use Rattle.lam_fraction.proofs.numbers.Steps.{one_unit, over_up-is}
use Rattle.lam_stock.specs.declared.item.Item.{Item}
use Rattle.lam_stock.specs.declared.item.ItemNo.{ItemNo}
use Rattle.lam_stock.specs.declared.scale.Scale.{Scale}
use Rattle.lam_job.specs.declared.load.Load.{Load}
use Rattle.lam_job.specs.Equilibrium.{Solves}
use Rattle.lam_job.specs.LaminateStrain.{LaminateStrain}
use Rattle.lam_job.specs.LoadRange.{LoadInRange}
use Rattle.lam_job.specs.Schedule.{items_of}
use Rattle.lam_wall.specs.declared.wall.Wall.{Wall}
use Rattle.lam_wall.specs.Assembled.{StandsFor}
use Rattle.lam_solve.specs.declared.six.Six.{Six}
use Rattle.lam_solve.specs.declared.six.Ends.{Ends}
use Rattle.lam_solve.specs.declared.strains.Guess.{Guess}
use Rattle.lam_solve.specs.StrainBounds.{OneStrain}
use Rattle.lam_solve.specs.Solutions.{HoldsEverySolution, HoldsStrains, ForEachWall}
use Rattle.lam_solve.specs.inside.Enclosed.{enclosed, greatest_size, radius}
use Rattle.lam_solve.specs.inside.Formulas as formulas
use Rattle.lam_solve.specs.inside.Parts.{IsPosed, IsScaled}
use Rattle.lam_solve.specs.inside.Residual.{residual}
use Rattle.lam_solve.specs.inside.Steps.{over_up}
use Rattle.lam_solve.proofs.Around.{around-holds}
use Rattle.lam_solve.proofs.Posed.{posed, force-room, moment-room}
use Rattle.lam_solve.proofs.energy.EnclosedGuess.{guess-near}
use Rattle.lam_solve.proofs.energy.Residuals.{EndsWithin}
use Rattle.lam_solve.proofs.energy.Units.{Between}
use Rattle.lam_solve.proofs.energy.WallStrains.{wall-only, wall-strain, wall-bending}

-- ---- there is one

pub has-one : {A : Type 0} {n : Numbers A} {w : Wall A} {scale : Scale} (load : Load) → ForEachWall n w scale (λ plies. OneStrain plies load)
has-one load stock numbers stands = wall-only stands load

-- ---- the radii

ends_within : (unit : ℕ) (residual : ℕ) (low high : ℤ) → ends.reach low high ≤ residual * unit → EndsWithin (pos unit) (pos residual) low high
unfolding ends.reach
ends_within unit residual low high h =
    let product = pos-product residual unit in
    record { from = omega (arith, ints, h, product); to = omega (arith, ints, h, product) }

bound_large : (scale : Scale) (m : ℕ) → IsScaled scale → (pos m *ℤ scale.q0) ≤ℤ (pos (over_up (m * unsigned_abs scale.q0) (unsigned_abs scale.floor)) *ℤ scale.floor)
bound_large scale m is =
    let r = over_up (m * unsigned_abs scale.q0) (unsigned_abs scale.floor) in
    let up : m * unsigned_abs scale.q0 ≤ r * unsigned_abs scale.floor = over_up-is (m * unsigned_abs scale.q0) (unsigned_abs scale.floor) (omega (arith, ints, is.floor)) in
    let q0 : pos (unsigned_abs scale.q0) ≡ scale.q0 = omega (arith, ints, is.above) in
    let floor : pos (unsigned_abs scale.floor) ≡ scale.floor = omega (arith, ints, is.floor) in
    let left = pos-product m (unsigned_abs scale.q0) in
    let right = pos-product r (unsigned_abs scale.floor) in
    let order : (pos m *ℤ pos (unsigned_abs scale.q0)) ≤ℤ (pos r *ℤ pos (unsigned_abs scale.floor)) = omega (arith, ints, up, left, right) in
    subst (λ t. (pos m *ℤ t) ≤ℤ (pos r *ℤ scale.floor)) q0 (subst (λ t. (pos m *ℤ pos (unsigned_abs scale.q0)) ≤ℤ (pos r *ℤ t)) floor order)

half_large : (r : ℕ) → (pos 5 *ℤ pos r) ≤ℤ (pos 2 *ℤ pos (over_up (5 * r) 2))
half_large r = let up : 5 * r ≤ over_up (5 * r) 2 * 2 = over_up-is (5 * r) 2 (omega arith) in omega (arith, ints, up)

-- a radius that is written as a product
times_between : (unit : ℤ) (k r : ℕ) (c : ℤ) (x : ℚ) → Between unit (c -ℤ pos k *ℤ pos r) (c +ℤ pos k *ℤ pos r) x → Between unit (c -ℤ pos (k * r)) (c +ℤ pos (k * r)) x
times_between unit k r c x h = subst (λ t. Between unit (c -ℤ t) (c +ℤ t) x) (pos-product k r) h

-- ---- the theorem
module _ {A : Type 0} {n : Numbers A} (laws : Lawful n) {w : Wall A} {scale : Scale} {stock : List Item} {numbers : List ItemNo} (stands : StandsFor n w scale stock numbers)
    (load : Load) (range : LoadInRange scale.floor w.h load) (c : Guess) where
  abbrev loads : Six A
  loads = formulas.loads n.calc scale.q0 w.h load

  abbrev rest : Six Ends
  rest = residual n w loads c

  abbrev left : ℕ
  left = over_up (greatest_size rest) (unit n)

  is : IsPosed scale w.h load
  is = posed stands range

  enough : greatest_size rest ≤ left * unit n
  enough = over_up-is (greatest_size rest) (unit n) (one_unit laws)

  each-held : (f : LaminateStrain) → Solves (items_of stock numbers) load f → HoldsStrains n (enclosed n scale c rest) w.h f
  each-held f solves =
      let r = radius n scale rest in
      let u = pos (unit n) in
      let near = guess-near n c.ex c.ey c.g c.kx c.ky c.kg (pos left) stands load f solves loads.ex loads.ey loads.g loads.kx loads.ky loads.kg
      (record { x = (laws.ratio _ _ (force-room is is.range.nx)).held; y = (laws.ratio _ _ (force-room is is.range.ny)).held; s = (laws.ratio _ _ (force-room is is.range.nxy)).held })
      (record { x = (laws.ratio _ _ (moment-room is load.mx is.range.mx)).held; y = (laws.ratio _ _ (moment-room is load.my is.range.my)).held; s = (laws.ratio _ _ (moment-room is load.mxy is.range.mxy)).held })
      (record { row_x = ends_within _ left _ _ (omega (arith, enough)); row_y = ends_within _ left _ _ (omega (arith, enough)); row_s = ends_within _ left _ _ (omega (arith, enough)) })
      (record { row_x = ends_within _ left _ _ (omega (arith, enough)); row_y = ends_within _ left _ _ (omega (arith, enough)); row_s = ends_within _ left _ _ (omega (arith, enough)) })
      (pos r) (pos (over_up (5 * r) 2)) (bound_large scale left is.scaled) (half_large r) in
      let strain = wall-strain stands load f solves range in
      let bending = wall-bending stands load f solves range in
      record {
        ex = around-holds laws c.ex (over_up (5 * r) 2) _ near.ex strain.x;
        ey = around-holds laws c.ey (over_up (5 * r) 2) _ near.ey strain.y;
        g = around-holds laws c.g (4 * r) _ (times_between u 4 r c.g _ near.es) strain.s;
        kx = around-holds laws c.kx (5 * r) _ (times_between u 5 r c.kx _ near.kx) bending.x;
        ky = around-holds laws c.ky (5 * r) _ (times_between u 5 r c.ky _ near.ky) bending.y;
        kg = around-holds laws c.kg (8 * r) _ (times_between u 8 r c.kg _ near.ks) bending.s;
      }

  pub enclosed-holds : HoldsEverySolution n (enclosed n scale c (residual n w (formulas.loads n.calc scale.q0 w.h load) c)) (items_of stock numbers) load
  enclosed-holds = record { each = λ f solves. subst (λ h. HoldsStrains n (enclosed n scale c rest) h f) stands.thickness (each-held f solves) }
