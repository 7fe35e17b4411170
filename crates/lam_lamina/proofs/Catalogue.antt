-- The items of a catalogue are on its scale.
use Rattle.std.proofs.Common.{refl, ◌^◌, ℤ, pos, negsuc, ◌+ℤ◌, ◌*ℤ◌, ◌≤ℤ◌, ◌<ℤ◌, List, arith}
use Rattle.std.specs.Prelude.{All, int_div}
use Rattle.std.proofs.lemmas.Int.{ints, clamps}
use Rattle.lam_fraction.proofs.Expression.{◌⊕◌, ◌⊖◌, ◌⊗◌}
use Rattle.lam_fraction.proofs.Solver.{◌≐◌}
use Rattle.lam_fraction.proofs.Integers as Z
use Rattle.lam_stock.specs.Limits.{ModuliInRange}
use Rattle.lam_stock.specs.Moduli.{stiffness_cap, stiffness_floor}
use Rattle.lam_stock.specs.Scale.{IsScaleOf}
use Rattle.lam_stock.specs.Stock.{WithinLimits}
use Rattle.lam_stock.specs.declared.item.Item.{Item}
use Rattle.lam_stock.specs.declared.item.Lamina.{Lamina}
use Rattle.lam_stock.specs.declared.scale.Scale.{Scale}
use Rattle.lam_lamina.specs.Covered.{IsCovered}
use Rattle.lam_stock.specs.Energy.{LayerEnergyBetween}
use Rattle.lam_lamina.proofs.Bounds.{elastic, spans}
use Rattle.lam_lamina.proofs.Form.{form-least, form-greatest}
use Rattle.lam_lamina.proofs.Moduli.{Underlies}

at_most_stiff : (l : Lamina) → ModuliInRange l → stiffness_cap l ≤ℤ pos (2 ^ 21)
at_most_stiff l range = omega (arith, ints, clamps, range.greatest_e1, range.greatest_e2, range.greatest_g12)

-- a quotient, rounded towards 0, times the divisor
quotient-times : (a d : ℤ) → pos 0 ≤ℤ a → pos 0 <ℤ d → (int_div a d *ℤ d) ≤ℤ a
quotient-times (pos a) (pos d) h k = omega (arith, ints)
quotient-times (pos a) (negsuc d) h k = absurd (omega (arith, ints))
quotient-times (negsuc a) d h k = absurd (omega (arith, ints))

soft_underlies : (floor : ℤ) (l : Lamina) → ModuliInRange l → floor ≤ℤ stiffness_floor l → Underlies floor l
soft_underlies floor l range soft =
    let along : pos 0 ≤ℤ l.e1 = omega (arith, ints, range.least_e1) in
    let across : pos 0 ≤ℤ l.e2 = omega (arith, ints, range.least_e2) in
    let sum : pos 0 <ℤ (l.e1 +ℤ l.e2) = omega (arith, ints, range.least_e1, range.least_e2) in
    let product : pos 0 ≤ℤ (l.e1 *ℤ l.e2) = Z.◌*ₙ◌ along across in
    let harmonic : floor ≤ℤ int_div (l.e1 *ℤ l.e2) (l.e1 +ℤ l.e2) = omega (arith, ints, clamps, soft) in
    record {
      normal = times (l.e1 +ℤ l.e2) floor (int_div (l.e1 *ℤ l.e2) (l.e1 +ℤ l.e2)) (l.e1 *ℤ l.e2) sum harmonic (quotient-times (l.e1 *ℤ l.e2) (l.e1 +ℤ l.e2) product sum);
      shear = omega (arith, ints, clamps, soft);
    }
  where
    times : (d x y a : ℤ) → pos 0 <ℤ d → x ≤ℤ y → (y *ℤ d) ≤ℤ a → (x *ℤ d) ≤ℤ a
    times d x y a p h k = Z.at_most (Z.◌+ₙ◌ (Z.◌*ₙ◌ (Z.weaken p) (Z.above h)) (Z.above k)) (Z.solve 4 (λ d x y a. a ⊖ x ⊗ d ≐ d ⊗ (y ⊖ x) ⊕ (a ⊖ y ⊗ d)) refl d x y a)

module _ (items : List Item) (scale : Scale) (limits : All WithinLimits items) (is_scale : IsScaleOf items scale) where
  -- the scale covers each item
  pub catalogue-covered : All (λ i. IsCovered scale.q0 i.lamina) items
  catalogue-covered = λ k d within. record {
    range = (limits k d within).limits.range.moduli;
    poisson = (limits k d within).limits.poisson;
    covered = is_scale.covers k d within;
    greatest = small (is_scale.least_power 21 (λ j e inside. at_most_stiff _ (limits j e inside).limits.range.moduli));
  }
    where
      small : {q : ℤ} → q ≤ℤ pos (2 ^ 21) → q ≤ℤ pos 4194304
      small h = omega (arith, ints)

  -- and its floor lies under each
  pub catalogue-underlies : All (λ i. Underlies scale.floor i.lamina) items
  catalogue-underlies = λ k d within. soft_underlies scale.floor _ (limits k d within).limits.range.moduli (is_scale.below k d within)

  -- so the work of each layer lies between them
  pub catalogue-works : All (LayerEnergyBetween scale.floor scale.q0) items
  catalogue-works = λ k d within e. (
    form-least _ (elastic (catalogue-covered k d within)) (catalogue-underlies k d within) (limits k d within).direction e,
    form-greatest _ (elastic (catalogue-covered k d within)) (spans (catalogue-covered k d within)) (limits k d within).direction e,
  )
