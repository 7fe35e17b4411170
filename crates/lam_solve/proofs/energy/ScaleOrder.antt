-- The floor of a catalogue is at most its scale, since both bound the quadratic form of a wall.
use Rattle.std.proofs.Common.{◌≡◌, refl, subst, pos, ◌≤ℤ◌, List}
use Rattle.lam_fraction.specs.Fraction.{whole, fraction, inverse, ◌-ℚ◌, ◌*ℚ◌, ◌/ℚ◌, ◌≤ℚ◌}
use Rattle.lam_fraction.proofs.Expression.{Expr, int, ◌⊕◌, ◌⊖◌, ◌⊗◌}
use Rattle.lam_fraction.proofs.Solver.{◌≐◌}
use Rattle.lam_fraction.proofs.FractionBounds.{fraction-times, whole_positive}
use Rattle.lam_fraction.proofs.FractionPairs.{whole-le}
use Rattle.lam_fraction.proofs.Rationals.{solve, from₁, above, at_most, transitive, weaken, ◌*ₙ◌}
use Rattle.lam_stock.specs.declared.item.ItemNo.{ItemNo}
use Rattle.lam_stock.specs.declared.item.Item.{Item}
use Rattle.lam_stock.specs.declared.scale.Scale.{Scale}
use Rattle.lam_lamina.specs.Stiffness.{unit_x}
use Rattle.lam_wall.specs.Assembled.{ArePlies}
use Rattle.lam_wall.specs.Energy.{mean_squares}
use Rattle.lam_wall.specs.Matrices.{matrices, stiffness_of}
use Rattle.lam_wall.proofs.CatalogueWalls.{plies-exact, plies-form, scale-above}
use Rattle.lam_wall.proofs.OffAxes.{none}

square_of_one : mean_squares unit_x none ≡ whole (pos 1)
unfolding ◌-ℚ◌ ◌/ℚ◌
square_of_one = solve 2 (λ h i.
    let zero : Expr = int (pos 0) ⊗ int (pos 0) in
    (int (pos 1) ⊗ int (pos 1) ⊕ zero ⊕ h ⊗ zero) ⊕ (zero ⊕ zero ⊕ h ⊗ zero) ⊗ i ≐ int (pos 1)) refl
    (fraction (pos 1) (pos 2)) (inverse (whole (pos 3)))

pub scale-order : {scale : Scale} {stock : List Item} {numbers : List ItemNo} → ArePlies scale stock numbers → scale.floor ≤ℤ scale.q0
unfolding ◌-ℚ◌
scale-order {scale} {stock} {numbers} k =
    let form = plies-form k (matrices (stiffness_of scale.q0) _) unit_x none (plies-exact k) in
    let ratio = fraction scale.floor scale.q0 in
    let one = whole (pos 1) in
    let size : ratio *ℚ one ≤ℚ one = subst (λ s. ratio *ℚ s ≤ℚ s) square_of_one (transitive form.0 form.1) in
    let above_scale = scale-above k.catalogue numbers in
    (whole-le scale.floor scale.q0).0 (at_most (weaken (whole_positive above_scale) *ₙ above size)
    (from₁ one (fraction-times scale.floor scale.q0 above_scale) (solve 3 (λ p q f. q ⊖ f ≐ q ⊗ (int (pos 1) ⊖ p ⊗ int (pos 1)) ⊕ int (pos 1) ⊗ (p ⊗ q ⊖ f)) refl ratio (whole scale.q0) (whole scale.floor))))
