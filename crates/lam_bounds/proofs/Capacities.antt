-- What is computed of an item is a capacity: at least 1, and at least what its layer carries inside its surface.
use Rattle.std.proofs.Common.{◌≡◌, refl, ◌≤◌, List, All}
use Rattle.std.proofs.lemmas.List.Elements.{All-weaker}
use Rattle.lam_direction.proofs.SquareBounds.{squares-within}
use Rattle.lam_stock.specs.declared.item.Item.{Item}
use Rattle.lam_stock.specs.Stock.{WithinLimits}
use Rattle.lam_stock.proofs.StrengthBounds.{strengths_kept}
use Rattle.lam_support.specs.declared.weight.Weight.{Weight}
use Rattle.lam_number.specs.inside.FixNumbers.{fix_numbers}
use Rattle.lam_support.specs.inside.Formulas as by
use Rattle.lam_support.proofs.CapacityFacts.{bound, at_least_one}
use Rattle.lam_bounds.specs.inside.Computed.{capacity_value}
use Rattle.lam_bounds.proofs.WallForces.{AreCapacities}

module _ (w : Weight) where
  bounded : (i : Item) → WithinLimits i → AreCapacities w (λ j. capacity_value j w) i
  unfolding capacity_value
  bounded i h = bound (strengths_kept h.limits) h.limits.range.rest.least_t w h.direction (squares-within h.direction refl) i.kind

  some : (i : Item) → WithinLimits i → 1 ≤ capacity_value i w
  unfolding capacity_value
  some i h = at_least_one (strengths_kept h.limits) h.limits.range.rest.least_t w h.direction (squares-within h.direction refl) i.kind

  pub are_capacities : (stock : List Item) → All WithinLimits stock → All (AreCapacities w (λ i. capacity_value i w)) stock
  are_capacities stock limits = All-weaker WithinLimits (AreCapacities w (λ i. capacity_value i w)) bounded stock limits

  pub capacities_some : (stock : List Item) → All WithinLimits stock → All (λ i. 1 ≤ capacity_value i w) stock
  capacities_some stock limits = All-weaker WithinLimits (λ i. 1 ≤ capacity_value i w) some stock limits

pub capacity-is : (i : Item) (w : Weight) → by.capacity (fix_numbers 60) i.kind i.lamina i.dir w ≡ capacity_value i w
unfolding capacity_value
capacity-is i w = refl
