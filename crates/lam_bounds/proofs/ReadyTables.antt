-- The table of a tried weight.
use Rattle.std.proofs.Common.{◌≡◌, subst, ◌<◌, ℕ, List, length, get_or, slice_get, Some, sym, arith}
use Rattle.std.proofs.lemmas.Option.{slice_get-get_or, slice_get_within}
use Rattle.lam_stock.specs.declared.item.Item.{Item}
use Rattle.lam_job.specs.JobData.{JobData}
use Rattle.lam_support.specs.declared.weight.Weight.{Weight}
use Rattle.lam_tree.specs.TriedWeights.{tried_weights}
use Rattle.lam_bounds.specs.declared.bounds.Tried.{Tried}
use Rattle.lam_bounds.specs.declared.bounds.Bounds.{Bounds}
use Rattle.lam_bounds.specs.inside.Computed.{capacity_value}
use Rattle.lam_bounds.specs.inside.Tables.{AreBoundsOf, AreCarriers}
use Rattle.lam_bounds.proofs.Walking.{twelve}

-- what the items carry of it
pub ready-carriers : {stock : List Item} {job : JobData} {b : Bounds} → AreBoundsOf stock job b → (k : ℕ) (w : Weight) → slice_get tried_weights k ≡ Some w → (t : Tried)
    → AreCarriers (λ i. capacity_value i w) stock (get_or b.tried k t).carriers
ready-carriers {b = b} are k w tried t =
    let few : k < length tried_weights = slice_get_within tried_weights k w tried in
    let within : k < length b.tried = omega (arith, few, twelve, are.long) in
    (are.each k w (get_or b.tried k t) tried (slice_get-get_or b.tried k t within)).carriers
