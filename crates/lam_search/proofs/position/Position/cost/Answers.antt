use Rattle.std.proofs.Common.{arith}
use Rattle.lam_bounds.proofs.Walking.{sum-cost}
use Rattle.lam_search.proofs.position.Position.cost.Goals as goal

pub returns-clause-small : goal.returns-clause-small
returns-clause-small c =
    let at = c.self.invariant in
    let few = sum-cost at.part at.ready.are_bounds at.sums in
    let is = c.cost.ensures in
    omega (arith, few, is)
