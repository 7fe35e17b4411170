use Rattle.std.proofs.Common.{ap, subst, length, take, drop, arith}
use Rattle.lam_search.specs.inside.Ordered.{IsEachOnce}
use Rattle.lam_search.proofs.Ordering.{order-once}
use Rattle.lam_search.proofs.order.Order.of.Goals as goal

pub returns-clause-once : goal.returns-clause-once
returns-clause-once g c =
    let keys = c.ranked-keys.result in
    let count = length c.items-count.result.now in
    let same = ap length c.items-count.ensures.items in
    let few = c.items-count.ensures.few in
    let long = c.ranked-keys.ensures.long in
    subst (λ n. IsEachOnce n (take count c.items_of.result)) same
    (order-once count keys c.sort_unstable.new.self (drop count keys) c.items_of.result (omega (arith, same, few, long))
    (λ k less. c.ranked-keys.ensures.numbers k (omega (arith, same, less))) c.sort_unstable.ensures.permutation c.sort_unstable.ensures.len c.items_of.ensures)
