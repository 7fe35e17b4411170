use Rattle.std.proofs.Common.{ap, ap₂, ◌∙◌, ◌+◌, ◌*◌, ◌-◌, length, get_or, arith}
use Rattle.std.proofs.Math.Nat.{mul-le-mul}
use Rattle.lam_bounds.specs.inside.RunningSums.{places_of}
use Rattle.lam_bounds.proofs.RunningSteps.{item-few, item-cost, places-few, cost-over, had-over, popped}
use Rattle.lam_bounds.proofs.fixed.Fixed.pop.Goals as goal

pub take-requires-clause-item : goal.take-requires-clause-item
take-requires-clause-item c = item-few c.requires.partial c.requires.bounds c.args.item c.requires.item c.requires.more

pub take-requires-clause-had : goal.take-requires-clause-had
take-requires-clause-had c =
    let is = c.places-places.ensures.value ∙ ap (λ l. places_of c.args.job.now c.partial.inside.n (length l)) c.items.ensures.items ∙ ap (λ q. places_of c.args.job.now q.n (length q.prefix)) c.partial.view_is in
    had-over c.requires.partial c.requires.bounds c.args.item c.requires.item c.requires.more c.args.self.now c.places-places.result is c.requires.sums

pub overflow_mul-self : goal.overflow_mul-self
overflow_mul-self c =
    let each = item-cost c.requires.partial c.requires.bounds c.args.item c.requires.item c.requires.more in
    let most = mul-le-mul c.places-places.ensures.few each in
    let same = ap (λ q. q * get_or c.args.bounds.now.costs c.args.item.0 0) c.from.ensures in
    omega (arith, most, same)

pub overflow_sub-self : goal.overflow_sub-self
overflow_sub-self c =
    let is = c.places-places.ensures.value ∙ ap (λ l. places_of c.args.job.now c.partial.inside.n (length l)) c.items.ensures.items ∙ ap (λ q. places_of c.args.job.now q.n (length q.prefix)) c.partial.view_is in
    let over = cost-over c.requires.partial c.requires.bounds c.args.item c.requires.item c.requires.more c.args.self.now c.requires.sums in
    let same = ap (λ q. q * get_or c.args.bounds.now.costs c.args.item.0 0) (c.from.ensures ∙ is) in
    omega (arith, over, same, c.take.ensures.cost)

pub overflow_add-self : goal.overflow_add-self
overflow_add-self c =
    let few = places-few c.requires.partial c.requires.bounds c.args.item c.requires.item c.requires.more c.args.self.now c.requires.sums in
    omega (arith, few, c.take.ensures.places, c.places-places.ensures.few)

pub returns : goal.returns
returns c =
    let is = c.places-places.ensures.value ∙ ap (λ l. places_of c.args.job.now c.partial.inside.n (length l)) c.items.ensures.items ∙ ap (λ q. places_of c.args.job.now q.n (length q.prefix)) c.partial.view_is in
    let cost = ap₂ (λ m q. m - q * get_or c.args.bounds.now.costs c.args.item.0 0) c.take.ensures.cost c.from.ensures in
    popped c.requires.partial c.requires.bounds c.args.item c.requires.item c.requires.more c.args.self.now _ c.places-places.result is c.requires.sums cost c.take.ensures.long c.take.ensures.carried
    (ap (λ m. m + c.places-places.result) c.take.ensures.places)
