use Rattle.std.proofs.Common.{ap, ap₂, ◌∙◌, ◌+◌, ◌*◌, ◌-◌, length, get_or, arith}
use Rattle.std.proofs.Math.Nat.{mul-le-mul}
use Rattle.lam_bounds.specs.inside.RunningSums.{places_of}
use Rattle.lam_bounds.proofs.RunningSteps.{item-few, item-cost, places-some, any-default, pushed}
use Rattle.lam_bounds.proofs.Walking.{sum-few, sum-cost}
use Rattle.lam_bounds.proofs.fixed.Fixed.push.Goals as goal

pub add-requires-clause-item : goal.add-requires-clause-item
add-requires-clause-item c = item-few c.requires.partial c.requires.bounds c.args.item c.requires.item c.requires.more

pub add-requires-clause-room : goal.add-requires-clause-room
add-requires-clause-room c = λ k d within.
    let long = c.requires.sums.long in
    let few = sum-few c.requires.partial c.requires.bounds c.requires.sums k (omega (arith, long, within)) in
    let same = any-default c.args.self.now.carried k d 0 within in
    omega (arith, few, same)

pub overflow_mul-self : goal.overflow_mul-self
overflow_mul-self c =
    let each = item-cost c.requires.partial c.requires.bounds c.args.item c.requires.item c.requires.more in
    let most = mul-le-mul c.places-places.ensures.few each in
    let same = ap (λ q. q * get_or c.args.bounds.now.costs c.args.item.0 0) c.from.ensures in
    omega (arith, most, same)

pub overflow_add-self : goal.overflow_add-self
overflow_add-self c =
    let each = item-cost c.requires.partial c.requires.bounds c.args.item c.requires.item c.requires.more in
    let most = mul-le-mul c.places-places.ensures.few each in
    let same = ap (λ q. q * get_or c.args.bounds.now.costs c.args.item.0 0) c.from.ensures in
    let few = sum-cost c.requires.partial c.requires.bounds c.requires.sums in
    omega (arith, most, same, few, c.add.ensures.cost)

pub overflow_sub-self : goal.overflow_sub-self
overflow_sub-self c =
    let is = c.places-places.ensures.value ∙ ap (λ l. places_of c.args.job.now c.partial.inside.n (length l)) c.items.ensures.items ∙ ap (λ q. places_of c.args.job.now q.n (length q.prefix)) c.partial.view_is in
    let some = places-some c.requires.partial c.requires.bounds c.args.item c.requires.item c.requires.more in
    omega (arith, is, some, c.requires.sums.places, c.add.ensures.places)

pub returns : goal.returns
returns c =
    let is = c.places-places.ensures.value ∙ ap (λ l. places_of c.args.job.now c.partial.inside.n (length l)) c.items.ensures.items ∙ ap (λ q. places_of c.args.job.now q.n (length q.prefix)) c.partial.view_is in
    let cost = ap₂ (λ m q. m + q * get_or c.args.bounds.now.costs c.args.item.0 0) c.add.ensures.cost c.from.ensures in
    pushed c.requires.partial c.requires.bounds c.args.item c.requires.item c.requires.more c.args.self.now _ c.places-places.result is c.requires.sums cost c.add.ensures.long c.add.ensures.carried
    (ap (λ m. m - c.places-places.result) c.add.ensures.places)
