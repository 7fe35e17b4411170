use Rattle.std.proofs.Common.{length-take, arith}
use Rattle.std.proofs.lemmas.Int.{ints}
use Rattle.lam_wall.proofs.FacePlaces.{place-is, face-is, face-inner, face-outer, face-greatest}
use Rattle.lam_wall.proofs.plies.face.Goals as goal

pub returns-clause-value : goal.returns-clause-value
returns-clause-value c =
    let below = c.thickness_of-below.ensures in
    let whole = c.thickness_of.ensures in
    let few = c.items-numbers.ensures.few in
    let fewer = length-take c.from.result c.items-numbers.result.now in
    face-is c.args.stock.now c.args.wall.now c.args.k c.requires.known c.requires.within
    (place-is c.args.stock.now c.args.wall.now c.args.k c.items-items.result.now c.items-numbers.result.now c.from.result
    c.thickness_of-below.result c.thickness_of.result c.items-items.ensures.items c.items-numbers.ensures.items c.from.ensures
    below.value whole.value (omega (arith, ints, below.least)) (omega (arith, ints, below.greatest, fewer, few)) (omega (arith, ints, whole.least)) (omega (arith, ints, whole.greatest, few)))

pub returns-clause-inner : goal.returns-clause-inner
returns-clause-inner c = face-inner c.args.stock.now c.args.wall.now c.args.k c.requires.known c.requires.within (returns-clause-value c)

pub returns-clause-outer : goal.returns-clause-outer
returns-clause-outer c = face-outer c.args.stock.now c.args.wall.now c.args.k c.requires.known c.requires.within (returns-clause-value c)

pub returns-clause-greatest : goal.returns-clause-greatest
returns-clause-greatest c =
    face-greatest c.args.stock.now c.args.wall.now c.args.k c.requires.known c.requires.within (returns-clause-value c) c.items-items.ensures.limits
