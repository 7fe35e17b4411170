use Rattle.std.proofs.Common.{◌∙◌, arith}
use Rattle.std.proofs.lemmas.Int.{ints}
use Rattle.lam_number.proofs.Balls.{spread_parts, spread_bound}
use Rattle.lam_number.proofs.ball_arithmetic.spread.Goals as goal

pub spread_round-requires-clause-room : goal.spread_round-requires-clause-room
spread_round-requires-clause-room c =
    let x = c.args.x in
    let y = c.args.y in
    let parts = spread_parts x y c.size.result c.size-2.result c.size-3.result c.size-4.result
    (omega (arith, ints, c.size.ensures.value, x.bounded)) (omega (arith, ints, c.size-2.ensures.value, x.bounded))
    (omega (arith, ints, c.size-3.ensures.value, y.bounded)) (omega (arith, ints, c.size-4.ensures.value, y.bounded)) in
    omega (arith, parts, spread_bound x y c.requires)

pub returns-clause-value : goal.returns-clause-value
returns-clause-value c =
    let x = c.args.x in
    let y = c.args.y in
    c.spread_round.ensures ∙ spread_parts x y c.size.result c.size-2.result c.size-3.result c.size-4.result
    (omega (arith, ints, c.size.ensures.value, x.bounded)) (omega (arith, ints, c.size-2.ensures.value, x.bounded))
    (omega (arith, ints, c.size-3.ensures.value, y.bounded)) (omega (arith, ints, c.size-4.ensures.value, y.bounded))

pub returns-clause-bound : goal.returns-clause-bound
returns-clause-bound c =
    let x = c.args.x in
    let y = c.args.y in
    let value = c.spread_round.ensures ∙ spread_parts x y c.size.result c.size-2.result c.size-3.result c.size-4.result
    (omega (arith, ints, c.size.ensures.value, x.bounded)) (omega (arith, ints, c.size-2.ensures.value, x.bounded))
    (omega (arith, ints, c.size-3.ensures.value, y.bounded)) (omega (arith, ints, c.size-4.ensures.value, y.bounded)) in
    omega (arith, value, spread_bound x y c.requires)
