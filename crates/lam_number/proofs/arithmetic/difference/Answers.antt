use Rattle.std.proofs.Common.{arith}
use Rattle.std.proofs.lemmas.Int.{ints}
use Rattle.lam_fraction.proofs.numbers.Sizes.{low-reach, high-reach}
use Rattle.lam_number.proofs.Sizes.{unit_bound}
use Rattle.lam_number.proofs.FixFacts.{fix_is}
use Rattle.lam_number.proofs.arithmetic.difference.Goals as goal

pub narrow-requires : goal.narrow-requires
narrow-requires g c =
    let x = c.args.x in
    let y = c.args.y in
    omega (arith, ints, low-reach x.low x.high, high-reach y.low y.high, unit_bound g.row.S c.requires.scale.1)

pub narrow-requires-2 : goal.narrow-requires-2
narrow-requires-2 g c =
    let x = c.args.x in
    let y = c.args.y in
    omega (arith, ints, high-reach x.low x.high, low-reach y.low y.high, unit_bound g.row.S c.requires.scale.1)

pub returns : goal.returns
returns g c = fix_is g.row.S _ _ _ (omega (arith, ints, c.narrow.ensures, c.end_difference.ensures)) (omega (arith, ints, c.narrow-2.ensures, c.end_difference-2.ensures))
