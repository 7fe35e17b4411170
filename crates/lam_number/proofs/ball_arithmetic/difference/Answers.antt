use Rattle.std.proofs.Common.{arith}
use Rattle.std.proofs.lemmas.Int.{ints}
use Rattle.lam_number.proofs.Balls.{ball_is, sizes}
use Rattle.lam_number.proofs.ball_arithmetic.difference.Goals as goal

pub overflow_sub-result : goal.overflow_sub-result
overflow_sub-result c = omega (arith, ints, sizes c.args.x c.args.y c.requires)

pub overflow_add-result : goal.overflow_add-result
overflow_add-result c = omega (arith, ints, sizes c.args.x c.args.y c.requires)

pub invariant_of-result-clause-positive : goal.invariant_of-result-clause-positive
invariant_of-result-clause-positive c = omega (arith, ints, sizes c.args.x c.args.y c.requires, c.args.x.positive, c.args.y.positive)

pub invariant_of-result-clause-bounded : goal.invariant_of-result-clause-bounded
invariant_of-result-clause-bounded c = omega (arith, ints, sizes c.args.x c.args.y c.requires)

pub returns : goal.returns
returns c = ball_is _ _ _ (omega (arith, ints, sizes c.args.x c.args.y c.requires)) (omega (arith, ints, sizes c.args.x c.args.y c.requires))
