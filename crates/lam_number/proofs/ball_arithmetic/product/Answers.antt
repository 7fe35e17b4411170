use Rattle.std.proofs.Common.{arith}
use Rattle.std.proofs.lemmas.Int.{ints}
use Rattle.lam_number.proofs.Balls.{ball_is, bounded_as}
use Rattle.lam_number.proofs.Casts.{read_narrow}
use Rattle.lam_number.specs.inside.BallFacts.{product-ball}
use Rattle.lam_number.proofs.ball_arithmetic.product.Goals as goal

pub invariant_of-result-clause-positive : goal.invariant_of-result-clause-positive
invariant_of-result-clause-positive c =
    let ball = product-ball c.args.x c.args.y c.requires in
    omega (arith, ints, c.product_radius.ensures, ball.positive, ball.bounded)

pub invariant_of-result-clause-bounded : goal.invariant_of-result-clause-bounded
invariant_of-result-clause-bounded c =
    bounded_as _ _ _ _ (read_narrow c.product_middle.result _ (record { sfits = c.product_middle.type_inv }) c.product_middle.ensures)
    (read_narrow c.product_radius.result _ (record { sfits = c.product_radius.type_inv }) c.product_radius.ensures)
    (product-ball c.args.x c.args.y c.requires).bounded

pub returns : goal.returns
returns c =
    ball_is _ _ _ (read_narrow _ _ (record { sfits = c.product_middle.type_inv }) c.product_middle.ensures)
    (read_narrow _ _ (record { sfits = c.product_radius.type_inv }) c.product_radius.ensures)
