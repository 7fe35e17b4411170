use Rattle.std.proofs.Common.{◌≡◌, ◌∙◌, ◌+ℤ◌, ◌-ℤ◌, to_z, of_z, arith}
use Rattle.std.proofs.lemmas.Int.{ints}
use Rattle.std.specs.Int.{w64}
use Rattle.lam_fraction.specs.numbers.Rounding.{floor_over}
use Rattle.lam_number.proofs.Balls.{ball_is, bounded_as}
use Rattle.lam_number.proofs.Casts.{read_narrow, two_ends}
use Rattle.lam_number.specs.inside.BallFacts.{hull-ball}
use Rattle.lam_number.proofs.ball_arithmetic.between.Goals as goal

pub overflow_sub-result : goal.overflow_sub-result
overflow_sub-result c =
    let value = c.half_sum-middle.ensures ∙ two_ends (λ p q. floor_over (p +ℤ q) 2) c.args.low c.args.high c.ranges.low c.ranges.high in
    let ball = hull-ball c.args.low c.args.high c.requires.order c.requires.room in
    omega (arith, ints, value, ball.positive, ball.bounded)

pub invariant_of-result-clause-positive : goal.invariant_of-result-clause-positive
invariant_of-result-clause-positive c =
    let value = c.half_sum-middle.ensures ∙ two_ends (λ p q. floor_over (p +ℤ q) 2) c.args.low c.args.high c.ranges.low c.ranges.high in
    let ball = hull-ball c.args.low c.args.high c.requires.order c.requires.room in
    omega (arith, ints, value, ball.positive, ball.bounded)

pub invariant_of-result-clause-bounded : goal.invariant_of-result-clause-bounded
invariant_of-result-clause-bounded c =
    let low = c.args.low in
    let high = c.args.high in
    let value = c.half_sum-middle.ensures ∙ two_ends (λ p q. floor_over (p +ℤ q) 2) low high c.ranges.low c.ranges.high in
    let ball = hull-ball low high c.requires.order c.requires.room in
    let radius : to_z w64 (of_z w64 (to_z w64 (of_z w64 high) -ℤ to_z w64 (of_z w64 c.half_sum-middle.result))) ≡ high -ℤ floor_over (low +ℤ high) 2 = omega (arith, ints, value, ball.positive, ball.bounded) in
    bounded_as _ _ _ _ (read_narrow c.half_sum-middle.result _ (record { sfits = c.half_sum-middle.type_inv }) value) radius ball.bounded

pub returns : goal.returns
returns c =
    let low = c.args.low in
    let high = c.args.high in
    let value = c.half_sum-middle.ensures ∙ two_ends (λ p q. floor_over (p +ℤ q) 2) low high c.ranges.low c.ranges.high in
    let ball = hull-ball low high c.requires.order c.requires.room in
    ball_is _ _ _ (read_narrow _ _ (record { sfits = c.half_sum-middle.type_inv }) value) (omega (arith, ints, value, ball.positive, ball.bounded))
