use Rattle.std.proofs.Common.{◌<◌, ◌^◌, arith}
use Rattle.std.proofs.lemmas.Grind.{common_steps}
use Rattle.lam_stock.proofs.Digits.{below_power}
use Rattle.lam_stock.proofs.field.value.Goals as goal

pub overflow_mul-value : goal.overflow_mul-value
overflow_mul-value c =
    omega (arith, below_power c.loop-digit.value c.loop-digit.digit-index 15 c.loop-digit.invariant.small (omega arith))

pub overflow_add-value : goal.overflow_add-value
overflow_add-value c =
    let small : c.loop-digit.value < 10 ^ 15 = below_power c.loop-digit.value c.loop-digit.digit-index 15 c.loop-digit.invariant.small (omega arith) in
    grind (arith, common_steps)

pub returns-clause-small : goal.returns-clause-small
returns-clause-small c =
    below_power c.loop-digit.value c.loop-digit.digit-index 15 c.loop-digit.invariant.small (omega arith)
