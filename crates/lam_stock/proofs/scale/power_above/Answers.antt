use Rattle.std.proofs.Common.{arith, refl, sym, ◌∙◌}
use Rattle.lam_stock.proofs.ScaleSteps.{power-found, power-more}
use Rattle.lam_stock.proofs.scale.power_above.Goals as goal

pub loop-power-init : goal.loop-power-init
loop-power-init c = record { least = omega arith; greatest = omega arith; left = (64, refl, refl) }

pub loop-power-preserved : goal.loop-power-preserved
loop-power-preserved c =
    let left = c.loop-power.invariant.left in
    let more = power-more left.0 c.loop-power.power c.args.most left.1 c.loop-power-test.true c.requires in
    record { least = omega arith; greatest = omega arith; left = (more.0, more.1, sym more.2 ∙ left.2) }

pub returns-clause-value : goal.returns-clause-value
returns-clause-value c =
    let left = c.loop-power.invariant.left in
    sym (power-found left.0 c.loop-power.power c.args.most c.loop-power-test.false) ∙ left.2
