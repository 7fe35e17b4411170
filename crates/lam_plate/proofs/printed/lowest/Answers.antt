use Rattle.std.proofs.Common.{sym, ◌∙◌, ap₂, ℕ, arith}
use Rattle.lam_plate.specs.inside.Formulas as by
use Rattle.lam_plate.proofs.PanelSteps.{lowest-none, lowest-more}
use Rattle.lam_plate.proofs.printed.lowest.Goals as goal

pub loop-passed-init : goal.loop-passed-init
loop-passed-init g c = record { ratio = sym (lowest-none g.N.Enclosure.numbers c.args.plate.now); bound = omega arith }

pub loop-passed-preserved : goal.loop-passed-preserved
loop-passed-preserved g c =
    let n = g.N.Enclosure.numbers in
    let p = c.args.plate.now in
    record {
      ratio = c.lowered-ratio.ensures.value ∙ ap₂ (λ w (k : ℕ). by.lowered (by.meets_at n p w) k) c.in_waves.ensures c.loop-passed.invariant.ratio ∙ sym (lowest-more n p c.loop-passed.passed);
      bound = omega (arith, c.lowered-ratio.ensures.bound, c.loop-passed.invariant.bound);
    }
