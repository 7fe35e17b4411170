use Rattle.std.proofs.Common.{refl}
use Rattle.lam_rules.proofs.Growth.{running_none}
use Rattle.lam_rules.proofs.growing.Growing.new.Goals as goal

pub invariant_of-result : goal.invariant_of-result
invariant_of-result c =
    running_none c.args.stock.now c.args.job.now c.args.n c.new.result c.first_step-step.result c.thickest.result _ _ _ c.has_few_items.ensures
    c.requires.liner c.requires.some c.requires.few c.new.ensures c.first_step-step.ensures refl (λ d. refl) refl refl c.thickest.ensures.value
    c.thickest.ensures.least c.thickest.ensures.greatest
