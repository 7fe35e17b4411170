use Rattle.std.proofs.Common.{below_more}
use Rattle.lam_tree.specs.ForceBalance.{IsShort}
use Rattle.lam_bounds.specs.inside.Computed.{capacity_value}
use Rattle.lam_bounds.proofs.Walking.{not-of-case}
use Rattle.lam_bounds.proofs.closings.short_weight.Goals as goal

pub returns-then-net_short_at-clause-some : goal.returns-then-net_short_at-clause-some
returns-then-net_short_at-clause-some c = λ w tried. (c.net_short_at.ensures.value w tried).0 c.if-net_short_at.true

pub loop-k-preserved : goal.loop-k-preserved
loop-k-preserved c =
    below_more _ _ c.loop-k.invariant
    (λ w tried case at. not-of-case c.args.job.now.cases c.args.case (λ d. IsShort c.args.stock.now c.args.job.now c.args.partial.now d w (λ i. capacity_value i w)) c.net_short_at.result c.if-net_short_at.false
    (c.net_short_at.ensures.value w tried) case at)
