use Rattle.std.proofs.Common.{below_more, subst, ◌≡◌, ◌<◌, ◌≤◌}
use Rattle.lam_job.specs.JobData.{CaseData}
use Rattle.lam_tree.specs.ForceBalance.{net_cost}
use Rattle.lam_bounds.specs.inside.Computed.{capacity_value}
use Rattle.lam_bounds.proofs.Facts.{of-case, case-of}
use Rattle.lam_bounds.proofs.closings.dear_weight.Goals as goal

pub returns-then-net_cost_at-limit-clause-some : goal.returns-then-net_cost_at-limit-clause-some
returns-then-net_cost_at-limit-clause-some c = λ w tried.
    let cost = λ (d : CaseData). net_cost c.args.stock.now c.args.job.now c.args.partial.now d w (λ i. capacity_value i w) in
    of-case c.args.job.now.cases c.args.case (λ d. c.args.limit ≤ cost d) c.requires.case
    (λ d e. subst (λ m. c.args.limit ≤ m) (case-of c.args.job.now.cases c.args.case (λ d. c.net_cost_at.result ≡ cost d) d e (c.net_cost_at.ensures.value w tried)) c.if-net_cost_at-limit.true)

pub loop-k-preserved : goal.loop-k-preserved
loop-k-preserved c =
    below_more _ _ c.loop-k.invariant
    (λ w tried case at.
    let cost = λ (d : CaseData). net_cost c.args.stock.now c.args.job.now c.args.partial.now d w (λ i. capacity_value i w) in
    subst (λ m. m < c.args.limit) (case-of c.args.job.now.cases c.args.case (λ d. c.net_cost_at.result ≡ cost d) case at (c.net_cost_at.ensures.value w tried)) c.if-net_cost_at-limit.false)
