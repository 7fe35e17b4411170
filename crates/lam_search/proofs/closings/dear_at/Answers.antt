use Rattle.std.proofs.Common.{◌≡◌, ℕ, sym, subst, slice_get, All, Option, Some, IsNone}
use Rattle.lam_job.specs.JobData.{CaseData}
use Rattle.lam_tree.specs.Closings.{IsBelow}
use Rattle.lam_tree.specs.ForceBalance.{net_cost}
use Rattle.lam_tree.specs.TriedWeights.{tried_weights}
use Rattle.lam_bounds.specs.inside.Computed.{capacity_value}
use Rattle.lam_search.proofs.closings.dear_at.Goals as goal

pub returns-in-Some-clause-none : goal.returns-in-Some-clause-none
returns-in-Some-clause-none c =
    let stock = c.args.design.now.stock.now in
    let job = c.args.design.now.job.now in
    let p = c.args.partial.now in
    subst (λ (o : Option ℕ). IsNone c.dear_below.result → (k : ℕ) (case : CaseData) → slice_get job.cases k ≡ Some case
    → All (λ w. IsBelow (net_cost stock job p case w (λ i. capacity_value i w)) o) tried_weights) (sym c.in-Some.is) c.dear_below.ensures.none
