use Rattle.std.proofs.Common.{◌≡◌, sym, ◌∙◌, ap, subst, ℕ, ◌≤◌, slice_get, All, Option, Some, IsTrue, not}
use Rattle.lam_job.specs.JobData.{CaseData}
use Rattle.lam_tree.specs.Closings.{IsBelow}
use Rattle.lam_tree.specs.ForceBalance.{net_cost}
use Rattle.lam_tree.specs.TriedWeights.{tried_weights}
use Rattle.lam_bounds.specs.inside.Computed.{capacity_value}
use Rattle.lam_check.proofs.Options.{tests_none}
use Rattle.lam_check.proofs.Tried.{found_is_one, never_false, not_below}
use Rattle.lam_check.proofs.splitting.is_cheap.Goals as goal

pub returns-in-Some : goal.returns-in-Some
returns-in-Some c =
    let stock = c.args.stock.now in
    let job = c.args.job.now in
    let p = c.args.partial.now in
    let test = tests_none c.first_dear.result c.is_none.result c.is_none.ensures in
    subst (λ (o : Option ℕ).
    (IsTrue c.is_none.result → (k : ℕ) (case : CaseData) → slice_get job.cases k ≡ Some case
    → All (λ w. IsBelow (net_cost stock job p case w (λ i. capacity_value i w)) o) tried_weights)
    × (((k : ℕ) (case : CaseData) → slice_get job.cases k ≡ Some case
    → All (λ w. IsBelow (net_cost stock job p case w (λ i. capacity_value i w)) o) tried_weights) → IsTrue c.is_none.result))
    (sym c.in-Some.is) (
      (λ it. c.first_dear.ensures.none (test.0 it)),
      (λ all. never_false c.is_none.result (λ some. found_is_one job.cases
          (λ case w. c.in-Some.cost ≤ net_cost stock job p case w (λ i. capacity_value i w))
          c.first_dear.result (c.is_none.ensures ∙ ap not some) c.first_dear.ensures.some c.first_dear.ensures.tried
          (λ k case is. not_below c.in-Some.cost (λ w. net_cost stock job p case w (λ i. capacity_value i w)) (all k case is)))),
    )
