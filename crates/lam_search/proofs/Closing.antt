-- What closes a partial schedule holds there.
use Rattle.std.proofs.Common.{◌≡◌, sym, subst, ◌≤◌, ◌⊎◌, inr, List, Option, Some, None, IsSomeAnd, IfSome, arith}
use Rattle.lam_stock.specs.declared.item.Item.{Item}
use Rattle.lam_stock.specs.declared.item.ItemNo.{ItemNo}
use Rattle.lam_job.specs.JobData.{JobData, CaseData}
use Rattle.lam_job.specs.Rules.{Breaks, IsLeastBroken}
use Rattle.lam_job.proofs.Completions.{only_completion}
use Rattle.lam_rules.specs.declared.rule.RuleNo.{RuleNo}
use Rattle.lam_rules.specs.LeastVisible.{IsLeastVisible}
use Rattle.lam_search.specs.inside.Ready.{IsSeen}
use Rattle.std.specs.Prelude.{IsNone}
use Rattle.lam_job.specs.Schedule.{cost_of}
use Rattle.lam_job.specs.Partial.{Partial, ForEveryCompletion, IsFull, SeemsWell, completion}
use Rattle.lam_rules.specs.Conditions.{IsPartial}
use Rattle.lam_bounds.specs.declared.bounds.Bounds.{Bounds}
use Rattle.lam_bounds.specs.declared.fixed.Fixed.{Fixed}
use Rattle.lam_bounds.specs.inside.Tables.{AreBoundsOf}
use Rattle.lam_bounds.specs.inside.RunningSums.{AreSumsOf}
use Rattle.lam_bounds.proofs.Walking.{sum-cost}
use Rattle.lam_tree.specs.declared.limits.TheConstants.{MOST_COST}

-- the fixed plies cost no more than is told
pub small-cost : (stock : List Item) (job : JobData) (p : Partial) (b : Bounds) (f : Fixed)
    → IsPartial stock job p → AreBoundsOf stock job b → AreSumsOf stock job p f → cost_of stock job (completion job p) ≤ MOST_COST
small-cost stock job p b f part bounds sums =
    let few = sum-cost part bounds sums in
    let is = sums.cost in
    omega (arith, few, is)

-- of a case that is, one or the other is so
pub case-either : (o : Option CaseData) (P Q : CaseData → Type 0) → IsSomeAnd o Q → IsSomeAnd o (λ c. P c ⊎ Q c)
case-either None P Q so = so
case-either (Some c) P Q so = inr so

-- ---- the first rule that is seen to be broken

pub seen-full : (stock : List Item) (job : JobData) (p : Partial) (seen : Option RuleNo) (listed : List ItemNo) → IsFull job p → listed ≡ completion job p
    → IfSome seen (λ rule. IsLeastBroken rule.0 stock job listed) → IfSome seen (λ rule. (1 ≤ rule.0) × (rule.0 ≤ 9)) → IsSeen stock job p seen
seen-full stock job p None listed full is least number =
    record { none = λ none open_still. absurd (open_still full); some = tt; number = tt; so = tt }
seen-full stock job p (Some rule) listed full is least number =
    let own = subst (IsLeastBroken rule.0 stock job) is least in
    record {
      none = λ none open_still. absurd (open_still full);
      some = record { broken = λ _. own; visible = λ open_still. absurd (open_still full) };
      number = number;
      so = λ other completes. subst (Breaks rule.0 stock job) (sym (only_completion stock job p other full completes)) own.broken;
    }

pub seen-open : (stock : List Item) (job : JobData) (p : Partial) (seen : Option RuleNo) → ¬ IsFull job p → (IsNone seen → SeemsWell stock job p)
    → IfSome seen (λ rule. IsLeastVisible rule.0 stock job p) → IfSome seen (λ rule. (1 ≤ rule.0) × (rule.0 ≤ 9))
    → IfSome seen (λ rule. ForEveryCompletion stock job p (Breaks rule.0 stock job)) → IsSeen stock job p seen
seen-open stock job p None open_still well least number so = record { none = λ none _. well none; some = tt; number = tt; so = tt }
seen-open stock job p (Some rule) open_still well least number so = record {
  none = λ none _. well none;
  some = record { broken = λ full. absurd (open_still full); visible = λ _. least };
  number = number;
  so = so;
}
