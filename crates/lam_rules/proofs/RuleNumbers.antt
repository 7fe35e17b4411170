-- Rules and their numbers.
use Rattle.std.proofs.Common.{◌≡◌, refl, sym, ◌∙◌, ap, subst, ℕ, zero, suc, ◌≤◌, ◌<◌, List, lit≤, arith}
use Rattle.lam_stock.specs.declared.item.Item.{Item}
use Rattle.lam_stock.specs.declared.item.ItemNo.{ItemNo}
use Rattle.lam_job.specs.JobData.{JobData}
use Rattle.lam_job.specs.Rules.{Rule, InnerRule, OuterRule, SymmetricRule, BalancedRule, RunRule, FewestRule, ThicknessRule, CountsRule, FitnessRule, rule_number, KeepsRule, IsLeastBroken}
use Rattle.lam_job.specs.Partial.{Partial, VisiblyBreaksRule}
use Rattle.lam_rules.specs.LeastVisible.{IsLeastVisible}
use Rattle.lam_rules.specs.inside.RuleOf.{rule_of}

pub rule_of_number : (rule : Rule) → rule_of (rule_number rule) ≡ rule
rule_of_number InnerRule = refl
rule_of_number OuterRule = refl
rule_of_number SymmetricRule = refl
rule_of_number BalancedRule = refl
rule_of_number RunRule = refl
rule_of_number FewestRule = refl
rule_of_number ThicknessRule = refl
rule_of_number CountsRule = refl
rule_of_number FitnessRule = refl

pub number_of_rule : (n : ℕ) → 1 ≤ n → n ≤ 9 → rule_number (rule_of n) ≡ n
number_of_rule zero some most = absurd (omega arith)
number_of_rule (suc zero) some most = refl
number_of_rule (suc (suc zero)) some most = refl
number_of_rule (suc (suc (suc zero))) some most = refl
number_of_rule (suc (suc (suc (suc zero)))) some most = refl
number_of_rule (suc (suc (suc (suc (suc zero))))) some most = refl
number_of_rule (suc (suc (suc (suc (suc (suc zero)))))) some most = refl
number_of_rule (suc (suc (suc (suc (suc (suc (suc zero))))))) some most = refl
number_of_rule (suc (suc (suc (suc (suc (suc (suc (suc zero)))))))) some most = refl
number_of_rule (suc (suc (suc (suc (suc (suc (suc (suc (suc zero))))))))) some most = refl
number_of_rule (suc (suc (suc (suc (suc (suc (suc (suc (suc (suc n)))))))))) some most = absurd (omega arith)

pub number_within : (rule : Rule) → (1 ≤ rule_number rule) × (rule_number rule ≤ 9)
number_within InnerRule = (lit≤ tt, lit≤ tt)
number_within OuterRule = (lit≤ tt, lit≤ tt)
number_within SymmetricRule = (lit≤ tt, lit≤ tt)
number_within BalancedRule = (lit≤ tt, lit≤ tt)
number_within RunRule = (lit≤ tt, lit≤ tt)
number_within FewestRule = (lit≤ tt, lit≤ tt)
number_within ThicknessRule = (lit≤ tt, lit≤ tt)
number_within CountsRule = (lit≤ tt, lit≤ tt)
number_within FitnessRule = (lit≤ tt, lit≤ tt)

-- what is so of the rules of the numbers 1 to 9 is so of every rule
pub of_each_rule : (P : Rule → Type 0) → ((number : ℕ) → 1 ≤ number → number < 10 → P (rule_of number)) → (rule : Rule) → P rule
of_each_rule P all rule =
    let within = number_within rule in
    subst P (rule_of_number rule) (all (rule_number rule) within.0 (omega (arith, within.1)))

-- what is so of the rules below a number is so of each that has a number below it
below : (P : Rule → Type 0) (number : ℕ) → ((other : ℕ) → 1 ≤ other → other < number → P (rule_of other))
    → (other : ℕ) → other < number → (rule : Rule) → rule_number rule ≡ other → P rule
below P number so_far other less rule e =
    let within = number_within rule in
    subst P (ap rule_of (sym e) ∙ rule_of_number rule) (so_far other (omega (arith, within.0, e)) less)

module _ (stock : List Item) (job : JobData) where
  pub first_broken : (listed : List ItemNo) (number : ℕ) → 1 ≤ number → number ≤ 9
      → ((other : ℕ) → 1 ≤ other → other < number → KeepsRule (rule_of other) stock job listed)
      → ¬ KeepsRule (rule_of number) stock job listed → IsLeastBroken number stock job listed
  first_broken listed number some most so_far broken = record {
    broken = (rule_of number, number_of_rule number some most, broken);
    least = λ other less b. b.2 (below (λ r. KeepsRule r stock job listed) number so_far other less b.0 b.1);
  }

  pub first_visible : (p : Partial) (number : ℕ) → 1 ≤ number → number ≤ 9
      → ((other : ℕ) → 1 ≤ other → other < number → ¬ VisiblyBreaksRule (rule_of other) stock job p)
      → VisiblyBreaksRule (rule_of number) stock job p → IsLeastVisible number stock job p
  first_visible p number some most so_far broken = record {
    broken = (rule_of number, number_of_rule number some most, broken);
    least = λ other less b. below (λ r. ¬ VisiblyBreaksRule r stock job p) number so_far other less b.0 b.1 b.2;
  }
