-- The rule of a number. A number that names none gives the first or the last.
use Rattle.std.specs.Prelude.{ℕ, zero, suc}
use Rattle.lam_job.specs.Rules.{Rule, InnerRule, OuterRule, SymmetricRule, BalancedRule, RunRule, FewestRule, ThicknessRule, CountsRule, FitnessRule}

abbrev pub rule_of : ℕ → Rule
rule_of zero = InnerRule
rule_of (suc zero) = InnerRule
rule_of (suc (suc zero)) = OuterRule
rule_of (suc (suc (suc zero))) = SymmetricRule
rule_of (suc (suc (suc (suc zero)))) = BalancedRule
rule_of (suc (suc (suc (suc (suc zero))))) = RunRule
rule_of (suc (suc (suc (suc (suc (suc zero)))))) = FewestRule
rule_of (suc (suc (suc (suc (suc (suc (suc zero))))))) = ThicknessRule
rule_of (suc (suc (suc (suc (suc (suc (suc (suc zero)))))))) = CountsRule
rule_of (suc (suc (suc (suc (suc (suc (suc (suc (suc n))))))))) = FitnessRule
