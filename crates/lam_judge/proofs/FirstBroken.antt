-- The first broken rule and the first case out of range, by the tests.
use Rattle.std.proofs.Common.{◌≡◌, refl, sym, ◌∙◌, ap, ℕ, zero, suc, ◌+◌, ◌≤◌, ◌<◌, inl, inr, Bool, true, false, List, Some, None, if◌then◌else◌, arith}
use Rattle.std.proofs.lemmas.Bool.{cases_lt}
use Rattle.lam_stock.specs.declared.item.Item.{Item}
use Rattle.lam_stock.specs.declared.item.ItemNo.{ItemNo}
use Rattle.lam_job.specs.JobData.{JobData}
use Rattle.lam_job.specs.Rules.{Rule, KeepsRule, Keeps, IsLeastBroken}
use Rattle.lam_rules.specs.inside.RuleOf.{rule_of}
use Rattle.lam_rules.proofs.RuleNumbers.{rule_of_number, number_of_rule}
use Rattle.lam_judge.specs.inside.Kept.{is_kept, first_broken, first_broken_from}
use Rattle.lam_judge.proofs.Kept.{kept-decides}

module _ (stock : List Item) (job : JobData) (listed : List ItemNo) where
  abbrev kept : ℕ → Bool
  kept number = is_kept (rule_of number) stock job listed

  passed : (left number : ℕ) → kept number ≡ true → first_broken_from (suc left) number stock job listed ≡ first_broken_from left (suc number) stock job listed
  unfolding first_broken_from
  passed left number e = ap (λ b. if b then first_broken_from left (suc number) stock job listed else Some number) e

  stopped : (left number : ℕ) → kept number ≡ false → first_broken_from (suc left) number stock job listed ≡ Some number
  unfolding first_broken_from
  stopped left number e = ap (λ b. if b then first_broken_from left (suc number) stock job listed else Some number) e

  ended : (number : ℕ) → first_broken_from zero number stock job listed ≡ None
  unfolding first_broken_from
  ended number = refl

  none-from : (left number : ℕ) → ((k : ℕ) → kept k ≡ true) → first_broken_from left number stock job listed ≡ None
  none-from zero number all = ended number
  none-from (suc left) number all = passed left number (all number) ∙ none-from left (suc number) all

  some-from : (left number k : ℕ) → number ≤ k → k < number + left → ((other : ℕ) → number ≤ other → other < k → kept other ≡ true) → kept k ≡ false
      → first_broken_from left number stock job listed ≡ Some k
  some-from zero number k least most all broken = absurd (omega (arith, least, most))
  some-from (suc left) number k least most all broken =
      elim (cases_lt number k) [
        | inl less ↦ passed left number (all number (omega arith) less) ∙ some-from left (suc number) k (omega (arith, less)) (omega (arith, most)) (λ other h. all other (omega (arith, h))) broken
        | inr same ↦ (let e : number ≡ k = omega (arith, least, same) in
            stopped left number (ap kept e ∙ broken) ∙ ap Some e)
      ]

  is-kept : (rule : Rule) → KeepsRule rule stock job listed → is_kept rule stock job listed ≡ true
  is-kept rule k = (kept-decides stock job listed rule).1 k

  is-broken : (b : Bool) → (b ≡ true → ⊥) → b ≡ false
  is-broken true h = absurd (h refl)
  is-broken false h = refl

  pub none-broken : Keeps stock job listed → first_broken stock job listed ≡ None
  none-broken keeps = none-from 9 1 (λ k. is-kept (rule_of k) (keeps (rule_of k)))

  kept-below : (number : ℕ) → number ≤ 9 → IsLeastBroken number stock job listed → (other : ℕ) → 1 ≤ other → other < number → (b : Bool) → kept other ≡ b → b ≡ true
  kept-below number most is other some less true e = refl
  kept-below number most is other some less false e =
      absurd (is.least other less (rule_of other, number_of_rule other some (omega (arith, less, most)), (λ k. let t : kept other ≡ true = is-kept (rule_of other) k in let n : false ≡ true = sym e ∙ t in cc)))

  pub some-broken : (number : ℕ) → 1 ≤ number → number ≤ 9 → IsLeastBroken number stock job listed → first_broken stock job listed ≡ Some number
  some-broken number some most is =
      let rule = is.broken.0 in
      let same : rule_of number ≡ rule = ap rule_of (sym is.broken.1) ∙ rule_of_number rule in
      some-from 9 1 number some (omega (arith, most)) (λ other least less. kept-below number most is other least less (kept other) refl)
      (is-broken (kept number) (λ t. is.broken.2 ((kept-decides stock job listed rule).0 (sym (ap (λ r. is_kept r stock job listed) same) ∙ t))))
