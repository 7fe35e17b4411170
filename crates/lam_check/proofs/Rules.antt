-- The least rule that is broken, or visibly broken, is one rule.
use Rattle.std.proofs.Common.{◌≡◌, refl, ap, subst, ℕ, ◌<◌, ◌⊎◌, inl, inr, List, Option, Some, None, IfSome, arith}
use Rattle.std.specs.Prelude.{IsNone, ◌↔◌}
use Rattle.std.proofs.lemmas.Bool.{cases_eq, cases_lt}
use Rattle.std.proofs.lemmas.Option.{same_Some}
use Rattle.lam_stock.specs.declared.item.Item.{Item}
use Rattle.lam_stock.specs.declared.item.ItemNo.{ItemNo}
use Rattle.lam_job.specs.JobData.{JobData}
use Rattle.lam_job.specs.Rules.{Keeps, Breaks, IsLeastBroken}
use Rattle.lam_job.specs.Partial.{Partial, IsFull, SeemsWell, VisiblyBreaks, completion}
use Rattle.lam_rules.specs.declared.rule.RuleNo.{RuleNo}
use Rattle.lam_rules.specs.LeastVisible.{IsLeastVisible}
use Rattle.lam_tree.specs.Closings.{ClosesByRule}

-- two least numbers of one kind are one
one_least : (P : ℕ → Type 0) (a b : ℕ) → P a → ((k : ℕ) → k < a → ¬ P k) → P b → ((k : ℕ) → k < b → ¬ P k) → a ≡ b
one_least P a b of_a least_a of_b least_b =
    elim (cases_eq a b) [
      | inl same ↦ same
      | inr other ↦ by (less_or_more a b other)
    ] where
      less_or_more : (a b : ℕ) → (a ≡ b → ⊥) → (a < b) ⊎ (b < a)
      less_or_more a b other = elim (cases_lt a b) [ inl less ↦ inl less | inr le ↦ inr (omega (arith, le, other)) ]

      by : (a < b) ⊎ (b < a) → a ≡ b
      by (inl less) = absurd (least_b a less of_a)
      by (inr more) = absurd (least_a b more of_b)

same_rule : (a b : RuleNo) → a.0 ≡ b.0 → Some a ≡ Some b
same_rule a b e = ap (λ k. Some (record { 0 = k })) e

module _ (stock : List Item) (job : JobData) (p : Partial) (rule : RuleNo) where
  -- of a full partial
  pub full_rule : (listed : List ItemNo) (found : Option RuleNo) → IsFull job p → listed ≡ completion job p
      → (IsNone found ↔ Keeps stock job listed) → IfSome found (λ r. IsLeastBroken r.0 stock job listed)
      → (found ≡ Some rule) ↔ ClosesByRule stock job p rule.0
  full_rule listed None full same none least = (
    (λ is. absurd (let n : None ≡ Some rule = is in cc)),
    (λ closes. (let broken = (closes.broken full).broken in
        absurd (broken.2 (subst (Keeps stock job) same (none.0 refl) broken.0)))),
  )
  full_rule listed (Some r) full same none least =
      let own : IsLeastBroken r.0 stock job (completion job p) = subst (IsLeastBroken r.0 stock job) same least in (
        (λ is. record {
          broken = λ f. subst (λ (q : RuleNo). IsLeastBroken q.0 stock job (completion job p)) (same_Some r rule is) own;
          visible = λ more. absurd (more full);
        }),
        (λ closes. (let that = closes.broken full in
            same_rule r rule (one_least (λ k. Breaks k stock job (completion job p)) r.0 rule.0 own.broken own.least that.broken that.least))),
      )

  -- of any other
  pub open_rule : (found : Option RuleNo) → ¬ IsFull job p → (IsNone found ↔ SeemsWell stock job p) → IfSome found (λ r. IsLeastVisible r.0 stock job p)
      → (found ≡ Some rule) ↔ ClosesByRule stock job p rule.0
  open_rule None more none least = (
    (λ is. absurd (let n : None ≡ Some rule = is in cc)),
    (λ closes. (let broken = (closes.visible more).broken in absurd (none.0 refl broken.0 broken.2))),
  )
  open_rule (Some r) more none least = (
    (λ is. record {
      broken = λ full. absurd (more full);
      visible = λ o. subst (λ (q : RuleNo). IsLeastVisible q.0 stock job p) (same_Some r rule is) least;
    }),
    (λ closes. (let that = closes.visible more in
        same_rule r rule (one_least (λ k. VisiblyBreaks k stock job p) r.0 rule.0 least.broken least.least that.broken that.least))),
  )

  -- what is found is broken
  pub found_broken : (listed : List ItemNo) (found : Option RuleNo) → found ≡ Some rule → IfSome found (λ r. IsLeastBroken r.0 stock job listed)
      → Breaks rule.0 stock job listed
  found_broken listed found is least = (subst (λ o. IfSome o (λ r. IsLeastBroken r.0 stock job listed)) is least).broken
