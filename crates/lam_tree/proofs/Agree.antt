-- Two reports that keep their promise for one job, each with a least design or none, agree.
use Rattle.std.proofs.Common.{◌≡◌, refl, sym, ◌∙◌, ap, subst, ℕ, inl, inr, List, Option, Some, None, MatchOption, arith}
use Rattle.lam_stock.specs.declared.item.Item.{Item}
use Rattle.lam_job.specs.JobData.{JobData}
use Rattle.lam_job.specs.Design as design
use Rattle.lam_tree.specs.declared.report.Best.{Best}
use Rattle.lam_tree.specs.declared.report.Report.{Report}
use Rattle.lam_tree.specs.Reading.{read}
use Rattle.lam_tree.specs.Checks.{best_cost}
use Rattle.lam_tree.specs.Laws.{IsClosed, Agree}
use Rattle.lam_tree.specs.Promise.{IsBest, NoLeafIsAdmissible, AnswerHolds, Promise}

module _ (stock : List Item) (job : JobData) where
  -- what a closed report says of designs
  HasBest : Report → Option Best → Type 0
  HasBest report o = MatchOption o (NoLeafIsAdmissible stock job (read stock job report.tree).visits) (IsBest stock job report (read stock job report.tree).visits)

  abbrev IsLeastOf : Option Best → Type 0
  IsLeastOf o = MatchOption o ⊥ (λ b. design.Least stock job b.plies)

  same_least : (one other : Report) (a b : Option Best) → HasBest one a → HasBest other b → IsLeastOf a → IsLeastOf b → best_cost a ≡ best_cost b
  unfolding HasBest
  same_least one other None b first second least least_too = absurd least
  same_least one other (Some a) None first second least least_too = absurd least_too
  same_least one other (Some a) (Some b) first second least least_too =
      let low = least.cheapest b.plies least_too.sequence least_too.admissible in
      let high = least_too.cheapest a.plies least.sequence least.admissible in
      let cost = first.cost in
      let cost_too = second.cost in
      let same : a.cost ≡ b.cost = omega (arith, low, high, cost, cost_too) in
      ap Some same

  no_best : (report : Report) (o : Option Best) → HasBest report o → design.NoneMeets stock job → best_cost o ≡ None
  unfolding HasBest
  no_best report None has none = refl
  no_best report (Some b) has none = absurd (none b.plies has.sequence has.admissible)

  not_both : (o : Option Best) → IsLeastOf o → ¬ design.NoneMeets stock job
  not_both None least none = least
  not_both (Some b) least none = none b.plies least.sequence least.admissible

  pub agree : (budget other_budget : ℕ) (one other : Report) → Promise stock job budget one → Promise stock job other_budget other
      → IsClosed one.answer → IsClosed other.answer → Agree one other
  unfolding HasBest
  agree budget other_budget one other p q (inl a) (inl b) =
      let least = subst (AnswerHolds stock job one (read stock job one.tree)) a p.answer in
      let least_too = subst (AnswerHolds stock job other (read stock job other.tree)) b q.answer in
      record { answer = a ∙ sym b; cost = same_least one other one.best other.best p.best q.best least.1 least_too.1 }
  agree budget other_budget one other p q (inr a) (inr b) =
      let none = subst (AnswerHolds stock job one (read stock job one.tree)) a p.answer in
      record { answer = a ∙ sym b; cost = no_best one one.best p.best none.1 ∙ sym (no_best other other.best q.best none.1) }
  agree budget other_budget one other p q (inl a) (inr b) =
      let least = subst (AnswerHolds stock job one (read stock job one.tree)) a p.answer in
      let none = subst (AnswerHolds stock job other (read stock job other.tree)) b q.answer in
      absurd (not_both one.best least.1 none.1)
  agree budget other_budget one other p q (inr a) (inl b) =
      let none = subst (AnswerHolds stock job one (read stock job one.tree)) a p.answer in
      let least = subst (AnswerHolds stock job other (read stock job other.tree)) b q.answer in
      absurd (not_both other.best least.1 none.1)
