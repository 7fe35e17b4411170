-- Acceptance, tried on the report of a worked job: one ply of `mat` under 90000 N/m at a factor of 5, of at most four plies.
-- Each planted mistake is found at its line.
use Rattle.std.proofs.Common.{◌≡◌, refl, subst, ℕ, zero, suc, ◌≤◌, ◌<◌, inl, inr, [], ◌∷◌, slice_get, All, Option, Some, None, lit≤, arith}
use Rattle.std.proofs.lemmas.List.Elements.{All-from_recursion}
use Rattle.std.proofs.lemmas.Option.{same_Some}
use Rattle.lam_job.specs.JobData.{CaseData}
use Rattle.lam_job.specs.Rules.{InnerRule, OuterRule, SymmetricRule, BalancedRule, RunRule, FewestRule, ThicknessRule, CountsRule, FitnessRule}
use Rattle.lam_job.specs.Partial.{Partial, SeemsWell}
use Rattle.lam_job.proofs.Worked.{number, hoop_case}
use Rattle.lam_tree.specs.declared.node.Word.{Word}
use Rattle.lam_tree.specs.declared.node.Word.TheVariants as word
use Rattle.lam_tree.specs.declared.report.Best.{Best}
use Rattle.lam_tree.specs.declared.report.Near.{Near}
use Rattle.lam_tree.specs.declared.report.Answer.TheVariants as answer
use Rattle.lam_tree.specs.declared.report.Report.{Report}
use Rattle.lam_tree.specs.Reading.{children, tree, lengths, root}
use Rattle.lam_tree.specs.Tests.{Tests}
use Rattle.lam_tree.specs.TriedWeights.{tried_weights}
use Rattle.lam_tree.specs.ForceBalance.{IsShort}
use Rattle.lam_tree.specs.Closings.{MaySplit, IsOpenUnder}
use Rattle.lam_tree.specs.Findings.{Cause, WrongCost, WrongRatio, NotNear, OutOfOrder, UnlawfulSplit, WrongLeaf, WrongBudget, WrongAnswer, Fault}
use Rattle.lam_tree.specs.Checks.{BestChecks, RatioChecks, PanelChecks, LineChecks, Accepts, IsFirstFault}
use Rattle.lam_tree.proofs.ReadingTrials.{only_mat, job, at_length, at_item, least_tree, tie}

-- what is computed: each item carries a lot, and all schedules are judged alike
abbrev judging_so : Word → Tests
judging_so judgement = record {
  capacity = λ i w. 1000000;
  judged = λ listed. judgement;
  ratio = λ listed case ply. 5555;
  panel = λ listed panel. None;
  boxed = λ p case. None;
}

abbrev tests : Tests
tests = judging_so word.Admissible

abbrev of_cost : ℕ → Option Best
of_cost cost = Some (record { plies = number 0 ∷ []; cost = cost })

abbrev least_report : Report
least_report = record {
  budget = 200000;
  answer = answer.Least;
  best = of_cost 10;
  ratios = 5555 ∷ [];
  panels = [];
  tree = least_tree;
}

abbrev fault : ℕ → Cause → Fault
fault line cause = record { line = line; cause = cause }

-- ---- a split of one open ply

no_rule_is_broken : (limit : ℕ) (p : Partial) → SeemsWell only_mat (job limit) p
no_rule_is_broken limit p InnerRule wrong = wrong
no_rule_is_broken limit p OuterRule wrong = wrong.1
no_rule_is_broken limit p SymmetricRule wrong = wrong
no_rule_is_broken limit p BalancedRule wrong = wrong
no_rule_is_broken limit p RunRule wrong = wrong
no_rule_is_broken limit p FewestRule wrong = wrong
no_rule_is_broken limit p ThicknessRule wrong = wrong
no_rule_is_broken limit p CountsRule wrong = let n : wrong.0 < 0 = wrong.2 in omega (arith, n)
no_rule_is_broken limit p FitnessRule wrong = let n : 0 < 0 = wrong.0 in omega (arith, n)

carried : (limit : ℕ) → All (λ w. ¬ IsShort only_mat (job limit) (root 1) hoop_case w (λ i. tests.capacity i w)) tried_weights
carried limit = All-from_recursion (λ w. ¬ IsShort only_mat (job limit) (root 1) hoop_case w (λ i. tests.capacity i w)) tried_weights
    ((λ h. h.lt), ((λ h. h.lt), ((λ h. h.lt), ((λ h. h.lt), ((λ h. h.lt), ((λ h. h.lt), ((λ h. h.lt), ((λ h. h.lt), ((λ h. h.lt), ((λ h. h.lt), ((λ h. h.lt), ((λ h. h.lt), tt))))))))))))

stays_open : (judgement : Word) (limit k : ℕ) (case : CaseData) → slice_get (hoop_case ∷ []) k ≡ Some case → IsOpenUnder only_mat (job limit) (judging_so judgement) None (root 1) k case
stays_open judgement limit zero case is = subst (IsOpenUnder only_mat (job limit) (judging_so judgement) None (root 1) 0) (same_Some hoop_case case is)
    (record { carried = carried limit; cheap = λ k d h. tt; unboxed = λ may. refl })
stays_open judgement limit (suc k) case is = absurd (let none : None ≡ Some case = is in cc)

root_is_split : (judgement : Word) (limit : ℕ) → MaySplit only_mat (job limit) (judging_so judgement) None (root 1)
root_is_split judgement limit = record {
  lawful = record { more = λ full. (let n : ◌≡◌ {A = ℕ} 0 1 = full in omega arith); well = no_rule_is_broken limit (root 1); cheap = tt };
  cases = stays_open judgement limit;
}

-- ---- accepted

best_is_right : BestChecks only_mat (job 4) tests (of_cost 10) (5555 ∷ []) [] None
unfolding RatioChecks PanelChecks
best_is_right = (refl, ((lit≤ tt, refl), ((refl, tt), tt)))

accepted : Accepts only_mat (job 4) tests least_report
unfolding RatioChecks PanelChecks LineChecks lengths tree children
accepted = (
  best_is_right,
  (
    tt,
    (
      ((root_is_split word.Admissible 4, ((refl, refl), (lit≤ tt, (lit≤ tt, (lit≤ tt, tt))))), (λ e. cc)),
      (record { most = lit≤ tt; spent = λ e. cc }, record { cost = refl; answer = refl }),
    ),
  ),
)

-- ---- mistakes

wrong_cost : IsFirstFault only_mat (job 4) tests (record least_report { best = of_cost 9 }) (fault 4 WrongCost)
wrong_cost = inl (inl ((λ e. (let n : ◌≡◌ {A = ℕ} 9 10 = e in omega arith)), refl))

wrong_ratio : IsFirstFault only_mat (job 4) tests (record least_report { ratios = 5554 ∷ [] }) (fault 6 WrongRatio)
unfolding RatioChecks PanelChecks
wrong_ratio = inl (inr (refl, inr ((lit≤ tt, refl), inl (inl ((λ e. (let n : ◌≡◌ {A = ℕ} 5554 5555 = e in omega arith)), refl)))))

-- the line of three plies is cut
out_of_order : IsFirstFault only_mat (job 4) tests
    (record least_report { tree = at_length 1 word.Split ∷ at_item 0 word.Admissible ∷ at_length 2 word.Cost ∷ at_length 4 word.Cost ∷ [] }) (fault 11 OutOfOrder)
unfolding RatioChecks PanelChecks LineChecks lengths tree children
out_of_order = inr (best_is_right, inr (tt, inl (inr ((root_is_split word.Admissible 4, ((refl, refl), (lit≤ tt, tt))), ((λ due. due refl), refl)))))

-- two plies cost as much as the incumbent
unlawful : IsFirstFault only_mat (job 4) tests
    (record least_report { tree = at_length 1 word.Split ∷ at_item 0 word.Admissible ∷ at_length 2 word.Split ∷ at_length 3 word.Cost ∷ at_length 4 word.Cost ∷ [] }) (fault 10 UnlawfulSplit)
unfolding RatioChecks PanelChecks LineChecks lengths tree children
unlawful = inr (best_is_right, inr (tt, inl (inl (inr (root_is_split word.Admissible 4, inr ((refl, refl), inl ((λ may. (let n : 20 < 10 = may.lawful.cheap in omega (arith, n))), refl)))))))

-- a leaf with another word than the schedule is judged by
wrong_leaf : IsFirstFault only_mat (job 4) tests
    (record least_report { tree = at_length 1 word.Split ∷ at_item 0 (word.Buckles 0) ∷ at_length 2 word.Cost ∷ at_length 3 word.Cost ∷ at_length 4 word.Cost ∷ [] }) (fault 9 WrongLeaf)
unfolding RatioChecks PanelChecks LineChecks lengths tree children
wrong_leaf = inr (best_is_right, inr (tt, inl (inl (inr (root_is_split word.Admissible 4, inl ((λ sound. (let e : word.Admissible ≡ word.Buckles 0 = sound.1 in cc)), refl))))))

-- five nodes where four are allowed
wrong_budget : IsFirstFault only_mat (job 4) tests (record least_report { budget = 4 }) (fault 7 WrongBudget)
unfolding RatioChecks PanelChecks LineChecks lengths tree children
wrong_budget = inr (
  best_is_right,
  inr (
    tt,
    inr (
      ((root_is_split word.Admissible 4, ((refl, refl), (lit≤ tt, (lit≤ tt, (lit≤ tt, tt))))), (λ e. cc)),
      inl ((λ kept. (let n : 5 ≤ 4 = kept.most in omega (arith, n))), refl),
    ),
  ),
)

-- no leaf is admissible, though there is a best schedule
wrong_answer : IsFirstFault only_mat (job 4) tests
    (record least_report { tree = at_length 1 word.Split ∷ at_item 0 word.Cost ∷ at_length 2 word.Cost ∷ at_length 3 word.Cost ∷ at_length 4 word.Cost ∷ [] }) (fault 3 WrongAnswer)
unfolding RatioChecks PanelChecks LineChecks lengths tree children
wrong_answer = inr (
  best_is_right,
  inr (
    tt,
    inr (
      ((root_is_split word.Admissible 4, (lit≤ tt, (lit≤ tt, (lit≤ tt, (lit≤ tt, tt))))), (λ e. cc)),
      inr (record { most = lit≤ tt; spent = λ e. cc }, ((λ given. (let e : Some 10 ≡ None = given.cost in cc)), refl)),
    ),
  ),
)

-- a least answer of a tree that is cut
cut_is_open : IsFirstFault only_mat (job 4) tests
    (record least_report { tree = at_length 1 word.Split ∷ at_item 0 word.Admissible ∷ [] }) (fault 3 WrongAnswer)
unfolding RatioChecks PanelChecks LineChecks lengths tree children
cut_is_open = inr (
  best_is_right,
  inr (
    tt,
    inr (
      ((root_is_split word.Admissible 4, ((refl, refl), tt)), (λ e. cc)),
      inr (record { most = lit≤ tt; spent = λ e. cc }, ((λ given. (let e : answer.Least ≡ answer.OpenBudget = given.answer in cc)), refl)),
    ),
  ),
)

-- ---- a tie stays open

abbrev tied_tests : Tests
tied_tests = judging_so (word.Straddles tie)

abbrev near_of : ℕ → Near
near_of cost = record { plies = number 0 ∷ []; cost = cost; at = tie }

abbrev open_report : Near → Report
open_report near = record {
  budget = 200000;
  answer = answer.OpenStraddle near;
  best = None;
  ratios = [];
  panels = [];
  tree = at_length 1 word.Split ∷ at_item 0 (word.Straddles tie) ∷ [];
}

open_accepted : Accepts only_mat (job 1) tied_tests (open_report (near_of 10))
unfolding RatioChecks PanelChecks LineChecks lengths tree children
open_accepted = (
  tt,
  (
    (refl, (lit≤ tt, refl)),
    (
      ((root_is_split (word.Straddles tie) 1, ((refl, refl), tt)), (λ e. cc)),
      (record { most = lit≤ tt; spent = λ e. cc }, record { cost = refl; answer = refl }),
    ),
  ),
)

-- both at the near line, which is the fourth
near_cost : IsFirstFault only_mat (job 1) tied_tests (open_report (near_of 11)) (fault 4 WrongCost)
near_cost = inr (tt, inl (inl ((λ e. (let n : ◌≡◌ {A = ℕ} 11 10 = e in omega arith)), refl)))

not_near : IsFirstFault only_mat (job 1) tests (open_report (near_of 10)) (fault 4 NotNear)
not_near = inr (tt, inl (inr (refl, ((λ judged. (let e : word.Admissible ≡ word.Straddles tie = judged.1 in cc)), refl))))
