-- The report of what a search found: it is accepted, it keeps its promise, and it is one that may be written.
use Rattle.std.proofs.Common.{◌≡◌, ◌≢◌, refl, sym, ◌∙◌, ap, subst, ℕ, suc, ◌+◌, ◌≤◌, inl, inr, List, length, All, Option, Some, None, IfSome, MatchOption, arith}
use Rattle.lam_stock.specs.declared.item.ItemNo.{ItemNo}
use Rattle.lam_job.specs.Ranges.{IsJob}
use Rattle.lam_job.specs.Schedule.{cost_of}
use Rattle.lam_job.specs.Rules.{SymmetricRule}
use Rattle.lam_job.specs.Partial.{total_partials}
use Rattle.lam_job.specs.Design as design
use Rattle.lam_tree.specs.declared.limits.TheConstants.{MOST_NODES}
use Rattle.lam_tree.specs.declared.report.Best.{Best}
use Rattle.lam_tree.specs.declared.report.Near.{Near}
use Rattle.lam_tree.specs.declared.report.Answer.{Answer}
use Rattle.lam_tree.specs.declared.report.Answer.TheVariants as answer
use Rattle.lam_tree.specs.declared.report.Report.{Report}
use Rattle.lam_tree.specs.Words.{IsTrueOf}
use Rattle.lam_tree.specs.Reading.{Visit, Ending, Cut, Stray, Whole, Reading, read}
use Rattle.lam_tree.specs.Closings.{IsBelow}
use Rattle.lam_tree.specs.Checks.{best_cost, best_lines, nodes_line, first_undecided, final, answer_with, answer_at, BestChecks, NearChecks, LineChecks, Accepts}
use Rattle.lam_tree.specs.Promise.{AreLawful, HasRatios, HasPanels, IsBest, NoLeafIsAdmissible, AnswerHolds, Promise}
use Rattle.lam_tree.specs.ReportRanges.{AreListed, IsBlock, IsAnswer, IsReport}
use Rattle.lam_tree.proofs.Cover.{read-covers}
use Rattle.lam_tree.proofs.Settle.{NotAbove, settles}
use Rattle.lam_tree.proofs.Moments.{moment_checks}
use Rattle.lam_search.specs.declared.searching.Found.{Found}
use Rattle.lam_search.specs.Reports.{report_of, CheckAsPrinted, ArePrintable}
use Rattle.lam_search.specs.inside.Here.{Basis}
use Rattle.lam_search.specs.inside.Held.{IsGood}
use Rattle.lam_search.specs.inside.Outcome.{IsFound}
use Rattle.lam_search.proofs.Holding.{sound-now, all-lawful}
use Rattle.lam_search.proofs.Staying.{none-admissible, all-true}
use Rattle.lam_search.proofs.FirstNear.{IsNear, first-near}
use Rattle.lam_search.proofs.Totals.{cut-few}

module _ (m : Basis) (valid : IsJob m.job) where
  -- ---- the best schedule

  best_checks : (o : Option Best) (ratios panels : List ℕ) → IfSome o (IsGood m) → CheckAsPrinted m.stock m.job m.tests o ratios panels
      → BestChecks m.stock m.job m.tests o ratios panels None
  best_checks None ratios panels good printed = tt
  best_checks (Some b) ratios panels good printed = (good.cost, ((good.short, good.judged), (printed.0, printed.1)))

  best_block : (o : Option Best) (ratios panels : List ℕ) → IfSome o (IsGood m) → ArePrintable m.stock m.job o ratios panels
      → IsBlock m.stock m.job o ratios panels
  best_block None ratios panels good printable = printable
  best_block (Some b) ratios panels good printable = (good.small, good.listed, printable.0, printable.1)

  sequence : (b : Best) → IsGood m b → design.IsSequence m.stock m.job b.plies
  sequence b good = record { some = good.listed.some; short = good.short; known = good.listed.known }

  best_holds : (o : Option Best) (report : Report) (visits : List Visit) → IfSome o (IsGood m) → best_cost o ≡ final m.stock m.job visits
      → IfSome o (λ b. HasRatios m.stock m.job b.plies report.ratios × HasPanels m.stock m.job b.plies report.panels)
      → MatchOption o (NoLeafIsAdmissible m.stock m.job visits) (IsBest m.stock m.job report visits)
  best_holds None report visits good cost printed = none-admissible m.stock m.job None visits (sym cost)
  best_holds (Some b) report visits good cost printed = record {
    sequence = sequence b good;
    admissible = good.admissible;
    cost = good.cost;
    least = cost;
    ratios = printed.0;
    panels = printed.1;
  }

  least_holds : (o : Option Best) (cost : ℕ) → best_cost o ≡ Some cost → IfSome o (IsGood m)
      → ((s : List ItemNo) → design.IsSequence m.stock m.job s → design.Admissible m.stock m.job s → NotAbove (best_cost o) (cost_of m.stock m.job s))
      → MatchOption o ⊥ (λ b. design.Least m.stock m.job b.plies)
  least_holds None cost e good below = absurd (let n : None ≡ Some cost = e in cc)
  least_holds (Some b) cost e good below = record {
    sequence = sequence b good;
    admissible = good.admissible;
    cheapest = λ other is may. subst (λ n. n ≤ cost_of m.stock m.job other) good.cost (below other is may);
  }

  none_holds : (best : Option ℕ) → best ≡ None
      → ((s : List ItemNo) → design.IsSequence m.stock m.job s → design.Admissible m.stock m.job s → NotAbove best (cost_of m.stock m.job s))
      → design.NoneMeets m.stock m.job
  none_holds best none below s is may = subst (λ o. NotAbove o (cost_of m.stock m.job s)) none (below s is may)

  -- ---- the answers

  near_checks : (a : Answer) (line : ℕ) (best : Option ℕ) → ((near : Near) → a ≡ answer.OpenStraddle near → IsNear m valid best near)
      → NearChecks m.stock m.job m.tests a line None
  near_checks (answer.OpenStraddle near) line best is = let n = is near refl in (n.cost, (n.short, n.judged))
  near_checks answer.Least line best is = tt
  near_checks answer.NoneMeets line best is = tt
  near_checks answer.OpenBudget line best is = tt

  -- an answer that names a schedule, or says that the budget is used up
  named : (e : Ending) (c : Option ℕ) (first : Option Near) (near : Near) → answer_at e c first ≡ answer.OpenStraddle near → first ≡ Some near
  named Cut c first near is = absurd (let n : answer.OpenBudget ≡ answer.OpenStraddle near = is in cc)
  named Stray c (Some own) near is = let n : answer.OpenStraddle own ≡ answer.OpenStraddle near = is in cc
  named Stray None None near is = absurd (let n : answer.NoneMeets ≡ answer.OpenStraddle near = is in cc)
  named Stray (Some cost) None near is = absurd (let n : answer.Least ≡ answer.OpenStraddle near = is in cc)
  named Whole c (Some own) near is = let n : answer.OpenStraddle own ≡ answer.OpenStraddle near = is in cc
  named Whole None None near is = absurd (let n : answer.NoneMeets ≡ answer.OpenStraddle near = is in cc)
  named Whole (Some cost) None near is = absurd (let n : answer.Least ≡ answer.OpenStraddle near = is in cc)

  pub used_up : (e : Ending) (c : Option ℕ) (first : Option Near) → answer_at e c first ≡ answer.OpenBudget → e ≡ Cut
  used_up Cut c first is = refl
  used_up Stray c (Some own) is = absurd (let n : answer.OpenStraddle own ≡ answer.OpenBudget = is in cc)
  used_up Stray None None is = absurd (let n : answer.NoneMeets ≡ answer.OpenBudget = is in cc)
  used_up Stray (Some cost) None is = absurd (let n : answer.Least ≡ answer.OpenBudget = is in cc)
  used_up Whole c (Some own) is = absurd (let n : answer.OpenStraddle own ≡ answer.OpenBudget = is in cc)
  used_up Whole None None is = absurd (let n : answer.NoneMeets ≡ answer.OpenBudget = is in cc)
  used_up Whole (Some cost) None is = absurd (let n : answer.Least ≡ answer.OpenBudget = is in cc)

  answer_fits : (o : Option Best) (e : Ending) (c : Option ℕ) (first : Option Near) (a : Answer) → best_cost o ≡ c → a ≡ answer_at e c first
      → ((near : Near) → a ≡ answer.OpenStraddle near → IsNear m valid c near) → IsAnswer m.stock a o
  answer_fits o e c first answer.OpenBudget cost is near = tt
  answer_fits o e c first (answer.OpenStraddle n) cost is near = let h = near n refl in (h.small, h.listed, h.spot)
  answer_fits (Some b) e c first answer.Least cost is near = λ none. let n : Some b ≡ None = none in cc
  answer_fits None e (Some x) first answer.Least cost is near = absurd (let n : None ≡ Some x = cost in cc)
  answer_fits None Cut None first answer.Least cost is near = absurd (let n : answer.Least ≡ answer.OpenBudget = is in cc)
  answer_fits None Stray None (Some own) answer.Least cost is near = absurd (let n : answer.Least ≡ answer.OpenStraddle own = is in cc)
  answer_fits None Stray None None answer.Least cost is near = absurd (let n : answer.Least ≡ answer.NoneMeets = is in cc)
  answer_fits None Whole None (Some own) answer.Least cost is near = absurd (let n : answer.Least ≡ answer.OpenStraddle own = is in cc)
  answer_fits None Whole None None answer.Least cost is near = absurd (let n : answer.Least ≡ answer.NoneMeets = is in cc)
  answer_fits None e c first answer.NoneMeets cost is near = refl
  answer_fits (Some b) e None first answer.NoneMeets cost is near = absurd (let n : Some b.cost ≡ None = cost in cc)
  answer_fits (Some b) Cut (Some x) first answer.NoneMeets cost is near = absurd (let n : answer.NoneMeets ≡ answer.OpenBudget = is in cc)
  answer_fits (Some b) Stray (Some x) (Some own) answer.NoneMeets cost is near = absurd (let n : answer.NoneMeets ≡ answer.OpenStraddle own = is in cc)
  answer_fits (Some b) Stray (Some x) None answer.NoneMeets cost is near = absurd (let n : answer.NoneMeets ≡ answer.Least = is in cc)
  answer_fits (Some b) Whole (Some x) (Some own) answer.NoneMeets cost is near = absurd (let n : answer.NoneMeets ≡ answer.OpenStraddle own = is in cc)
  answer_fits (Some b) Whole (Some x) None answer.NoneMeets cost is near = absurd (let n : answer.NoneMeets ≡ answer.Least = is in cc)

  -- ---- the report

  module _ (budget : ℕ) (found : Found) (f : IsFound m budget found) where
    abbrev r : Reading
    r = read m.stock m.job found.tree

    visits_are : r.visits ≡ f.visits
    visits_are = ap (λ (x : Reading). x.visits) f.reads

    ending_is : r.ending ≡ f.ending
    ending_is = ap (λ (x : Reading). x.ending) f.reads

    cost_is : best_cost found.best ≡ final m.stock m.job r.visits
    cost_is = f.cost ∙ ap (final m.stock m.job) (sym visits_are)

    due : r.ending ≢ Stray
    due = λ stray. f.due (sym ending_is ∙ stray)

    near_is : (near : Near) → found.answer ≡ answer.OpenStraddle near → IsNear m valid (final m.stock m.job r.visits) near
    near_is near is =
        let first = named r.ending (final m.stock m.job r.visits) (first_undecided m.stock m.job (final m.stock m.job r.visits) r.visits) near (sym f.answered ∙ is) in
        first-near m valid None (final m.stock m.job r.visits) f.visits near f.held
        (ap (first_undecided m.stock m.job (final m.stock m.job r.visits)) (sym visits_are) ∙ first)

    cut_if : found.answer ≡ answer.OpenBudget → f.ending ≡ Cut
    cut_if is =
        sym ending_is
        ∙ used_up r.ending (final m.stock m.job r.visits) (first_undecided m.stock m.job (final m.stock m.job r.visits) r.visits) (sym f.answered ∙ is)

    pub is_accepted : (ratios panels : List ℕ) → CheckAsPrinted m.stock m.job m.tests found.best ratios panels
        → Accepts m.stock m.job m.tests (report_of budget found ratios panels)
    is_accepted ratios panels printed =
        let report = report_of budget found ratios panels in
        let line = suc (nodes_line report) in
        let lines : LineChecks m.stock m.job m.tests (best_cost found.best) line None r.visits None
        = subst (λ o. LineChecks m.stock m.job m.tests o line None r.visits None) (sym f.cost)
        (subst (λ v. LineChecks m.stock m.job m.tests (final m.stock m.job f.visits) line None v None) (sym visits_are)
        (moment_checks m.stock m.job m.tests line None f.visits (sound-now m None f.visits f.held))) in (
          best_checks found.best ratios panels f.good printed,
          (
            near_checks found.answer (4 + best_lines report) (final m.stock m.job r.visits) near_is,
            ((lines, due), (record { most = f.few; spent = λ is. f.spent (cut_if is) }, record { cost = cost_is; answer = f.answered })),
          ),
        )

    leaves : All (λ v. IsTrueOf m.stock m.job (best_cost found.best) v.partial v.word) r.visits
    leaves =
        subst (λ o. All (λ (v : Visit). IsTrueOf m.stock m.job o v.partial v.word) r.visits) (sym f.cost)
        (subst (All (λ (v : Visit). IsTrueOf m.stock m.job (final m.stock m.job f.visits) v.partial v.word)) (sym visits_are)
        (all-true m None f.visits f.held))

    -- a whole tree of true leaves, of which none is undecided: what may be built is not cheaper than the best
    below : r.ending ≡ Whole → first_undecided m.stock m.job (final m.stock m.job r.visits) r.visits ≡ None
        → (s : List ItemNo) → design.IsSequence m.stock m.job s → design.Admissible m.stock m.job s → NotAbove (best_cost found.best) (cost_of m.stock m.job s)
    below whole decided s is may =
        let covers = read-covers m.stock m.job found.tree s is (may.rules SymmetricRule) whole in
        elim (settles m.stock m.job (best_cost found.best) s may None r.visits leaves covers
        (subst (λ o. first_undecided m.stock m.job o r.visits ≡ None) (sym cost_is) decided)) [
          | inl low ↦ low
          | inr low ↦ subst (λ o. NotAbove o (cost_of m.stock m.job s)) (sym cost_is) low
        ]

    whole_answer : (report : Report) → report.best ≡ found.best → r.ending ≡ Whole → (c : Option ℕ) → final m.stock m.job r.visits ≡ c
        → (near : Option Near) → first_undecided m.stock m.job (final m.stock m.job r.visits) r.visits ≡ near
        → found.answer ≡ answer_with c near → AnswerHolds m.stock m.job report r found.answer
    whole_answer report same whole c cost (Some near) first is =
        let n = near_is near is in
        subst (AnswerHolds m.stock m.job report r) (sym is) (
          whole,
          record { some = n.listed.some; short = n.short; known = n.listed.known },
          n.cost,
          subst (λ o. IsBelow near.cost o) (sym cost_is ∙ sym (ap best_cost same)) n.below,
          n.hangs,
        )
    whole_answer report same whole None cost None decided is =
        subst (AnswerHolds m.stock m.job report r) (sym is)
        (whole, none_holds (best_cost found.best) (cost_is ∙ cost) (below whole decided))
    whole_answer report same whole (Some n) cost None decided is =
        subst (AnswerHolds m.stock m.job report r) (sym is) (
          whole,
          subst (λ o. MatchOption o ⊥ (λ b. design.Least m.stock m.job b.plies)) (sym same)
              (least_holds found.best n (cost_is ∙ cost) f.good (below whole decided)),
        )

    answer_holds : (report : Report) → report.best ≡ found.best → report.tree ≡ found.tree → report.budget ≡ budget → (e : Ending) → r.ending ≡ e → e ≢ Stray
        → found.answer ≡ answer_at e (final m.stock m.job r.visits) (first_undecided m.stock m.job (final m.stock m.job r.visits) r.visits)
        → AnswerHolds m.stock m.job report r found.answer
    answer_holds report same tree is_budget Cut ending is_due is =
        subst (AnswerHolds m.stock m.job report r) (sym is)
        (ending, ap length tree ∙ f.spent (sym ending_is ∙ ending) ∙ sym is_budget)
    answer_holds report same tree is_budget Stray ending is_due is = absurd (is_due refl)
    answer_holds report same tree is_budget Whole ending is_due is =
        whole_answer report same ending (final m.stock m.job r.visits) refl (first_undecided m.stock m.job (final m.stock m.job r.visits) r.visits) refl is

    pub keeps_promise : (ratios panels : List ℕ)
        → IfSome found.best (λ b. HasRatios m.stock m.job b.plies ratios × HasPanels m.stock m.job b.plies panels)
        → Promise m.stock m.job budget (report_of budget found ratios panels)
    keeps_promise ratios panels printed =
        let report = report_of budget found ratios panels in record {
          budget_is = refl;
          few = f.few;
          due = due;
          lawful = subst (λ v. AreLawful m.stock m.job None v) (sym visits_are) (all-lawful m None f.visits f.held);
          leaves = leaves;
          best = best_holds found.best report r.visits f.good cost_is printed;
          answer = answer_holds report refl refl refl r.ending refl due f.answered;
        }

    pub is_report : (ratios panels : List ℕ) → 1 ≤ budget → budget ≤ MOST_NODES → ArePrintable m.stock m.job found.best ratios panels
        → IsReport m.stock m.job (report_of budget found ratios panels)
    is_report ratios panels some most printable =
        let few = f.few in record {
          some = some;
          most = most;
          answer = answer_fits found.best r.ending (final m.stock m.job r.visits) (first_undecided m.stock m.job (final m.stock m.job r.visits) r.visits)
              found.answer cost_is f.answered near_is;
          block = best_block found.best ratios panels f.good printable;
          some_nodes = f.some;
          few_nodes = omega (arith, few, most);
          nodes = f.nodes;
        }

    pub is_best : IfSome found.best (λ b. AreListed m.stock b.plies × design.Admissible m.stock m.job b.plies × (b.cost ≡ cost_of m.stock m.job b.plies))
    is_best = by found.best f.good where
      by : (o : Option Best) → IfSome o (IsGood m) → IfSome o (λ b. AreListed m.stock b.plies × design.Admissible m.stock m.job b.plies × (b.cost ≡ cost_of m.stock m.job b.plies))
      by None good = tt
      by (Some b) good = (good.listed, good.admissible, good.cost)

    -- where the budget is as great as the number of all partials, it is never used up
    pub is_enough : total_partials m.job.rules.symmetric (length m.stock) m.job.limit ≤ budget → found.answer ≢ answer.OpenBudget
    is_enough enough is =
        let cut = cut_if is in
        let few = cut-few (length m.stock) m.job found.tree (ending_is ∙ cut) in
        let spent = f.spent cut in
        omega (arith, few, spent, enough)
