-- An accepted report keeps its promise, where the leaves of its tree are true.
use Rattle.std.proofs.Common.{◌≡◌, ◌≢◌, refl, sym, ◌∙◌, ap, subst, ℕ, suc, ◌+◌, ◌≤◌, ◌⊎◌, inl, inr, List, [], ◌∷◌, length, All, Option, Some, None, IfSome, MatchOption, Bool, true, false, if◌then◌else◌, arith}
use Rattle.std.proofs.lemmas.Bool.{ltb-true}
use Rattle.std.proofs.lemmas.Option.{same_Some}
use Rattle.std.proofs.lemmas.List.Elements.{All-head, All-tail, All-cons, All-nil}
use Rattle.lam_stock.specs.declared.item.Item.{Item}
use Rattle.lam_stock.specs.declared.item.ItemNo.{ItemNo}
use Rattle.lam_job.specs.JobData.{JobData}
use Rattle.lam_job.specs.Schedule.{cost_of}
use Rattle.lam_job.specs.Rules.{SymmetricRule}
use Rattle.lam_job.specs.Design as design
use Rattle.lam_job.specs.Partial.{Partial, completion}
use Rattle.lam_tree.specs.declared.node.Node.{Node}
use Rattle.lam_tree.specs.declared.node.Word.{Word}
use Rattle.lam_tree.specs.declared.node.Word.TheVariants as word
use Rattle.lam_tree.specs.declared.report.Best.{Best}
use Rattle.lam_tree.specs.declared.report.Near.{Near}
use Rattle.lam_tree.specs.declared.report.Report.{Report}
use Rattle.lam_tree.specs.Words.{IsTrueOf, HangsAt}
use Rattle.lam_tree.specs.Reading.{Visit, Ending, Cut, Stray, Whole, Reading, read}
use Rattle.lam_tree.specs.Tests.{Tests}
use Rattle.lam_tree.specs.Closings.{IsBelow, IsLawful, IsSound, lesser, incumbent_with, incumbent_after}
use Rattle.lam_tree.specs.Checks.{best_cost, is_cheaper, undecided, first_undecided, final, answer_with, answer_at, best_lines, nodes_line, BestChecks, NearChecks, LineChecks, Accepts}
use Rattle.lam_tree.specs.Promise.{AreLawful, IsBest, NoLeafIsAdmissible, AnswerHolds, IsPrinted, Promise}
use Rattle.lam_tree.proofs.Cover.{read-covers}
use Rattle.lam_tree.specs.ReportRanges.{AreListed, IsBlock, IsAnswer, IsReport}
use Rattle.lam_tree.proofs.Settle.{NotAbove, incumbent-falls, settles}

le_same : (n : ℕ) → n ≤ n
le_same n = omega arith

module _ (stock : List Item) (job : JobData) where
  -- ---- splits

  sound_is_lawful : (tests : Tests) (best c : Option ℕ) (p : Partial) (w : Word) → IsSound stock job tests best c p w → w ≡ word.Split → IsLawful stock job c p
  sound_is_lawful tests best c p w sound split = (subst (IsSound stock job tests best c p) split sound).lawful

  lines_are_lawful : (tests : Tests) (best : Option ℕ) (line : ℕ) (c : Option ℕ) (visits : List Visit) → LineChecks stock job tests best line c visits None
      → AreLawful stock job c visits
  unfolding LineChecks
  lines_are_lawful tests best line c [] checks = tt
  lines_are_lawful tests best line c (v ∷ rest) checks =
      (sound_is_lawful tests best c v.partial v.word checks.0, lines_are_lawful tests best (suc line) (incumbent_with stock job c v.partial v.word) rest checks.1)

  -- ---- where there is no cost, no leaf is admissible

  admissible_has_cost : (c : Option ℕ) (v : Visit) (rest : List Visit) → v.word ≡ word.Admissible
      → incumbent_after stock job (incumbent_with stock job c v.partial v.word) rest ≡ None → ⊥
  admissible_has_cost c v rest is none =
      let cost = lesser c (cost_of stock job (completion job v.partial)) in
      let some : incumbent_with stock job c v.partial v.word ≡ Some cost = ap (incumbent_with stock job c v.partial) is in
      let h : NotAbove (incumbent_with stock job c v.partial v.word) cost = subst (λ o. NotAbove o cost) (sym some) (le_same cost) in
      subst (λ o. NotAbove o cost) none (incumbent-falls stock job (incumbent_with stock job c v.partial v.word) rest cost h)

  none_is_admissible : (c : Option ℕ) (visits : List Visit) → incumbent_after stock job c visits ≡ None → NoLeafIsAdmissible stock job visits
  none_is_admissible c [] none = All-nil (λ (v : Visit). v.word ≢ word.Admissible)
  none_is_admissible c (v ∷ rest) none =
      All-cons (λ (u : Visit). u.word ≢ word.Admissible) v rest (λ is. admissible_has_cost c v rest is none)
      (none_is_admissible (incumbent_with stock job c v.partial v.word) rest none)

  -- ---- the first undecided leaf

  -- what is said of a schedule that is named
  pub record IsNamed (best : Option ℕ) (near : Near) : Type 0 where
    pub cost : near.cost ≡ cost_of stock job near.plies
    pub below : IsBelow near.cost best
    pub hangs : HangsAt stock job near.plies near.at

  is_below : (best : Option ℕ) (cost : ℕ) → is_cheaper cost best ≡ true → IsBelow cost best
  is_below None cost e = tt
  is_below (Some least) cost e = ltb-true cost least e

  named_by : (best : Option ℕ) (own near : Near) → IsNamed best own → (b : Bool) → (if b then Some own else None) ≡ Some near → IsNamed best near
  named_by best own near is true e = subst (IsNamed best) (same_Some own near e) is
  named_by best own near is false e = absurd (let n : None ≡ Some near = e in cc)

  only_if_cheaper : (b : Bool) (own near : Near) → (if b then Some own else None) ≡ Some near → b ≡ true
  only_if_cheaper true own near e = refl
  only_if_cheaper false own near e = absurd (let n : None ≡ Some near = e in cc)

  leaf_names : (best : Option ℕ) (p : Partial) (w : Word) (near : Near) → IsTrueOf stock job best p w → undecided stock job best p w ≡ Some near → IsNamed best near
  leaf_names best p (word.Straddles spot) near h e =
      let own_cost = cost_of stock job (completion job p) in
      let own : Near = record { plies = completion job p; cost = own_cost; at = spot } in
      named_by best own near
      (record { cost = refl; below = is_below best own_cost (only_if_cheaper (is_cheaper own_cost best) own near e); hangs = h.1 })
      (is_cheaper own_cost best) e
  leaf_names best p word.Split near h e = absurd (let n : None ≡ Some near = e in cc)
  leaf_names best p word.Cost near h e = absurd (let n : None ≡ Some near = e in cc)
  leaf_names best p (word.Rule r) near h e = absurd (let n : None ≡ Some near = e in cc)
  leaf_names best p (word.NetShort k w) near h e = absurd (let n : None ≡ Some near = e in cc)
  leaf_names best p (word.NetCost k w) near h e = absurd (let n : None ≡ Some near = e in cc)
  leaf_names best p (word.Box at) near h e = absurd (let n : None ≡ Some near = e in cc)
  leaf_names best p (word.Range k) near h e = absurd (let n : None ≡ Some near = e in cc)
  leaf_names best p (word.Fails at) near h e = absurd (let n : None ≡ Some near = e in cc)
  leaf_names best p (word.Buckles k) near h e = absurd (let n : None ≡ Some near = e in cc)
  leaf_names best p word.Admissible near h e = absurd (let n : None ≡ Some near = e in cc)

  first_of : (a b : Option Near) (near : Near) → ◌≡◌ {A = Option Near} (elim a [ Some x ↦ Some x | None ↦ b ]) (Some near) → (a ≡ Some near) ⊎ (b ≡ Some near)
  first_of None b near e = inr e
  first_of (Some x) b near e = inl e

  first_is_named : (best : Option ℕ) (visits : List Visit) (near : Near) → All (λ v. IsTrueOf stock job best v.partial v.word) visits
      → first_undecided stock job best visits ≡ Some near → IsNamed best near
  first_is_named best [] near all e = absurd (let n : None ≡ Some near = e in cc)
  first_is_named best (v ∷ rest) near all e =
      let P : Visit → Type 0 = λ u. IsTrueOf stock job best u.partial u.word in
      elim (first_of (undecided stock job best v.partial v.word) (first_undecided stock job best rest) near e) [
        | inl own ↦ leaf_names best v.partial v.word near (All-head P v rest all) own
        | inr later ↦ first_is_named best rest near (All-tail P v rest all) later
      ]

  -- ---- the answers

  -- a whole tree of true leaves, of which none is undecided: what may be built is not cheaper than the best
  none_is_below : (lines : List Node) (best : Option ℕ) → best ≡ final stock job (read stock job lines).visits → (read stock job lines).ending ≡ Whole
      → All (λ v. IsTrueOf stock job best v.partial v.word) (read stock job lines).visits
      → first_undecided stock job best (read stock job lines).visits ≡ None
      → (s : List ItemNo) → design.IsSequence stock job s → design.Admissible stock job s → NotAbove best (cost_of stock job s)
  none_is_below lines best is whole all decided s sequence may =
      let covers = read-covers stock job lines s sequence (may.rules SymmetricRule) whole in
      elim (settles stock job best s may None (read stock job lines).visits all covers decided) [
        | inl low ↦ low
        | inr low ↦ subst (λ o. NotAbove o (cost_of stock job s)) (sym is) low
      ]

  -- ---- the promise

  sequence_of : (plies : List ItemNo) → AreListed stock plies → length plies ≤ job.limit → design.IsSequence stock job plies
  sequence_of plies listed short = record { some = listed.some; short = short; known = listed.known }

  module _ (tests : Tests) (report : Report) where
    abbrev r : Reading
    r = read stock job report.tree

    best_holds : (o : Option Best) → IsBlock stock job o report.ratios report.panels → BestChecks stock job tests o report.ratios report.panels None
        → best_cost o ≡ final stock job r.visits → IfSome o (IsPrinted stock job report)
        → MatchOption o (NoLeafIsAdmissible stock job r.visits) (IsBest stock job report r.visits)
    best_holds None block checks cost printed = none_is_admissible None r.visits (sym cost)
    best_holds (Some b) block checks cost printed = record {
      sequence = sequence_of b.plies block.1 checks.1.0.0;
      admissible = printed.admissible;
      cost = checks.0;
      least = cost;
      ratios = printed.ratios;
      panels = printed.panels;
    }

    least_holds : (o : Option Best) (cost : ℕ) → best_cost o ≡ Some cost
        → MatchOption o (NoLeafIsAdmissible stock job r.visits) (IsBest stock job report r.visits)
        → ((s : List ItemNo) → design.IsSequence stock job s → design.Admissible stock job s → NotAbove (best_cost o) (cost_of stock job s))
        → MatchOption o ⊥ (λ b. design.Least stock job b.plies)
    least_holds None cost e holds below = absurd (let n : None ≡ Some cost = e in cc)
    least_holds (Some b) cost e holds below = record {
      sequence = holds.sequence;
      admissible = holds.admissible;
      cheapest = λ other is may. subst (λ n. n ≤ cost_of stock job other) holds.cost (below other is may);
    }

    none_holds : (best : Option ℕ) → best ≡ None
        → ((s : List ItemNo) → design.IsSequence stock job s → design.Admissible stock job s → NotAbove best (cost_of stock job s))
        → design.NoneMeets stock job
    none_holds best none below s is may = subst (λ o. NotAbove o (cost_of stock job s)) none (below s is may)

    module _ (ranges : IsReport stock job report) (accepted : Accepts stock job tests report)
        (leaves : All (λ v. IsTrueOf stock job (best_cost report.best) v.partial v.word) r.visits)
        (printed : IfSome report.best (IsPrinted stock job report)) where
      cost_is_final : best_cost report.best ≡ final stock job r.visits
      cost_is_final = accepted.1.1.1.1.cost

      best : MatchOption report.best (NoLeafIsAdmissible stock job r.visits) (IsBest stock job report r.visits)
      best = best_holds report.best ranges.block accepted.0 cost_is_final printed

      below : r.ending ≡ Whole → first_undecided stock job (final stock job r.visits) r.visits ≡ None
          → (s : List ItemNo) → design.IsSequence stock job s → design.Admissible stock job s → NotAbove (best_cost report.best) (cost_of stock job s)
      below whole decided =
          none_is_below report.tree (best_cost report.best) cost_is_final whole leaves
          (subst (λ o. first_undecided stock job o r.visits ≡ None) (sym cost_is_final) decided)

      whole_answer : r.ending ≡ Whole → (c : Option ℕ) → final stock job r.visits ≡ c
          → (near : Option Near) → first_undecided stock job (final stock job r.visits) r.visits ≡ near
          → report.answer ≡ answer_with c near → AnswerHolds stock job report r report.answer
      whole_answer whole c cost (Some near) named is =
          let range = subst (λ a. IsAnswer stock a report.best) is ranges.answer in
          let checks = subst (λ a. NearChecks stock job tests a (4 + best_lines report) None) is accepted.1.0 in
          let n = first_is_named (best_cost report.best) r.visits near leaves
          (subst (λ o. first_undecided stock job o r.visits ≡ Some near) (sym cost_is_final) named) in
          subst (AnswerHolds stock job report r) (sym is)
          (whole, sequence_of near.plies range.1 checks.1.0, n.cost, n.below, n.hangs)
      whole_answer whole None cost None decided is =
          subst (AnswerHolds stock job report r) (sym is)
          (whole, none_holds (best_cost report.best) (cost_is_final ∙ cost) (below whole decided))
      whole_answer whole (Some n) cost None decided is =
          subst (AnswerHolds stock job report r) (sym is)
          (whole, least_holds report.best n (cost_is_final ∙ cost) best (below whole decided))

      answer_holds : (e : Ending) → r.ending ≡ e → e ≢ Stray
          → report.answer ≡ answer_at e (final stock job r.visits) (first_undecided stock job (final stock job r.visits) r.visits)
          → AnswerHolds stock job report r report.answer
      answer_holds Cut ending due is = subst (AnswerHolds stock job report r) (sym is) (ending, accepted.1.1.1.0.spent is)
      answer_holds Stray ending due is = absurd (due refl)
      answer_holds Whole ending due is =
          whole_answer ending (final stock job r.visits) refl (first_undecided stock job (final stock job r.visits) r.visits) refl is

      -- an accepted report keeps its promise
      pub promised : Promise stock job report.budget report
      promised = record {
        budget_is = refl;
        few = accepted.1.1.1.0.most;
        due = accepted.1.1.0.1;
        lawful = lines_are_lawful tests (best_cost report.best) (suc (nodes_line report)) None r.visits accepted.1.1.0.0;
        leaves = leaves;
        best = best;
        answer = answer_holds r.ending refl accepted.1.1.0.1 accepted.1.1.1.1.answer;
      }
