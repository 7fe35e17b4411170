-- What is found in the parts of a report is found in the whole.
use Rattle.std.proofs.Common.{◌≡◌, refl, sym, ◌∙◌, ap, subst, ℕ, suc, ◌+◌, inl, inr, length, Option, Some, None, arith}
use Rattle.lam_tree.specs.declared.report.Report.{Report}
use Rattle.lam_tree.specs.Reading.{Reading, read}
use Rattle.lam_tree.specs.Findings.{Fault, WrongBudget, WrongAnswer}
use Rattle.lam_tree.specs.Checks.{best_lines, near_lines, nodes_line, best_cost, BestChecks, NearChecks, TreeChecks, Checks}
use Rattle.lam_check.specs.declared.state.Summary.{Summary}
use Rattle.lam_check.specs.inside.Basis.{Basis}
use Rattle.lam_check.specs.inside.Claimed.{Gives, KeepsBudget}
use Rattle.lam_check.specs.inside.Steps.{Sums}
use Rattle.lam_check.proofs.Endings.{answer-gives}

module _ (m : Basis) (report : Report) where
  abbrev Finds : Option Fault → Type 0
  Finds found = Checks m.stock m.job m.tests report found

  abbrev BestIs : Option Fault → Type 0
  BestIs found = BestChecks m.stock m.job m.tests report.best report.ratios report.panels found

  abbrev NearIs : (line : ℕ) → Option Fault → Type 0
  NearIs line found = NearChecks m.stock m.job m.tests report.answer line found

  abbrev TreeIs : (line : ℕ) → Option Fault → Type 0
  TreeIs line found = TreeChecks m.stock m.job m.tests (best_cost report.best) line (read m.stock m.job report.tree) found

  module _ (near_at : ℕ) (at_near : near_at ≡ 4 + best_lines report) where
    pub in_near : (fault : Fault) → BestIs None → NearIs near_at (Some fault) → Finds (Some fault)
    in_near fault best near = inr (best, inl (subst (λ n. NearIs n (Some fault)) at_near near))

    module _ (nodes_at : ℕ) (at_nodes : nodes_at ≡ near_at + near_lines report.answer) where
      is_nodes_line : nodes_at ≡ nodes_line report
      is_nodes_line = at_nodes ∙ ap (λ n. n + near_lines report.answer) at_near

      tree_line : nodes_at + 1 ≡ suc (nodes_line report)
      tree_line = let e = is_nodes_line in omega (arith, e)

      pub in_tree : (fault : Fault) → BestIs None → NearIs near_at None → TreeIs (nodes_at + 1) (Some fault) → Finds (Some fault)
      in_tree fault best near tree =
          inr (best, inr (subst (λ n. NearIs n None) at_near near, inl (subst (λ n. TreeIs n (Some fault)) tree_line tree)))

      module _ (best : BestIs None) (near : NearIs near_at None) (tree : TreeIs (nodes_at + 1) None) where
        near_none : NearIs (4 + best_lines report) None
        near_none = subst (λ n. NearIs n None) at_near near

        tree_none : TreeIs (suc (nodes_line report)) None
        tree_none = subst (λ n. TreeIs n None) tree_line tree

        pub in_budget : (nodes : ℕ) → nodes ≡ length report.tree → ¬ KeepsBudget report.answer nodes report.budget
            → Finds (Some (record { line = nodes_at; cause = WrongBudget }))
        in_budget nodes long over =
            inr (
              best,
              inr (
                near_none,
                inr (
                  tree_none,
                  inl (
                    (λ kept. over (subst (λ n. KeepsBudget report.answer n report.budget) (sym long) (kept.most, kept.spent))),
                    ap (λ n. record { line = n; cause = WrongBudget }) is_nodes_line,
                  ),
                ),
              ),
            )

        module _ (nodes : ℕ) (long : nodes ≡ length report.tree) (kept : KeepsBudget report.answer nodes report.budget)
            (s : Summary) (sums : Sums m report.answer (best_cost report.best) (read m.stock m.job report.tree) s) where
          abbrev AnswerIs : Type 0
          AnswerIs = (best_cost report.best ≡ s.incumbent) × Gives report.answer s.whole s.named s.incumbent

          abbrev r : Reading
          r = read m.stock m.job report.tree

          pub in_answer : ¬ AnswerIs → Finds (Some (record { line = 3; cause = WrongAnswer }))
          in_answer other =
              let own = subst (λ n. KeepsBudget report.answer n report.budget) long kept in
              inr (
                best,
                inr (
                  near_none,
                  inr (
                    tree_none,
                    inr (
                      record { most = own.0; spent = own.1 },
                      (
                        (λ is.
                            (let same : best_cost report.best ≡ s.incumbent = is.cost ∙ sym sums.incumbent in
                            other (same, (answer-gives m report.answer (best_cost report.best) r s sums same).1 is.answer))),
                        refl,
                      ),
                    ),
                  ),
                ),
              )

          pub in_none : AnswerIs → Finds None
          in_none is =
              let own = subst (λ n. KeepsBudget report.answer n report.budget) long kept in (
                best,
                (
                  near_none,
                  (
                    tree_none,
                    (
                      record { most = own.0; spent = own.1 },
                      record {
                        cost = is.0 ∙ sums.incumbent;
                        answer = (answer-gives m report.answer (best_cost report.best) r s sums is.0).0 is.1;
                      },
                    ),
                  ),
                ),
              )
