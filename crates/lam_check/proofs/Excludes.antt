-- What finds nothing finds no fault.
use Rattle.std.proofs.Common.{ℕ, suc, ◌+◌, inl, inr, List, [], ◌∷◌, length, Option, Some, None}
use Rattle.lam_stock.specs.declared.item.ItemNo.{ItemNo}
use Rattle.lam_job.specs.Schedule.{wall_of}
use Rattle.lam_tree.specs.declared.report.Best.{Best}
use Rattle.lam_tree.specs.declared.report.Answer.{Answer}
use Rattle.lam_tree.specs.declared.report.Answer.TheVariants as answer
use Rattle.lam_tree.specs.declared.report.Report.{Report}
use Rattle.lam_tree.specs.Reading.{Visit, Reading, read}
use Rattle.lam_tree.specs.Findings.{Cause, Fault, Finding, NoFault, Holds, Then}
use Rattle.lam_tree.specs.Closings.{incumbent_with}
use Rattle.lam_tree.specs.Checks.{best_lines, nodes_line, best_cost, RatioChecks, PanelChecks, BestChecks, NearChecks, LineChecks, TreeChecks, Checks}
use Rattle.lam_check.specs.inside.Basis.{Basis}

-- a finding is not both nothing and a fault
abbrev Excludes : Finding → Type 0
Excludes found = (fault : Fault) → found (Some fault) → found None → ⊥

excludes-none : Excludes NoFault
excludes-none fault is nothing = is

excludes-holds : (fact : Type 0) (line : ℕ) (cause : Cause) → Excludes (Holds fact line cause)
excludes-holds fact line cause fault is nothing = is.0 nothing

excludes-then : (first next : Finding) → Excludes first → Excludes next → Excludes (Then first next)
excludes-then first next one other fault (inl is) nothing = one fault is nothing.0
excludes-then first next one other fault (inr is) nothing = other fault is.1 nothing.1

module _ (m : Basis) where
  excludes-ratios : (listed : List ItemNo) (plies line i : ℕ) (ratios : List ℕ) → Excludes (RatioChecks m.stock m.job m.tests listed plies line i ratios)
  unfolding RatioChecks
  excludes-ratios listed plies line i [] fault is nothing = is
  excludes-ratios listed plies line i (r ∷ rest) fault (inl is) nothing = is.0 nothing.0
  excludes-ratios listed plies line i (r ∷ rest) fault (inr is) nothing = excludes-ratios listed plies (suc line) (suc i) rest fault is.1 nothing.1

  excludes-panels : (listed : List ItemNo) (line i : ℕ) (panels : List ℕ) → Excludes (PanelChecks m.stock m.job m.tests listed line i panels)
  unfolding PanelChecks
  excludes-panels listed line i [] fault is nothing = is
  excludes-panels listed line i (r ∷ rest) fault (inl is) nothing = is.0 nothing.0
  excludes-panels listed line i (r ∷ rest) fault (inr is) nothing = excludes-panels listed (suc line) (suc i) rest fault is.1 nothing.1

  excludes-lines : (best : Option ℕ) (line : ℕ) (c : Option ℕ) (visits : List Visit) → Excludes (LineChecks m.stock m.job m.tests best line c visits)
  unfolding LineChecks
  excludes-lines best line c [] fault is nothing = is
  excludes-lines best line c (v ∷ rest) fault (inl is) nothing = is.0 nothing.0
  excludes-lines best line c (v ∷ rest) fault (inr is) nothing =
      excludes-lines best (suc line) (incumbent_with m.stock m.job c v.partial v.word) rest fault is.1 nothing.1

  excludes-best : (best : Option Best) (ratios panels : List ℕ) → Excludes (BestChecks m.stock m.job m.tests best ratios panels)
  excludes-best None ratios panels fault is nothing = is
  excludes-best (Some b) ratios panels fault (inl is) nothing = is.0 nothing.0
  excludes-best (Some b) ratios panels fault (inr (cost, inl is)) nothing = is.0 nothing.1.0
  excludes-best (Some b) ratios panels fault (inr (cost, inr (judged, inl is))) nothing =
      excludes-ratios b.plies (length (wall_of m.stock m.job b.plies)) 6 0 ratios fault is nothing.1.1.0
  excludes-best (Some b) ratios panels fault (inr (cost, inr (judged, inr (printed, is)))) nothing =
      excludes-panels b.plies (6 + length ratios) 0 panels fault is nothing.1.1.1

  excludes-near : (given : Answer) (line : ℕ) → Excludes (NearChecks m.stock m.job m.tests given line)
  excludes-near (answer.OpenStraddle near) line fault (inl is) nothing = is.0 nothing.0
  excludes-near (answer.OpenStraddle near) line fault (inr is) nothing = is.1.0 nothing.1
  excludes-near answer.Least line fault is nothing = is
  excludes-near answer.NoneMeets line fault is nothing = is
  excludes-near answer.OpenBudget line fault is nothing = is

  excludes-tree : (best : Option ℕ) (line : ℕ) (r : Reading) → Excludes (TreeChecks m.stock m.job m.tests best line r)
  excludes-tree best line r fault (inl is) nothing = excludes-lines best line None r.visits fault is nothing.0
  excludes-tree best line r fault (inr is) nothing = is.1.0 nothing.1

  -- a report that is accepted has no fault
  pub one_or_other : (report : Report) (fault : Fault) → Checks m.stock m.job m.tests report (Some fault) → Checks m.stock m.job m.tests report None → ⊥
  one_or_other report fault (inl is) nothing = excludes-best report.best report.ratios report.panels fault is nothing.0
  one_or_other report fault (inr (best, inl is)) nothing = excludes-near report.answer (4 + best_lines report) fault is nothing.1.0
  one_or_other report fault (inr (best, inr (near, inl is))) nothing =
      excludes-tree (best_cost report.best) (suc (nodes_line report)) (read m.stock m.job report.tree) fault is nothing.1.1.0
  one_or_other report fault (inr (best, inr (near, inr (tree, inl is)))) nothing = is.0 nothing.1.1.1.0
  one_or_other report fault (inr (best, inr (near, inr (tree, inr (budget, is))))) nothing = is.0 nothing.1.1.1.1
