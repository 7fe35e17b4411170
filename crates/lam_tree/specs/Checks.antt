-- What a report is accepted by: its best schedule line by line, the near one, the lines of its tree, its budget, its answer.
use Rattle.std.specs.Prelude.{◌≡◌, ◌≢◌, ℕ, suc, ◌+◌, ◌/◌, ◌%◌, ◌≤◌, nat_lt, Bool, true, if◌then◌else◌, List, [], ◌∷◌, length, Option, Some, None}
use Rattle.lam_stock.specs.declared.item.Item.{Item}
use Rattle.lam_stock.specs.declared.item.ItemNo.{ItemNo}
use Rattle.lam_job.specs.JobData.{JobData}
use Rattle.lam_job.specs.Schedule.{wall_of, cost_of}
use Rattle.lam_job.specs.Partial.{Partial, completion}
use Rattle.lam_tree.specs.declared.node.Word.{Word}
use Rattle.lam_tree.specs.declared.node.Word.TheVariants as word
use Rattle.lam_tree.specs.declared.report.Best.{Best}
use Rattle.lam_tree.specs.declared.report.Near.{Near}
use Rattle.lam_tree.specs.declared.report.Answer.{Answer}
use Rattle.lam_tree.specs.declared.report.Answer.TheVariants as answer
use Rattle.lam_tree.specs.declared.report.Report.{Report}
use Rattle.lam_tree.specs.Reading.{Visit, Ending, Cut, Stray, Whole, Reading, read}
use Rattle.lam_tree.specs.Tests.{Tests}
use Rattle.lam_tree.specs.Closings.{IsSound, incumbent_with, incumbent_after}
use Rattle.lam_tree.specs.Findings.{Cause, WrongCost, NotAdmissible, WrongRatio, NotNear, OutOfOrder, UnlawfulSplit, WrongLeaf, WrongBudget, WrongAnswer, Fault, Finding, NoFault, Holds, Then}

-- ---- the lines of a report, from 1: heading, budget, answer; the best schedule with its cost, ratios and panels; the near
-- schedule; the number of nodes; the nodes

abbrev pub best_lines : Report → ℕ
best_lines report = elim report.best [ None ↦ 0 | Some b ↦ 2 + length report.ratios + length report.panels ]

abbrev pub near_lines : Answer → ℕ
near_lines (answer.OpenStraddle near) = 2
near_lines other = 0

abbrev pub nodes_line : Report → ℕ
nodes_line report = 4 + best_lines report + near_lines report.answer

-- ---- what the tree gives

-- the cost of the best schedule that is printed
abbrev pub best_cost : Option Best → Option ℕ
best_cost None = None
best_cost (Some b) = Some b.cost

-- a leaf that straddles, with a completion that is cheaper than the best, if there is one
abbrev pub is_cheaper : ℕ → Option ℕ → Bool
is_cheaper cost None = true
is_cheaper cost (Some least) = nat_lt cost least

abbrev pub undecided : List Item → JobData → Option ℕ → Partial → Word → Option Near
undecided stock job best p (word.Straddles spot) =
    if is_cheaper (cost_of stock job (completion job p)) best
    then Some (record { plies = completion job p; cost = cost_of stock job (completion job p); at = spot })
    else None
undecided stock job best p other = None

-- the first of them
abbrev pub first_undecided : List Item → JobData → Option ℕ → List Visit → Option Near
first_undecided stock job best [] = None
first_undecided stock job best (v ∷ rest) =
    elim (undecided stock job best v.partial v.word) [ Some near ↦ Some near | None ↦ first_undecided stock job best rest ]

-- the least cost of an admissible leaf
abbrev pub final : List Item → JobData → List Visit → Option ℕ
final stock job visits = incumbent_after stock job None visits

abbrev pub answer_with : Option ℕ → Option Near → Answer
answer_with c (Some near) = answer.OpenStraddle near
answer_with None None = answer.NoneMeets
answer_with (Some cost) None = answer.Least

abbrev pub answer_at : Ending → Option ℕ → Option Near → Answer
answer_at Cut c near = answer.OpenBudget
answer_at Stray c near = answer_with c near
answer_at Whole c near = answer_with c near

abbrev pub answer_of : List Item → JobData → Reading → Answer
answer_of stock job r =
    answer_at r.ending (final stock job r.visits) (first_undecided stock job (final stock job r.visits) r.visits)

-- ---- what is looked at

module _ (stock : List Item) (job : JobData) (tests : Tests) where
  -- ratio number i of a wall of so many plies is that of ply i % plies under case i / plies
  unfoldable pub RatioChecks : (listed : List ItemNo) → (plies : ℕ) → (line : ℕ) → (i : ℕ) → List ℕ → Finding
  RatioChecks listed plies line i [] = NoFault
  RatioChecks listed plies line i (r ∷ rest) =
      Then (Holds (r ≡ tests.ratio listed (i / plies) (i % plies)) line WrongRatio) (RatioChecks listed plies (suc line) (suc i) rest)

  unfoldable pub PanelChecks : (listed : List ItemNo) → (line : ℕ) → (i : ℕ) → List ℕ → Finding
  PanelChecks listed line i [] = NoFault
  PanelChecks listed line i (r ∷ rest) =
      Then (Holds (Some r ≡ tests.panel listed i) line WrongRatio) (PanelChecks listed (suc line) (suc i) rest)

  -- the schedule is not too long, and is judged so
  abbrev pub IsJudged : List ItemNo → Word → Type 0
  IsJudged listed judgement = (length listed ≤ job.limit) × (tests.judged listed ≡ judgement)

  abbrev pub BestChecks : Option Best → (ratios panels : List ℕ) → Finding
  BestChecks None ratios panels = NoFault
  BestChecks (Some b) ratios panels =
      Then (Holds (b.cost ≡ cost_of stock job b.plies) 4 WrongCost)
      (Then (Holds (IsJudged b.plies word.Admissible) 5 NotAdmissible)
      (Then (RatioChecks b.plies (length (wall_of stock job b.plies)) 6 0 ratios)
      (PanelChecks b.plies (6 + length ratios) 0 panels)))

  -- both at the near line
  abbrev pub NearChecks : Answer → (line : ℕ) → Finding
  NearChecks (answer.OpenStraddle near) line =
      Then (Holds (near.cost ≡ cost_of stock job near.plies) line WrongCost)
      (Holds (IsJudged near.plies (word.Straddles near.at)) line NotNear)
  NearChecks other line = NoFault

  abbrev pub cause_of : Word → Cause
  cause_of word.Split = UnlawfulSplit
  cause_of leaf = WrongLeaf

  -- the lines that were read, with the incumbent before them
  unfoldable pub LineChecks : (best : Option ℕ) → (line : ℕ) → (incumbent : Option ℕ) → List Visit → Finding
  LineChecks best line c [] = NoFault
  LineChecks best line c (v ∷ rest) =
      Then (Holds (IsSound stock job tests best c v.partial v.word) line (cause_of v.word))
      (LineChecks best (suc line) (incumbent_with stock job c v.partial v.word) rest)

  -- and the line behind them, if its seat is not due
  abbrev pub TreeChecks : (best : Option ℕ) → (line : ℕ) → Reading → Finding
  TreeChecks best line r =
      Then (LineChecks best line None r.visits) (Holds (r.ending ≢ Stray) (line + length r.visits) OutOfOrder)

  -- no more nodes than the budget, and just as many where it is used up
  pub record IsBudgetKept (report : Report) : Type 0 where
    pub most : length report.tree ≤ report.budget
    pub spent : report.answer ≡ answer.OpenBudget → length report.tree ≡ report.budget

  -- the cost and the answer are those that the tree gives
  pub record IsAnswered (report : Report) (r : Reading) : Type 0 where
    pub cost : best_cost report.best ≡ final stock job r.visits
    pub answer : report.answer ≡ answer_of stock job r

  abbrev pub Checks : Report → Finding
  Checks report =
      Then (BestChecks report.best report.ratios report.panels)
      (Then (NearChecks report.answer (4 + best_lines report))
      (Then (TreeChecks (best_cost report.best) (suc (nodes_line report)) (read stock job report.tree))
      (Then (Holds (IsBudgetKept report) (nodes_line report) WrongBudget)
      (Holds (IsAnswered report (read stock job report.tree)) 3 WrongAnswer))))

  -- a report is accepted
  abbrev pub Accepts : Report → Type 0
  Accepts report = Checks report None

  -- it is not, and this is the first fault
  abbrev pub IsFirstFault : Report → Fault → Type 0
  IsFirstFault report fault = Checks report (Some fault)
