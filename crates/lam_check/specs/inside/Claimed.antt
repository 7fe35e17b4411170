-- What a report claims, and what its tree gives.
use Rattle.std.specs.Prelude.{◌≡◌, ℕ, ◌+◌, ◌≤◌, List, length, Bool, true, false, Option, Some, None, IsSome}
use Rattle.lam_tree.specs.declared.node.Node.{Node}
use Rattle.lam_tree.specs.declared.report.Best.{Best}
use Rattle.lam_tree.specs.declared.report.Answer.{Answer}
use Rattle.lam_tree.specs.declared.report.Answer.TheVariants as answer
use Rattle.lam_tree.specs.declared.report.Report.{Report}
use Rattle.lam_check.specs.declared.claims.Claims.{Claims}

-- the report of these claims whose tree has these nodes
abbrev pub with_tree : Claims → List Node → Report
with_tree c nodes = record {
  budget = c.budget;
  answer = c.answer.now;
  best = c.best.now;
  ratios = c.ratios.now;
  panels = c.panels.now;
  tree = nodes;
}

-- how many lines a best schedule has
abbrev pub lines_of_best : Option Best → (ratios panels : List ℕ) → ℕ
lines_of_best best ratios panels = elim best [ None ↦ 0 | Some b ↦ 2 + length ratios + length panels ]

abbrev pub KeepsBudget : Answer → (nodes budget : ℕ) → Type 0
KeepsBudget given nodes budget = (nodes ≤ budget) × (given ≡ answer.OpenBudget → nodes ≡ budget)

-- a tree that is whole or not, whose first undecided leaf is the named one or not, gives an answer
abbrev pub Gives : Answer → (whole : Bool) → (named : Option Bool) → (incumbent : Option ℕ) → Type 0
Gives answer.OpenBudget whole named incumbent = whole ≡ false
Gives (answer.OpenStraddle near) whole named incumbent = (whole ≡ true) × (named ≡ Some true)
Gives answer.Least whole named incumbent = (whole ≡ true) × (named ≡ None) × IsSome incumbent
Gives answer.NoneMeets whole named incumbent = (whole ≡ true) × (named ≡ None) × (incumbent ≡ None)
