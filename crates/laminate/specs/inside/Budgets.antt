-- The budgets of nodes and the numbers of samples that orders have.
use Rattle.std.specs.Prelude.{ℕ, ◌≤◌, Result, Ok, Err, ⊤}
use Rattle.lam_words.specs.declared.order.Order.{Order}
use Rattle.lam_words.specs.declared.order.WordsError.{WordsError}
use Rattle.lam_words.specs.Reading.{OrderWords, design, analyse, check, sample}
use Rattle.lam_words.specs.Spelled.{spelled}
use Rattle.lam_words.specs.declared.order.TheConstants.{MOST_NUMBER}
use Rattle.lam_tree.specs.declared.limits.TheConstants.{MOST_NODES}

-- a budget that a search may be given
pub record IsBudget (nodes : ℕ) : Type 0 where
  pub some : 1 ≤ nodes
  pub most : nodes ≤ MOST_NODES

-- a number of a sample
pub record IsNumber (number : ℕ) : Type 0 where
  pub some : 1 ≤ number
  pub most : number ≤ MOST_NUMBER

-- an order to search has such a budget, and one of a sample such a number
abbrev pub HasBudget : OrderWords → Type 0
HasBudget (design job catalogue search) = IsBudget search.nodes
HasBudget (analyse job catalogue schedule) = ⊤
HasBudget (check job catalogue report) = ⊤
HasBudget (sample number search) = IsBudget search.nodes × IsNumber number

-- words that were read have one, if they ask for a search
abbrev pub ReadsBudget : Result Order WordsError → Type 0
ReadsBudget (Ok order) = HasBudget (spelled order)
ReadsBudget (Err error) = ⊤
