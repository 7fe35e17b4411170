-- What is so of a node when it is written.
use Rattle.std.specs.Prelude.{◌≡◌, ℕ, ◌≤◌, List, [], ◌∷◌, length, All, Option, IfSome, ⊤}
use Rattle.lam_job.specs.Partial.{Partial, completion}
use Rattle.lam_job.specs.Schedule.{cost_of}
use Rattle.lam_job.specs.Design.{Admissible}
use Rattle.lam_rules.specs.Conditions.{IsPartial}
use Rattle.lam_tree.specs.declared.limits.TheConstants.{MOST_COST}
use Rattle.lam_tree.specs.declared.node.Word.{Word}
use Rattle.lam_tree.specs.declared.node.Word.TheVariants as word
use Rattle.lam_tree.specs.declared.report.Best.{Best}
use Rattle.lam_tree.specs.Reading.{Visit}
use Rattle.lam_tree.specs.Closings.{IsSound, incumbent_with}
use Rattle.lam_tree.specs.Words.{IsTrueOf}
use Rattle.lam_tree.specs.ReportRanges.{IsWord, IsNode, AreListed}
use Rattle.lam_search.specs.declared.state.State.{State}
use Rattle.lam_search.specs.inside.Here.{Basis}

module _ (m : Basis) where
  -- a word may be written of a partial schedule, and is true of it, with the incumbent of the moment
  pub record IsHeld (c : Option ℕ) (p : Partial) (w : Word) : Type 0 where
    pub part : IsPartial m.stock m.job p
    pub short : p.n ≤ m.job.limit
    pub sound : IsSound m.stock m.job m.tests c c p w
    pub so : IsTrueOf m.stock m.job c p w
    pub range : IsWord w
    pub small : cost_of m.stock m.job (completion m.job p) ≤ MOST_COST

  -- so of some nodes, each with the incumbent of its moment
  abbrev pub AreHeld : Option ℕ → List Visit → Type 0
  AreHeld c [] = ⊤
  AreHeld c (v ∷ rest) = IsHeld c v.partial v.word × AreHeld (incumbent_with m.stock m.job c v.partial v.word) rest

  -- a best schedule
  pub record IsGood (b : Best) : Type 0 where
    pub listed : AreListed m.stock b.plies
    pub short : length b.plies ≤ m.job.limit
    pub judged : m.tests.judged b.plies ≡ word.Admissible
    pub admissible : Admissible m.stock m.job b.plies
    pub cost : b.cost ≡ cost_of m.stock m.job b.plies
    pub small : b.cost ≤ MOST_COST

  -- what a search keeps of its nodes
  pub record IsKept (state : State) : Type 0 where
    pub best : IfSome state.best IsGood
    pub nodes : All (IsNode (length m.stock)) state.tree
