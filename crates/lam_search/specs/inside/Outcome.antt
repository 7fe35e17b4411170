-- What a search found.
use Rattle.std.specs.Prelude.{◌≡◌, ◌≢◌, ℕ, ◌≤◌, List, length, All, Option, Some, None, IfSome}
use Rattle.lam_tree.specs.Reading.{Visit, Ending, Cut, Stray, Whole, read}
use Rattle.lam_tree.specs.Checks.{best_cost, final, answer_of}
use Rattle.lam_tree.specs.ReportRanges.{IsNode}
use Rattle.lam_tree.specs.declared.report.Answer.{Answer}
use Rattle.lam_tree.specs.declared.report.Answer.TheVariants as answer
use Rattle.lam_search.specs.declared.searching.Found.{Found}
use Rattle.lam_search.specs.declared.state.Flow.{Flow}
use Rattle.lam_search.specs.declared.state.Flow.TheVariants as flow
use Rattle.lam_search.specs.declared.seeking.Sight.{Sight}
use Rattle.lam_search.specs.declared.seeking.Sight.TheVariants.{Seen, Passed, Lost}
use Rattle.lam_search.specs.inside.Here.{Basis}
use Rattle.lam_search.specs.inside.Held.{AreHeld, IsGood}

-- how the reading of a tree ends
abbrev pub ending_of : Flow → Ending
ending_of flow.Whole = Whole
ending_of flow.Cut = Cut

-- the answer of a whole tree of which this is seen
abbrev pub answer_seen : Option ℕ → Sight → Answer
answer_seen c (Seen near) = answer.OpenStraddle near
answer_seen None (Passed to) = answer.NoneMeets
answer_seen None Lost = answer.NoneMeets
answer_seen (Some cost) (Passed to) = answer.Least
answer_seen (Some cost) Lost = answer.Least

module _ (m : Basis) where
  pub record IsFound (budget : ℕ) (found : Found) : Type 0 where
    pub visits : List Visit
    pub ending : Ending
    pub reads : read m.stock m.job found.tree ≡ record { visits = visits; ending = ending }
    pub due : ending ≢ Stray
    pub held : AreHeld m None visits
    pub cost : best_cost found.best ≡ final m.stock m.job visits
    pub answered : found.answer ≡ answer_of m.stock m.job (read m.stock m.job found.tree)
    pub good : IfSome found.best (IsGood m)
    pub nodes : All (IsNode (length m.stock)) found.tree
    pub some : 1 ≤ length found.tree
    pub few : length found.tree ≤ budget
    pub spent : ending ≡ Cut → length found.tree ≡ budget
