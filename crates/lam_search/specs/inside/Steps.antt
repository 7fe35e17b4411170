-- What a walk wrote.
use Rattle.std.specs.Prelude.{◌≡◌, ℕ, suc, ◌+◌, ◌-◌, ◌⊎◌, List, ◌∷◌, ◌++◌, length, fold, Bool}
use Rattle.lam_stock.specs.declared.item.ItemNo.{ItemNo}
use Rattle.lam_job.specs.Partial.{Partial, half}
use Rattle.lam_tree.specs.declared.node.Node.{Node}
use Rattle.lam_tree.specs.declared.node.Seat.{Seat}
use Rattle.lam_tree.specs.declared.node.Word.{Word}
use Rattle.lam_tree.specs.Reading.{Visit, Ending, Cut, Whole, ends, none_had, and_had, lengths}
use Rattle.lam_tree.specs.Closings.{incumbent_after}
use Rattle.lam_tree.specs.Checks.{best_cost}
use Rattle.lam_tree.proofs.Writing.{behind, IsTree, IsCutTree, AreChildren, AreLengths}
use Rattle.lam_search.specs.declared.state.State.{State}
use Rattle.lam_search.specs.declared.state.Flow.{Flow}
use Rattle.lam_search.specs.declared.state.Flow.TheVariants as flow
use Rattle.lam_search.specs.inside.Here.{Basis}
use Rattle.lam_search.specs.inside.Held.{AreHeld}

-- which items a split has had
abbrev pub had_of : List ItemNo → ℕ → Bool
had_of items = fold (λ had item. and_had item had) none_had items

module _ (m : Basis) where
  -- how many places of a partial are to be settled
  abbrev pub places : Partial → ℕ
  places p = half m.job p.n - length p.prefix

  -- some lines were written, of these nodes
  pub record Added (old new : State) (own : List Node) (visits : List Visit) : Type 0 where
    pub lines : new.tree ≡ old.tree ++ own
    pub incumbent : best_cost new.best ≡ incumbent_after m.stock m.job (best_cost old.best) visits
    pub held : AreHeld m (best_cost old.best) visits

  -- the whole tree of a partial
  pub record IsWritten (seat : Seat) (p : Partial) (old new : State) : Type 0 where
    pub word : Word
    pub own : List Node
    pub visits : List Visit
    pub added : Added old new (record { seat = seat; word = word } ∷ own) visits
    pub reads : IsTree (length m.stock) (places p) p word own visits

  -- the beginning of it
  pub record IsBegun (seat : Seat) (p : Partial) (old new : State) : Type 0 where
    pub word : Word
    pub own : List Node
    pub visits : List Visit
    pub added : Added old new (record { seat = seat; word = word } ∷ own) visits
    pub reads : IsCutTree (length m.stock) (places p) p word own visits

  -- nothing
  pub record IsUnchanged (old new : State) : Type 0 where
    pub tree : new.tree ≡ old.tree
    pub best : new.best ≡ old.best

  -- the tree of a partial, or, where the budget is used up, its beginning or nothing
  abbrev pub Walked : (budget : ℕ) → Seat → Partial → Flow → (old new : State) → Type 0
  Walked budget seat p flow.Whole old new = IsWritten seat p old new
  Walked budget seat p flow.Cut old new = (length new.tree ≡ budget) × (IsUnchanged old new ⊎ IsBegun seat p old new)

  -- the trees of some children of a split that has so many places below it
  pub record Explored (below : ℕ) (p : Partial) (items : List ItemNo) (old new : State) : Type 0 where
    pub to_come : ℕ
    pub own : List Node
    pub visits : List Visit
    pub left : to_come + length items ≡ length m.stock
    pub added : Added old new own visits
    pub reads : AreChildren (length m.stock) below (length m.stock) p own visits to_come (had_of items)

  -- the trees of the lengths below n
  pub record Spanned (n : ℕ) (old new : State) : Type 0 where
    pub to_come : ℕ
    pub own : List Node
    pub visits : List Visit
    pub left : to_come + n ≡ suc m.job.limit
    pub added : Added old new own visits
    pub reads : AreLengths (length m.stock) m.job m.job.limit own visits to_come n

  -- the tree of a search, up to an ending
  pub record IsRead (ending : Ending) (old new : State) : Type 0 where
    pub own : List Node
    pub visits : List Visit
    pub added : Added old new own visits
    pub reads : lengths (length m.stock) m.job m.job.limit 1 own ≡ behind visits (ends ending)

  abbrev pub Searched : (budget : ℕ) → Flow → (old new : State) → Type 0
  Searched budget flow.Whole old new = IsRead Whole old new
  Searched budget flow.Cut old new = (length new.tree ≡ budget) × IsRead Cut old new
