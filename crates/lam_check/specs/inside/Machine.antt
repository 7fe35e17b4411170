-- The machine that reads a tree line by line: where it is, and what it is still to read.
use Rattle.std.specs.Prelude.{◌≡◌, ℕ, suc, ◌-◌, ◌<◌, ◌≤◌, List, [], ◌∷◌, length, take, slice_get, IfSome}
use Rattle.lam_stock.specs.declared.item.ItemNo.{ItemNo}
use Rattle.lam_stock.specs.Stock.{IsKnown}
use Rattle.lam_job.specs.declared.limits.TheConstants.{MOST_PLIES}
use Rattle.lam_job.specs.Partial.{Partial, half}
use Rattle.lam_tree.specs.declared.node.Node.{Node}
use Rattle.lam_tree.specs.declared.node.Word.{Word}
use Rattle.lam_tree.specs.Reading.{Reading, children, tree, lengths}
use Rattle.lam_check.specs.declared.splits.Open.{Open}
use Rattle.lam_check.specs.declared.cursor.Cursor.{Cursor}
use Rattle.lam_check.specs.inside.Basis.{Basis}
use Rattle.lam_check.specs.inside.Sets.{has_bit}

-- a path without its last item
abbrev pub front : List ItemNo → List ItemNo
front path = take (length path - 1) path

abbrev pub partial_at : ℕ → List ItemNo → Partial
partial_at n path = record { n = n; prefix = path }

module _ (m : Basis) where
  -- between two lines: the children of the open splits, last split first, of the length n, and then the lengths above it
  unfoldable pub resume : (n : ℕ) → List Open → (path : List ItemNo) → List Node → Reading
  resume n [] path lines = lengths (length m.stock) m.job (m.job.limit - n) (suc n) lines
  resume n (top ∷ opens) path lines =
      children (length m.stock) (λ q word after more. tree (length m.stock) (half m.job n - suc (length path)) q word after more)
      top.to_come (has_bit top.had) (partial_at n path) lines (λ after. resume n opens (front path) after)

  -- behind the seat of a line: the tree of the partial schedule there, and then the rest
  abbrev pub resume_at : (n : ℕ) → List Open → (path : List ItemNo) → Word → List Node → Reading
  resume_at n opens path word rest =
      tree (length m.stock) (half m.job n - length path) (partial_at n path) word rest (λ after. resume n opens (front path) after)

  -- what a cursor is to read of the lines that are left, and of the lines behind a seat
  abbrev pub left : Cursor → List Node → Reading
  left c lines = resume c.partial.n c.splits c.partial.prefix lines

  abbrev pub left_at : Cursor → Word → List Node → Reading
  left_at c word rest = resume_at c.partial.n c.splits c.partial.prefix word rest

  -- a cursor is between two lines: its path leads to its last split
  pub record IsBetween (c : Cursor) : Type 0 where
    pub depth : length c.partial.prefix ≡ length c.splits - 1
    pub within : length c.splits ≤ half m.job c.partial.n
    pub short : c.partial.n ≤ m.job.limit
    pub few : c.partial.n ≤ MOST_PLIES
    pub known : IsKnown m.stock c.partial.prefix

  -- and that split has a child to come
  pub record IsSettled (c : Cursor) : Type 0 where
    pub between : IsBetween c
    pub due : IfSome (slice_get c.splits 0) (λ top. 0 < top.to_come)

  -- a cursor is at a line: its path has an item for each open split
  pub record IsAt (c : Cursor) : Type 0 where
    pub depth : length c.partial.prefix ≡ length c.splits
    pub within : length c.splits ≤ half m.job c.partial.n
    pub some : 1 ≤ c.partial.n
    pub short : c.partial.n ≤ m.job.limit
    pub few : c.partial.n ≤ MOST_PLIES
    pub known : IsKnown m.stock c.partial.prefix
