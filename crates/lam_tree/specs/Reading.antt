-- How the lines of a search tree are read: node by node from the front, each with the partial schedule that it stands for.
-- The lengths come in order, each from the empty prefix. A split is followed by the trees of its children, one for each item
-- of the catalogue, each once, in any order.
use Rattle.std.specs.Prelude.{ℕ, zero, suc, ◌==◌, nat_lt, Bool, true, false, ◌&&◌, ◌||◌, not, List, [], ◌∷◌, length, Option, Some, None, if◌then◌else◌}
use Rattle.lam_stock.specs.declared.item.Item.{Item}
use Rattle.lam_stock.specs.declared.item.ItemNo.{ItemNo}
use Rattle.lam_job.specs.JobData.{JobData}
use Rattle.lam_job.specs.Partial.{Partial, half, child}
use Rattle.lam_tree.specs.declared.node.Node.{Node}
use Rattle.lam_tree.specs.declared.node.Seat.{Seat}
use Rattle.lam_tree.specs.declared.node.Seat.TheVariants.{Length, Item as ItemSeat}
use Rattle.lam_tree.specs.declared.node.Word.{Word}
use Rattle.lam_tree.specs.declared.node.Word.TheVariants.{Split}

-- a node that was read: its partial schedule, and its word
pub record Visit : Type 0 where
  pub partial : Partial
  pub word : Word

-- how a reading ends: the lines end before the tree does; a line's seat is not due; or the tree is whole and no line is left
pub data Ending : Type 0 where
  Cut : Ending
  Stray : Ending
  Whole : Ending

-- the nodes up to the end, or up to the first line whose seat is not due
pub record Reading : Type 0 where
  pub visits : List Visit
  pub ending : Ending

abbrev pub ends : Ending → Reading
ends e = record { visits = []; ending = e }

abbrev pub visit : Partial → Word → Reading → Reading
visit p word r = record { visits = record { partial = p; word = word } ∷ r.visits; ending = r.ending }

-- the partial schedule of a length, of which no ply is settled
abbrev pub root : ℕ → Partial
root n = record { n = n; prefix = [] }

-- which items a split has had
abbrev pub none_had : ℕ → Bool
none_had i = false

abbrev pub and_had : ItemNo → (ℕ → Bool) → ℕ → Bool
and_had item had i = (i == item.0) || had i

-- where a child is due: an item of the catalogue that the split has not had
abbrev pub due_item : (items : ℕ) → (ℕ → Bool) → Seat → Option ItemNo
due_item items had (ItemSeat i) = if nat_lt i.0 items && not (had i.0) then Some i else None
due_item items had (Length n) = None

-- where a length is due: that one
abbrev pub is_due_length : ℕ → Seat → Bool
is_due_length n (Length other) = other == n
is_due_length n (ItemSeat i) = false

-- below, `next` reads the lines behind a tree

-- so many more children of a split, by what reads the tree of each
unfoldable pub children : (items : ℕ) → (Partial → Word → List Node → (List Node → Reading) → Reading) → (to_come : ℕ) → (ℕ → Bool) → Partial → List Node → (List Node → Reading) → Reading
children items tree zero had p lines next = next lines
children items tree (suc to_come) had p [] next = ends Cut
children items tree (suc to_come) had p (line ∷ rest) next =
    elim (due_item items had line.seat) [
      | None ↦ ends Stray
      | Some i ↦ tree (child p i) line.word rest (λ after. children items tree to_come (and_had i had) p after next)
    ]

-- the tree of a partial schedule with so many places to settle, whose line has this word. A full one has no children
unfoldable pub tree : (items : ℕ) → (places : ℕ) → Partial → Word → List Node → (List Node → Reading) → Reading
tree items (suc places) p Split rest next =
    visit p Split (children items (λ q word after more. tree items places q word after more) items none_had p rest next)
tree items zero p Split rest next = visit p Split (ends Stray)
tree items places p word rest next = visit p word (next rest)

-- the trees of so many lengths, from n on
unfoldable pub lengths : (items : ℕ) → JobData → (to_come : ℕ) → (n : ℕ) → List Node → Reading
lengths items job zero n [] = ends Whole
lengths items job zero n (line ∷ rest) = ends Stray
lengths items job (suc to_come) n [] = ends Cut
lengths items job (suc to_come) n (line ∷ rest) =
    elim (is_due_length n line.seat) [
      | false ↦ ends Stray
      | true ↦ tree items (half job n) (root n) line.word rest (λ after. lengths items job to_come (suc n) after)
    ]

-- the tree of a search
abbrev pub read : List Item → JobData → List Node → Reading
read stock job lines = lengths (length stock) job job.limit 1 lines
