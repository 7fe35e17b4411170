-- What is seen when a tree is read again, for the first leaf that straddles below a cost.
use Rattle.std.specs.Prelude.{◌≡◌, ◌≢◌, ℕ, suc, ◌+◌, ◌-◌, ◌≤◌, List, drop, length, Bool, false, get_or, Option, Some, None}
use Rattle.lam_job.specs.Partial.{Partial, half}
use Rattle.lam_tree.specs.declared.node.Node.{Node}
use Rattle.lam_tree.specs.declared.node.Word.{Word}
use Rattle.lam_tree.specs.Reading.{Visit, Reading, Whole, none_had, children, tree, lengths}
use Rattle.lam_tree.specs.Checks.{first_undecided}
use Rattle.lam_tree.proofs.Equations.{below}
use Rattle.lam_tree.proofs.Writing.{behind}
use Rattle.lam_search.specs.declared.seeking.Sight.{Sight}
use Rattle.lam_search.specs.declared.seeking.Sight.TheVariants.{Seen, Passed, Lost}
use Rattle.lam_search.specs.inside.Here.{Basis}

-- the items that a table has
abbrev pub had_by : List Bool → ℕ → Bool
had_by table i = get_or table i false

-- the reading of the tree of a partial, from behind the line of its node
abbrev pub tree_of : Basis → Partial → Word → List Node → (List Node → Reading) → Reading
tree_of m p w lines next = tree (length m.stock) (half m.job p.n - length p.prefix) p w lines next

module _ (m : Basis) (best : Option ℕ) (nodes : List Node) where
  -- no leaf up to a place straddles below the cost
  pub record IsPassed (from : (List Node → Reading) → Reading) (to : ℕ) : Type 0 where
    pub visits : List Visit
    pub none : first_undecided m.stock m.job best visits ≡ None
    pub within : to ≤ length nodes
    pub reads : (next : List Node → Reading) → from next ≡ behind visits (next (drop to nodes))

  -- what is seen of a part of a reading, whatever is read behind it
  abbrev pub Sees : ((List Node → Reading) → Reading) → Sight → Type 0
  Sees from (Seen near) = (next : List Node → Reading) → first_undecided m.stock m.job best (from next).visits ≡ Some near
  Sees from (Passed to) = IsPassed from to
  Sees from Lost = (next : List Node → Reading) → (from next).ending ≢ Whole

  -- some children of a split, from a place to another
  pub record AreSeen (places : ℕ) (p : Partial) (from to k : ℕ) (had : ℕ → Bool) : Type 0 where
    pub to_come : ℕ
    pub visits : List Visit
    pub none : first_undecided m.stock m.job best visits ≡ None
    pub within : to ≤ length nodes
    pub left : to_come + k ≡ length m.stock
    pub reads : (next : List Node → Reading)
        → children (length m.stock) (below (length m.stock) places) (length m.stock) none_had p (drop from nodes) next
        ≡ behind visits (children (length m.stock) (below (length m.stock) places) to_come had p (drop to nodes) next)

  -- the lengths below n, up to a place
  pub record LengthsSeen (n to : ℕ) : Type 0 where
    pub to_come : ℕ
    pub visits : List Visit
    pub none : first_undecided m.stock m.job best visits ≡ None
    pub within : to ≤ length nodes
    pub left : to_come + n ≡ suc m.job.limit
    pub reads : lengths (length m.stock) m.job m.job.limit 1 nodes
        ≡ behind visits (lengths (length m.stock) m.job to_come n (drop to nodes))

  -- what is seen of a whole tree
  abbrev pub SeesAll : Reading → Sight → Type 0
  SeesAll r (Seen near) = first_undecided m.stock m.job best r.visits ≡ Some near
  SeesAll r (Passed to) = first_undecided m.stock m.job best r.visits ≡ None
  SeesAll r Lost = r.ending ≢ Whole
