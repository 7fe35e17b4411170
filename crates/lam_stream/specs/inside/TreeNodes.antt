-- The nodes whose lines bytes begin with.
use Rattle.std.specs.Prelude.{◌≡◌, ℕ, List, [], ◌∷◌, Option, Some, None}
use Rattle.std.specs.Borrow.{Bor}
use Rattle.lam_tree.specs.declared.node.Node.{Node}
use Rattle.lam_tree.specs.inside.LineReading.{node_of}
use Rattle.lam_report.specs.LineText.{whole_lines}

-- a node before others, if it is one
abbrev pub with_node : Option Node → List Node → List Node
with_node None nodes = []
with_node (Some node) nodes = node ∷ nodes

-- the nodes of lines, up to the first that is not the line of a node
abbrev pub nodes_in : (items : ℕ) → List (List ℕ) → List Node
nodes_in items [] = []
nodes_in items (line ∷ lines) = with_node (node_of items line) (nodes_in items lines)

-- the first line of bytes, and the bytes behind it, if a line ends
abbrev pub IsFirstLine : List ℕ → Option (Bor (List ℕ) × Bor (List ℕ)) → Type 0
IsFirstLine bytes None = whole_lines bytes ≡ []
IsFirstLine bytes (Some next) = whole_lines bytes ≡ next.0.now ∷ whole_lines next.1.now

-- the node of that line, and the bytes behind it, if it is the line of a node
abbrev pub IsTaken : (items : ℕ) → List ℕ → Option (Node × Bor (List ℕ)) → Type 0
IsTaken items bytes None = nodes_in items (whole_lines bytes) ≡ []
IsTaken items bytes (Some next) = nodes_in items (whole_lines bytes) ≡ next.0 ∷ nodes_in items (whole_lines next.1.now)
