-- The lines of nodes are read as those nodes.
use Rattle.std.proofs.Common.{◌≡◌, ◌∙◌, refl, sym, ap, ℕ, ◌<◌, List, [], ◌∷◌, ◌++◌, Option, None}
use Rattle.std.specs.Prelude.{codes, map}
use Rattle.std.specs.List.{AllByRecursion}
use Rattle.lam_tree.specs.declared.node.Node.{Node}
use Rattle.lam_tree.specs.Lines.{node_line}
use Rattle.lam_tree.specs.ReportRanges.{IsNode}
use Rattle.lam_tree.specs.inside.LineReading.{node_of, node_at, seat_at}
use Rattle.lam_tree.proofs.NodeLaws.{line_of_node_again}
use Rattle.lam_stream.specs.inside.TreeNodes.{nodes_in, with_node}

-- ---- the first of them

pub nodes_done : (items : ℕ) (lines : List (List ℕ)) → lines ≡ [] → nodes_in items lines ≡ []
nodes_done items lines none = ap (nodes_in items) none

pub nodes_next : (items : ℕ) (lines behind : List (List ℕ)) (line : List ℕ) (found : Option Node) → lines ≡ line ∷ behind → found ≡ node_of items line
    → nodes_in items lines ≡ with_node found (nodes_in items behind)
nodes_next items lines behind line found e is = ap (nodes_in items) e ∙ ap (λ o. with_node o (nodes_in items behind)) (sym is)

-- ---- all of them

end_is_no_node : (items : ℕ) → node_of items (codes "end") ≡ None
unfolding node_of node_at seat_at
end_is_no_node items = refl

pub nodes_again : (items : ℕ) (tree : List Node) → items < 256 → AllByRecursion (IsNode items) tree
    → nodes_in items (map node_line tree ++ codes "end" ∷ []) ≡ tree
nodes_again items [] few are = ap (λ o. with_node o []) (end_is_no_node items)
nodes_again items (n ∷ tree) few are =
    ap (λ o. with_node o (nodes_in items (map node_line tree ++ codes "end" ∷ []))) (line_of_node_again items n few are.0)
    ∙ ap (λ t. n ∷ t) (nodes_again items tree few are.1)
