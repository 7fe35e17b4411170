-- The reading of trees, tried on the trees of worked jobs: one item `mat` of cost 10, whose schedules are not symmetric.
use Rattle.std.proofs.Common.{◌≡◌, refl, ℕ, List, [], ◌∷◌, ◌++◌, length, Some, true}
use Rattle.lam_stock.specs.declared.item.Item.{Item}
use Rattle.lam_stock.specs.declared.item.ItemNo.{ItemNo}
use Rattle.lam_job.specs.JobData.{JobData}
use Rattle.lam_job.proofs.Worked.{mat, number, hoop_case, no_rules, plain_job}
use Rattle.lam_tsai.specs.declared.place.FaceSide.TheVariants.{Inner}
use Rattle.lam_tsai.specs.declared.place.Side.TheVariants.{Plus}
use Rattle.lam_tree.specs.declared.spot.Spot.{Spot}
use Rattle.lam_tree.specs.declared.spot.Spot.TheVariants as spot
use Rattle.lam_tree.specs.declared.node.Node.{Node}
use Rattle.lam_tree.specs.declared.node.Seat.TheVariants as seat
use Rattle.lam_tree.specs.declared.node.Word.{Word}
use Rattle.lam_tree.specs.declared.node.Word.TheVariants as word
use Rattle.lam_tree.specs.declared.report.Answer.TheVariants as answer
use Rattle.lam_tree.specs.Reading.{Visit, Ending, Cut, Stray, Whole, children, tree, lengths, read}
use Rattle.lam_tree.specs.Checks.{final, answer_of}

abbrev pub only_mat : List Item
only_mat = mat ∷ []

abbrev pub two_items : List Item
two_items = mat ∷ mat ∷ []

abbrev pub job : (limit : ℕ) → JobData
job limit = plain_job limit (hoop_case ∷ [])

-- the same where schedules are symmetric
abbrev pub symmetric_job : (limit : ℕ) → JobData
symmetric_job limit = record (job limit) { rules = record no_rules { symmetric = true } }

abbrev pub at_length : ℕ → Word → Node
at_length n w = record { seat = seat.Length n; word = w }

-- items are printed from 1
abbrev pub at_item : ℕ → Word → Node
at_item i w = record { seat = seat.Item (number i); word = w }

abbrev pub visited : ℕ → List ItemNo → Word → Visit
visited n prefix w = record { partial = record { n = n; prefix = prefix }; word = w }

abbrev pub ends_so : List Item → JobData → List Node → Ending → ℕ → Type 0
ends_so stock j lines ending read_lines = ((read stock j lines).ending ≡ ending) × (length (read stock j lines).visits ≡ read_lines)

-- ---- the least design of at most four plies

abbrev pub least_tree : List Node
least_tree =
    at_length 1 word.Split ∷ at_item 0 word.Admissible ∷ at_length 2 word.Cost ∷ at_length 3 word.Cost ∷ at_length 4 word.Cost ∷ []

least_is_read : read only_mat (job 4) least_tree ≡ record {
  visits = visited 1 [] word.Split ∷ visited 1 (number 0 ∷ []) word.Admissible ∷ visited 2 [] word.Cost ∷ visited 3 [] word.Cost ∷ visited 4 [] word.Cost ∷ [];
  ending = Whole;
}
unfolding lengths tree children
least_is_read = refl

least_is_answered : answer_of only_mat (job 4) (read only_mat (job 4) least_tree) ≡ answer.Least
unfolding lengths tree children
least_is_answered = refl

least_costs : final only_mat (job 4) (read only_mat (job 4) least_tree).visits ≡ Some 10
unfolding lengths tree children
least_costs = refl

-- each line cut
first_line_cut : ends_so only_mat (job 4) (at_item 0 word.Admissible ∷ at_length 2 word.Cost ∷ at_length 3 word.Cost ∷ at_length 4 word.Cost ∷ []) Stray 0
unfolding lengths tree children
first_line_cut = (refl, refl)

child_cut : ends_so only_mat (job 4) (at_length 1 word.Split ∷ at_length 2 word.Cost ∷ at_length 3 word.Cost ∷ at_length 4 word.Cost ∷ []) Stray 1
unfolding lengths tree children
child_cut = (refl, refl)

third_line_cut : ends_so only_mat (job 4) (at_length 1 word.Split ∷ at_item 0 word.Admissible ∷ at_length 3 word.Cost ∷ at_length 4 word.Cost ∷ []) Stray 2
unfolding lengths tree children
third_line_cut = (refl, refl)

fourth_line_cut : ends_so only_mat (job 4) (at_length 1 word.Split ∷ at_item 0 word.Admissible ∷ at_length 2 word.Cost ∷ at_length 4 word.Cost ∷ []) Stray 3
unfolding lengths tree children
fourth_line_cut = (refl, refl)

last_line_cut : ends_so only_mat (job 4) (at_length 1 word.Split ∷ at_item 0 word.Admissible ∷ at_length 2 word.Cost ∷ at_length 3 word.Cost ∷ []) Cut 4
unfolding lengths tree children
last_line_cut = (refl, refl)

-- a line more, two exchanged, and a word that has no children
line_more : ends_so only_mat (job 4) (least_tree ++ at_length 4 word.Cost ∷ []) Stray 5
unfolding lengths tree children
line_more = (refl, refl)

exchanged : ends_so only_mat (job 4) (at_length 1 word.Split ∷ at_length 2 word.Cost ∷ at_item 0 word.Admissible ∷ at_length 3 word.Cost ∷ at_length 4 word.Cost ∷ []) Stray 1
unfolding lengths tree children
exchanged = (refl, refl)

closed_has_no_child : ends_so only_mat (job 4) (at_length 1 word.Cost ∷ at_item 0 word.Admissible ∷ []) Stray 1
unfolding lengths tree children
closed_has_no_child = (refl, refl)

full_has_no_child : ends_so only_mat (job 4) (at_length 1 word.Split ∷ at_item 0 word.Split ∷ at_item 0 word.Admissible ∷ []) Stray 2
unfolding lengths tree children
full_has_no_child = (refl, refl)

-- ---- budgets of one node and of four

one_node : answer_of only_mat (job 4) (read only_mat (job 4) (at_length 1 word.Split ∷ [])) ≡ answer.OpenBudget
unfolding lengths tree children
one_node = refl

four_nodes_cost : final only_mat (job 4) (read only_mat (job 4) (at_length 1 word.Split ∷ at_item 0 word.Admissible ∷ at_length 2 word.Cost ∷ at_length 3 word.Cost ∷ [])).visits ≡ Some 10
unfolding lengths tree children
four_nodes_cost = refl

-- no line at all is cut
nothing_is_cut : ends_so only_mat (job 4) [] Cut 0
unfolding lengths tree children
nothing_is_cut = (refl, refl)

-- ---- none meets: of at most one ply

none_is_answered : answer_of only_mat (job 1) (read only_mat (job 1) (at_length 1 word.Cost ∷ [])) ≡ answer.NoneMeets
unfolding lengths tree children
none_is_answered = refl

-- ---- a tie

abbrev pub tie : Spot
tie = spot.Ply (record { case = 0; ply = 0; face = Inner; side = Plus })

abbrev straddling_tree : List Node
straddling_tree = at_length 1 word.Split ∷ at_item 0 (word.Straddles tie) ∷ []

straddle_is_answered : answer_of only_mat (job 1) (read only_mat (job 1) straddling_tree)
    ≡ answer.OpenStraddle (record { plies = number 0 ∷ []; cost = 10; at = tie })
unfolding lengths tree children
straddle_is_answered = refl

-- the best of two plies costs 20, so the tie of one ply stays open
two_plies_leave_it_open : answer_of only_mat (job 2) (read only_mat (job 2) (straddling_tree ++ at_length 2 word.Split ∷ at_item 0 word.Split ∷ at_item 0 word.Admissible ∷ []))
    ≡ answer.OpenStraddle (record { plies = number 0 ∷ []; cost = 10; at = tie })
unfolding lengths tree children
two_plies_leave_it_open = refl

-- a tie that costs as much as the best does not
dear_tie : answer_of two_items (job 1) (read two_items (job 1) (at_length 1 word.Split ∷ at_item 1 word.Admissible ∷ at_item 0 (word.Straddles tie) ∷ [])) ≡ answer.Least
unfolding lengths tree children
dear_tie = refl

-- ---- two items: in any order, each once

either_first : ends_so two_items (job 1) (at_length 1 word.Split ∷ at_item 1 word.Cost ∷ at_item 0 word.Cost ∷ []) Whole 3
unfolding lengths tree children
either_first = (refl, refl)

last_child_missing : ends_so two_items (job 1) (at_length 1 word.Split ∷ at_item 1 word.Cost ∷ []) Cut 2
unfolding lengths tree children
last_child_missing = (refl, refl)

twice_the_same : ends_so two_items (job 1) (at_length 1 word.Split ∷ at_item 1 word.Cost ∷ at_item 1 word.Cost ∷ []) Stray 2
unfolding lengths tree children
twice_the_same = (refl, refl)

not_in_the_catalogue : ends_so two_items (job 1) (at_length 1 word.Split ∷ at_item 2 word.Cost ∷ []) Stray 1
unfolding lengths tree children
not_in_the_catalogue = (refl, refl)

-- ---- symmetric schedules: two plies settle three

half_is_settled : ends_so only_mat (symmetric_job 3) (at_length 1 word.Cost ∷ at_length 2 word.Split ∷ at_item 0 word.Cost ∷ at_length 3 word.Split ∷ at_item 0 word.Split ∷ at_item 0 word.Admissible ∷ []) Whole 6
unfolding lengths tree children
half_is_settled = (refl, refl)
