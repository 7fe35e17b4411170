-- How the lines of a report are read, one after the other.
use Rattle.std.specs.Prelude.{ℕ, ◌*◌, ◌/◌, ◌%◌, Bool, List, [], length, Some, None, Ok, codes}
use Rattle.lam_stock.specs.declared.item.Item.{Item}
use Rattle.lam_job.specs.JobData.{JobData}
use Rattle.lam_job.specs.Schedule.{wall_of}
use Rattle.lam_tree.specs.declared.limits.TheConstants.{MOST_COST, MOST_NODES}
use Rattle.lam_tree.specs.declared.node.Node.{Node}
use Rattle.lam_tree.specs.declared.report.Best.{Best}
use Rattle.lam_tree.specs.declared.report.Answer.{Answer}
use Rattle.lam_tree.specs.declared.report.Answer.TheVariants as answer
use Rattle.lam_tree.specs.declared.report.Report.{Report}
use Rattle.lam_tree.specs.inside.LineReading.{first_named, node_of}
use Rattle.lam_report.specs.declared.head.Block.{Block}
use Rattle.lam_report.specs.declared.head.Opening.{Opening}
use Rattle.lam_report.specs.declared.spelled.AnswerKind.{AnswerKind}
use Rattle.lam_report.specs.declared.spelled.AnswerKind.TheVariants as kind
use Rattle.lam_report.specs.inside.HeadReading.{begins_so, is_text, kinds, names_in, near_in, number_in, panel_in, ratio_in, words_behind}
use Rattle.lam_report.specs.inside.Reading.{Lines, Got, then_got, line_at, by_next, listed_at}

abbrev pub is_cost : List ℕ → Bool
is_cost line = begins_so (words_behind (codes "cost") line)

abbrev pub no_block : Block
no_block = record { best = None; ratios = []; panels = [] }

-- the ratios of so many wall plies under each case
unfoldable pub ratios_at : JobData → (plies : ℕ) → Lines → Got (List ℕ)
ratios_at job plies lines = listed_at (λ i. ratio_in (i / plies) (i % plies)) 0 (length job.cases * plies) lines

unfoldable pub panels_at : JobData → Lines → Got (List ℕ)
panels_at job lines = listed_at panel_in 0 (length job.panels) lines

module _ (stock : List Item) where
  -- the cost and the names of the best schedule
  unfoldable pub best_at : Lines → Got Best
  best_at lines =
      then_got (line_at (number_in (codes "cost") 0 MOST_COST) lines) (λ cost rest.
      then_got (line_at (names_in (codes "schedule") stock) rest) (λ plies rest.
      Ok (record { plies = plies; cost = cost }, rest)))

  -- the schedule that an answer names, if it is of that kind
  unfoldable pub answer_at : AnswerKind → Lines → Got Answer
  answer_at kind.Least lines = Ok (answer.Least, lines)
  answer_at kind.NoneMeets lines = Ok (answer.NoneMeets, lines)
  answer_at kind.OpenBudget lines = Ok (answer.OpenBudget, lines)
  answer_at kind.OpenStraddle lines =
      then_got (line_at near_in lines) (λ near rest.
      then_got (line_at (names_in (codes "named") stock) rest) (λ plies rest.
      Ok (answer.OpenStraddle (record { plies = plies; cost = near.0; at = near.1 }), rest)))

  unfoldable pub behind_block : (budget : ℕ) → AnswerKind → Block → Lines → Got Opening
  behind_block budget kind block lines =
      then_got (answer_at kind lines) (λ given rest.
      then_got (line_at (number_in (codes "nodes") 1 MOST_NODES) rest) (λ nodes rest.
      Ok (record { budget = budget; answer = given; best = block.best; ratios = block.ratios; panels = block.panels; nodes = nodes }, rest)))

  unfoldable pub nodes_at : (nodes : ℕ) → Lines → Got (List Node)
  nodes_at nodes lines = listed_at (λ i. node_of (length stock)) 0 nodes lines

  -- the nodes and the last line
  unfoldable pub tree_at : (nodes : ℕ) → Lines → Got (List Node)
  tree_at nodes lines =
      then_got (nodes_at nodes lines) (λ tree rest. then_got (line_at (is_text (codes "end")) rest) (λ last rest. Ok (tree, rest)))

module _ (stock : List Item) (job : JobData) where
  -- the best schedule with what is printed of it
  unfoldable pub block_at : Lines → Got Block
  block_at lines =
      then_got (best_at stock lines) (λ b rest.
      then_got (ratios_at job (length (wall_of stock job b.plies)) rest) (λ ratios rest.
      then_got (panels_at job rest) (λ panels rest.
      Ok (record { best = Some b; ratios = ratios; panels = panels }, rest))))

  unfoldable pub with_block : (budget : ℕ) → AnswerKind → Lines → Got Opening
  with_block budget kind lines = then_got (block_at lines) (λ block rest. behind_block stock budget kind block rest)

  -- the best schedule stands behind some kinds of answers; behind others, where the next line says so
  unfoldable pub behind_kind : (budget : ℕ) → AnswerKind → Lines → Got Opening
  behind_kind budget kind.Least lines = with_block budget kind.Least lines
  behind_kind budget kind.NoneMeets lines = behind_block stock budget kind.NoneMeets no_block lines
  behind_kind budget kind.OpenBudget lines = by_next is_cost (with_block budget kind.OpenBudget) (behind_block stock budget kind.OpenBudget no_block) lines
  behind_kind budget kind.OpenStraddle lines = by_next is_cost (with_block budget kind.OpenStraddle) (behind_block stock budget kind.OpenStraddle no_block) lines

  unfoldable pub opening_at : Lines → Got Opening
  opening_at lines =
      then_got (line_at (is_text (codes "laminate report 1")) lines) (λ heading rest.
      then_got (line_at (number_in (codes "budget") 1 MOST_NODES) rest) (λ budget rest.
      then_got (line_at (first_named kinds) rest) (λ kind rest. behind_kind budget kind rest)))

  abbrev pub report_of : Opening → List Node → Report
  report_of o tree = record { budget = o.budget; answer = o.answer; best = o.best; ratios = o.ratios; panels = o.panels; tree = tree }

  unfoldable pub report_at : Lines → Got Report
  report_at lines =
      then_got (opening_at lines) (λ opening rest.
      then_got (tree_at stock opening.nodes rest) (λ tree rest. Ok (report_of opening tree, rest)))
