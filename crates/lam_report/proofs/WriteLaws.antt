-- What a writer knows of a report.
use Rattle.std.proofs.Common.{◌≡◌, ◌∙◌, refl, sym, ap, subst, ℕ, ◌+◌, ◌<◌, ◌≤◌, List, [], ◌∷◌, ◌++◌, length, All, get_or, Option, Some, None, Bool, true, false, arith}
use Rattle.std.specs.Prelude.{if◌then◌else◌, slice_get, sum_by, take, IfSome, IsNone}
use Rattle.std.specs.Option.{option_map}
use Rattle.std.proofs.lemmas.List.Sums.{sum_by-append}
use Rattle.std.proofs.lemmas.List.{length-append}
use Rattle.lam_stock.specs.declared.item.Item.{Item}
use Rattle.lam_stock.specs.declared.item.ItemNo.{ItemNo}
use Rattle.lam_stock.specs.Stock.{IsKnown}
use Rattle.lam_job.specs.JobData.{JobData}
use Rattle.lam_job.specs.Schedule.{cost_of, items_of, wall_of}
use Rattle.lam_job.proofs.Listed.{item_of, items_of-append, items_of-length, items_of-more}
use Rattle.lam_job.specs.Rules.{Keeps, IsLeastBroken}
use Rattle.lam_rules.specs.declared.rule.RuleNo.{RuleNo}
use Rattle.lam_tree.specs.declared.node.Node.{Node}
use Rattle.lam_tree.specs.declared.node.Seat.{Seat}
use Rattle.lam_tree.specs.declared.node.Seat.TheVariants as seat
use Rattle.lam_tree.specs.declared.report.Best.{Best}
use Rattle.lam_tree.specs.declared.report.Answer.{Answer}
use Rattle.lam_tree.specs.declared.report.Answer.TheVariants as answer
use Rattle.lam_tree.specs.ReportRanges.{IsSeat, IsNode, IsAnswer}
use Rattle.lam_report.specs.ReportText.{NamesRule}
use Rattle.lam_report.specs.inside.Named.{IsNamed}

-- the wall of known items has a ply for each
pub wall-length : (stock : List Item) (job : JobData) (listed : List ItemNo) (b : Bool) → job.liner_in_wall ≡ b → IsKnown stock job.liner → IsKnown stock listed
    → length (wall_of stock job listed) ≡ (if b then length job.liner + length listed else length listed)
wall-length stock job listed true h liner known =
    ap (λ (t : Bool). length (if t then items_of stock (job.liner ++ listed) else items_of stock listed)) h
    ∙ ap length (items_of-append stock job.liner listed) ∙ length-append (items_of stock job.liner) (items_of stock listed)
    ∙ ap (λ n. n + length (items_of stock listed)) (items_of-length stock job.liner liner) ∙ ap (λ n. length job.liner + n) (items_of-length stock listed known)
wall-length stock job listed false h liner known =
    ap (λ (t : Bool). length (if t then items_of stock (job.liner ++ listed) else items_of stock listed)) h ∙ items_of-length stock listed known

-- a node of a smaller catalogue
pub node-wider : (few many : ℕ) (node : Node) → few ≤ many → IsNode few node → IsNode many node
node-wider few many node less is = record { seat = by node.seat is.seat; word = is.word } where
  by : (s : Seat) → IsSeat few s → IsSeat many s
  by (seat.Length n) is = is
  by (seat.Item i) is = omega (arith, is, less)

pub nodes-wider : (few many : ℕ) (nodes : List Node) → few ≤ many → All (IsNode few) nodes → All (IsNode many) nodes
nodes-wider few many nodes less all = λ k d within. node-wider few many (get_or nodes k d) less (all k d within)

pub named : (stock : List Item) (given : Answer) (best : Option Best) → IsAnswer stock given best → IsNamed stock given
named stock answer.Least best is = tt
named stock answer.NoneMeets best is = tt
named stock answer.OpenBudget best is = tt
named stock (answer.OpenStraddle near) best is = (is.1, is.2)

-- ---- costs

pub cost-more : (stock : List Item) (plies : List ItemNo) (k : ℕ) (d : ItemNo) (cost : ℕ) → k < length plies → IsKnown stock plies
    → IfSome (slice_get stock (get_or plies k d).0) (λ i. cost ≡ i.cost)
    → sum_by (λ i. i.cost) (items_of stock (take (k + 1) plies)) ≡ sum_by (λ i. i.cost) (items_of stock (take k plies)) + cost
cost-more stock plies k d cost less known is =
    let found = item_of stock (get_or plies k d) (known k d less) in
    let i = found.0 in
    let own : cost ≡ i.cost = subst (λ (o : Option Item). IfSome o (λ j. cost ≡ j.cost)) found.1 is in
    let end : sum_by (λ (j : Item). j.cost) (i ∷ []) ≡ i.cost = omega arith in
    let before = items_of stock (take k plies) in
    ap (sum_by (λ (j : Item). j.cost)) (items_of-more stock plies k d i less found.1) ∙ sum_by-append (λ (j : Item). j.cost) before (i ∷ [])
    ∙ ap (λ n. sum_by (λ (j : Item). j.cost) before + n) (end ∙ sym own)

pub cost-both : (stock : List Item) (job : JobData) (listed : List ItemNo)
    → sum_by (λ i. i.cost) (items_of stock job.liner) + sum_by (λ i. i.cost) (items_of stock listed) ≡ cost_of stock job listed
cost-both stock job listed =
    sym (sum_by-append (λ (j : Item). j.cost) (items_of stock job.liner) (items_of stock listed)) ∙ ap (sum_by (λ (j : Item). j.cost)) (sym (items_of-append stock job.liner listed))

-- ---- the rule that an analysis names

pub names-rule : (stock : List Item) (job : JobData) (listed : List ItemNo) (broken : Option RuleNo) → (IsNone broken → Keeps stock job listed)
    → IfSome broken (λ rule. IsLeastBroken rule.0 stock job listed) → NamesRule stock job listed (option_map (λ rule. rule.0) broken)
names-rule stock job listed None keeps least = keeps refl
names-rule stock job listed (Some rule) keeps least = least
