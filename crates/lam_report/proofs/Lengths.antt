-- How many bytes the text of a report takes at most. The bounds are round numbers, not the least ones.
use Rattle.std.proofs.Common.{◌≡◌, ◌∙◌, refl, ap, subst, ℕ, suc, ◌+◌, ◌*◌, ◌/◌, ◌%◌, ◌<◌, ◌≤◌, Bool, true, false, List, [], ◌∷◌, ◌++◌, length, All, nat_le, Option, Some, None, IsTrue, lit≤, arith, rules}
use Rattle.std.specs.Prelude.{map, codes, decimal, slice_get, ◌&&◌, if◌then◌else◌}
use Rattle.std.specs.List.{cons_option, list_all}
use Rattle.std.proofs.Math.Nat.{div-le_self, mod-le}
use Rattle.std.proofs.lemmas.Bool.Decides.{nat_tests}
use Rattle.std.proofs.lemmas.Fmt.{length-decimal-le}
use Rattle.std.proofs.lemmas.List.{length-append}
use Rattle.std.proofs.lemmas.List.Elements.{All-get_or, All-head, All-tail}
use Rattle.std.proofs.lemmas.Nat.{mul-le}
use Rattle.std.proofs.lemmas.Option.{get_or_from_slice_get, slice_get_within}
use Rattle.lam_stock.specs.declared.item.Item.{Item}
use Rattle.lam_stock.specs.declared.item.ItemNo.{ItemNo}
use Rattle.lam_stock.specs.Field.{begins_with, is_letter, is_name, is_name_byte}
use Rattle.lam_stock.specs.Stock.{HaveNames}
use Rattle.lam_stock.proofs.Truth.{both-true}
use Rattle.lam_job.specs.declared.limits.TheConstants.{MOST_PLIES}
use Rattle.lam_job.specs.JobData.{JobData}
use Rattle.lam_job.specs.Ranges.{IsJob}
use Rattle.lam_job.specs.Schedule.{items_of, wall_of}
use Rattle.lam_support.specs.declared.weight.Weight.{Weight}
use Rattle.lam_tsai.specs.declared.place.Side.{Side}
use Rattle.lam_tsai.specs.declared.place.Side.TheVariants.{Plus, Minus}
use Rattle.lam_tsai.specs.declared.place.FaceSide.{FaceSide}
use Rattle.lam_tsai.specs.declared.place.FaceSide.TheVariants.{Inner, Outer}
use Rattle.lam_tsai.specs.declared.place.Place.{Place}
use Rattle.lam_tree.specs.declared.limits.TheConstants.{MOST_COST, MOST_RATIO}
use Rattle.lam_tree.specs.declared.node.Node.{Node}
use Rattle.lam_tree.specs.declared.node.Seat.{Seat}
use Rattle.lam_tree.specs.declared.node.Seat.TheVariants as seat
use Rattle.lam_tree.specs.declared.node.Word.{Word}
use Rattle.lam_tree.specs.declared.node.Word.TheVariants as word
use Rattle.lam_tree.specs.declared.report.Answer.{Answer}
use Rattle.lam_tree.specs.declared.report.Answer.TheVariants as answer
use Rattle.lam_tree.specs.declared.report.Best.{Best}
use Rattle.lam_tree.specs.declared.report.Report.{Report}
use Rattle.lam_tree.specs.declared.spot.Spot.{Spot}
use Rattle.lam_tree.specs.declared.spot.Spot.TheVariants as spot
use Rattle.lam_tree.specs.Lines.{face_word, line_of, node_line, ordinal, place_words, seat_words, side_word, spaced, spot_words, weight_words, word_words}
use Rattle.lam_tree.specs.ReportRanges.{IsAnswer, IsBlock, IsNode, IsPlace, IsReport, IsSeat, IsSpot, IsWord}
use Rattle.lam_tree.proofs.Adding.{short_number, short_signed}
use Rattle.lam_report.specs.LineText.{text_of}
use Rattle.lam_report.specs.ReportText.{answer_line, best_lines, name_of, names_line, near_lines, number_line, numbered, panel_line, ratio_line, ratio_text, report_text, tree_lines}
use Rattle.lam_report.specs.inside.Reading.{Lines}
use Rattle.lam_report.proofs.CutLaws.{text_of-append}

-- ---- words

-- the bytes of words, each with a blank before it
abbrev width : List (List ℕ) → ℕ
width [] = 0
width (w ∷ words) = suc (length w + width words)

width-append : (ws vs : List (List ℕ)) → width (ws ++ vs) ≡ width ws + width vs
width-append [] vs = omega arith
width-append (w ∷ ws) vs = let e = width-append ws vs in omega (arith, e)

length-spaced : (ws : List (List ℕ)) → length (spaced ws) ≡ width ws
length-spaced [] = refl
length-spaced (w ∷ ws) = let e = length-spaced ws in let l = length-append w (spaced ws) in omega (arith, e, l)

length-line : (ws : List (List ℕ)) → length (line_of ws) ≤ width ws
length-line [] = lit≤ tt
length-line (w ∷ ws) = let e = length-spaced ws in let l = length-append w (spaced ws) in omega (arith, e, l)

-- ---- lines

length-one : (line : List ℕ) (lines : Lines) → length (text_of (line ∷ lines)) ≡ suc (length line + length (text_of lines))
length-one line lines = let l = length-append line (10 ∷ text_of lines) in omega (arith, l)

length-both : (xs ys : Lines) → length (text_of (xs ++ ys)) ≡ length (text_of xs) + length (text_of ys)
length-both xs ys = ap length (text_of-append xs ys) ∙ length-append (text_of xs) (text_of ys)

-- ---- the line of a node

short_ordinal : (n : ℕ) → n < 64 → length (ordinal n) ≤ 2
short_ordinal n small = short_number (n + 1) (omega (arith, small))

short_face : (f : FaceSide) → length (face_word f) ≤ 5
short_face Inner = lit≤ tt
short_face Outer = lit≤ tt

short_side : (s : Side) → length (side_word s) ≤ 5
short_side Plus = lit≤ tt
short_side Minus = lit≤ tt

short_place : (at : Place) → IsPlace at → width (place_words at) ≤ 18
short_place at is =
    let low = is.case in
    let case = short_ordinal at.case (omega (arith, low)) in
    let ply = short_ordinal at.ply is.ply in
    let face = short_face at.face in
    let side = short_side at.side in
    omega (arith, case, ply, face, side)

short_spot : (s : Spot) → IsSpot s → width (spot_words s) ≤ 22
short_spot (spot.Ply at) is = let place = short_place at is in omega (arith, place)
short_spot (spot.Panel panel) is = let number = short_ordinal panel (omega (arith, is)) in omega (arith, number)

short_weight : (w : Weight) → width (weight_words w) ≤ 15
short_weight w =
    let x_range = w.x_range in let y_range = w.y_range in let s_range = w.s_range in
    let x = short_signed w.x (omega (arith, x_range)) in
    let y = short_signed w.y (omega (arith, y_range)) in
    let s = short_signed w.s (omega (arith, s_range)) in
    omega (arith, x, y, s)

short_seat : (items : ℕ) (s : Seat) → items ≤ 64 → IsSeat items s → width (seat_words s) ≤ 10
short_seat items (seat.Length n) few is = let most = is.1 in let number = short_number n (omega (arith, most)) in omega (arith, number)
short_seat items (seat.Item i) few is = let number = short_ordinal i.0 (omega (arith, is, few)) in omega (arith, number)

short_word : (w : Word) → IsWord w → width (word_words w) ≤ 32
short_word word.Split is = lit≤ tt
short_word word.Cost is = lit≤ tt
short_word (word.Rule rule) is = let most = is.1 in let number = short_number rule.0 (omega (arith, most)) in omega (arith, number)
short_word (word.NetShort case w) is = let number = short_ordinal case (omega (arith, is)) in let weight = short_weight w in omega (arith, number, weight)
short_word (word.NetCost case w) is = let number = short_ordinal case (omega (arith, is)) in let weight = short_weight w in omega (arith, number, weight)
short_word (word.Box at) is = let place = short_place at is in omega (arith, place)
short_word (word.Range case) is = let number = short_ordinal case (omega (arith, is)) in omega (arith, number)
short_word (word.Fails at) is = let place = short_place at is in omega (arith, place)
short_word (word.Buckles panel) is = let number = short_ordinal panel (omega (arith, is)) in omega (arith, number)
short_word (word.Straddles s) is = let own = short_spot s is in omega (arith, own)
short_word word.Admissible is = lit≤ tt

-- a line of a node has fewer than 48 bytes
pub short_node : (items : ℕ) (node : Node) → items ≤ 64 → IsNode items node → length (node_line node) < 48
short_node items node few is =
    let seat = short_seat items node.seat few is.seat in
    let word = short_word node.word is.word in
    let both = width-append (seat_words node.seat) (word_words node.word) in
    let line = length-line (seat_words node.seat ++ word_words node.word) in
    omega (arith, seat, word, both, line)

short_nodes : (items : ℕ) (nodes : List Node) → items ≤ 64 → All (IsNode items) nodes → length (text_of (map node_line nodes)) ≤ 48 * length nodes
short_nodes items [] few are = lit≤ tt
short_nodes items (node ∷ nodes) few are =
    let own = short_node items node few (All-head (IsNode items) node nodes are) in
    let more = short_nodes items nodes few (All-tail (IsNode items) node nodes are) in
    let both = length-one (node_line node) (map node_line nodes) in
    omega (arith, own, more, both)

-- ---- the line of a word and a number

short_number_line : (word : List ℕ) (n : ℕ) → length word ≤ 8 → n ≤ MOST_COST → length (number_line word n) ≤ 23
short_number_line word n few small =
    let number = length-decimal-le 13 n (omega arith) (omega (arith, small)) (omega (arith, small)) in
    let line = length-line (word ∷ decimal n ∷ []) in
    omega (arith, few, number, line)

-- ---- the lines of ratios

short_ratio : (r : ℕ) → r ≤ MOST_RATIO → length (ratio_text r) ≤ 6
short_ratio r small =
    let number = short_number (r / 1000) (omega (arith, small)) in
    let both = length-append (decimal (r / 1000)) (46 ∷ (48 + r / 100 % 10) ∷ (48 + r / 10 % 10) ∷ (48 + r % 10) ∷ []) in
    omega (arith, number, both)

short_numeral : (n : ℕ) → n ≤ 1024 → length (decimal n) ≤ 4
short_numeral n small = length-decimal-le 4 n (omega arith) (omega (arith, small)) (omega (arith, small))

short_ratio_line : (plies i r : ℕ) → i < 1024 → r ≤ MOST_RATIO → length (ratio_line (i / plies) (i % plies) r) ≤ 23
short_ratio_line plies i r few small =
    let over = div-le_self i plies in
    let rest = mod-le i plies in
    let case = short_numeral (i / plies + 1) (omega (arith, over, few)) in
    let ply = short_numeral (i % plies + 1) (omega (arith, rest, few)) in
    let ratio = short_ratio r small in
    let line = length-line (codes "ratio" ∷ ordinal (i / plies) ∷ ordinal (i % plies) ∷ ratio_text r ∷ []) in
    omega (arith, case, ply, ratio, line)

short_panel_line : (k r : ℕ) → k < 1024 → r ≤ MOST_RATIO → length (panel_line k (ratio_text r)) ≤ 23
short_panel_line k r few small =
    let panel = short_numeral (k + 1) (omega (arith, few)) in
    let ratio = short_ratio r small in
    let line = length-line (codes "panel" ∷ ordinal k ∷ ratio_text r ∷ []) in
    omega (arith, panel, ratio, line)

short_numbered : (line : ℕ → ℕ → List ℕ) → ((i r : ℕ) → i < 1024 → r ≤ MOST_RATIO → length (line i r) ≤ 23)
    → (from : ℕ) (rs : List ℕ) → from + length rs ≤ 1024 → All (λ r. r ≤ MOST_RATIO) rs → length (text_of (numbered line from rs)) ≤ 24 * length rs
short_numbered line each from [] few small = lit≤ tt
short_numbered line each from (r ∷ rs) few small =
    let own = each from r (omega (arith, few)) (All-head (λ v. v ≤ MOST_RATIO) r rs small) in
    let more = short_numbered line each (suc from) rs (omega (arith, few)) (All-tail (λ v. v ≤ MOST_RATIO) r rs small) in
    let both = length-one (line from r) (numbered line (suc from) rs) in
    omega (arith, own, more, both)

-- ---- the lines of names

short_valid : (name : List ℕ) → IsTrue (is_name name) → length name ≤ 16
short_valid name valid =
    let is : is_name name ≡ true = search rules in
    let some = both-true (begins_with is_letter name && nat_le (length name) 16) (list_all is_name_byte name) is in
    let few : nat_le (length name) 16 ≡ true = (both-true (begins_with is_letter name) (nat_le (length name) 16) some.0).1 in
    grind (arith, nat_tests)

-- no more items than numbers
few_items : (stock : List Item) (plies : List ItemNo) → length (items_of stock plies) ≤ length plies
few_items stock [] = lit≤ tt
few_items stock (p ∷ plies) = by (slice_get stock p.0) (few_items stock plies) where
  by : (o : Option Item) → length (items_of stock plies) ≤ length plies → length (cons_option o (items_of stock plies)) ≤ suc (length plies)
  by None few = omega (arith, few)
  by (Some i) few = omega (arith, few)

module _ (stock : List Item) (names : HaveNames stock) where
  short_name : (ply : ItemNo) → length (name_of stock ply) ≤ 16
  short_name ply = by (slice_get stock ply.0) refl where
    by : (o : Option Item) → slice_get stock ply.0 ≡ o → length {A = ℕ} (elim o [ None ↦ [] | Some i ↦ i.name ]) ≤ 16
    by None e = lit≤ tt
    by (Some i) e =
        let valid = All-get_or (λ (j : Item). IsTrue (is_name j.name)) stock ply.0 i (slice_get_within stock ply.0 i e) names.valid in
        short_valid i.name (subst (λ (j : Item). IsTrue (is_name j.name)) (get_or_from_slice_get stock ply.0 i i e) valid)

  short_names : (plies : List ItemNo) → width (map (name_of stock) plies) ≤ 17 * length plies
  short_names [] = lit≤ tt
  short_names (p ∷ plies) = let own = short_name p in let more = short_names plies in omega (arith, own, more)

  short_names_line : (word : List ℕ) (plies : List ItemNo) → length word ≤ 8 → length plies ≤ MOST_PLIES → length (names_line word stock plies) ≤ 961
  short_names_line word plies few most =
      let own = short_names plies in
      let line = length-line (word ∷ map (name_of stock) plies) in
      omega (arith, few, most, own, line)

  -- ---- a report's blocks of lines

  short_answer : (given : Answer) → length (answer_line given) ≤ 32
  short_answer answer.Least = lit≤ tt
  short_answer answer.NoneMeets = lit≤ tt
  short_answer answer.OpenBudget = lit≤ tt
  short_answer (answer.OpenStraddle near) = lit≤ tt

  short_near : (given : Answer) (best : Option Best) → IsAnswer stock given best → length (text_of (near_lines stock given)) ≤ 1024
  short_near answer.Least best is = lit≤ tt
  short_near answer.NoneMeets best is = lit≤ tt
  short_near answer.OpenBudget best is = lit≤ tt
  short_near (answer.OpenStraddle near) best is =
      let cost = is.0 in
      let number = length-decimal-le 13 near.cost (omega arith) (omega (arith, cost)) (omega (arith, cost)) in
      let at = short_spot near.at is.2 in
      let first = length-line (codes "near" ∷ decimal near.cost ∷ spot_words near.at) in
      let second = short_names_line (codes "named") near.plies (lit≤ tt) is.1.few in
      let named = names_line (codes "named") stock near.plies in
      let both = length-one (line_of (codes "near" ∷ decimal near.cost ∷ spot_words near.at)) (named ∷ []) in
      let last = length-one named [] in
      omega (arith, number, at, first, second, both, last)

  module _ (job : JobData) (ranges : IsJob job) where
    few_plies : (plies : List ItemNo) → length plies ≤ MOST_PLIES → length (wall_of stock job plies) ≤ 64
    few_plies plies few = by job.liner_in_wall where
      by : (b : Bool) → length (if b then items_of stock (job.liner ++ plies) else items_of stock plies) ≤ 64
      by true =
          let liner = ranges.liner in
          let both = length-append job.liner plies in
          let all = few_items stock (job.liner ++ plies) in
          omega (arith, few, liner, both, all)
      by false = let all = few_items stock plies in omega (arith, few, all)

    short_best : (best : Option Best) (ratios panels : List ℕ) → IsBlock stock job best ratios panels
        → length (text_of (best_lines stock job best ratios panels)) ≤ 32768
    short_best None ratios panels is = lit≤ tt
    short_best (Some b) ratios panels is =
        let plies = length (wall_of stock job b.plies) in
        let own : Lines = numbered (λ i r. ratio_line (i / plies) (i % plies) r) 0 ratios in
        let other : Lines = numbered (λ k r. panel_line k (ratio_text r)) 0 panels in
        let cost = number_line (codes "cost") b.cost in
        let named = names_line (codes "schedule") stock b.plies in
        let most = mul-le (length job.cases) plies 16 64 ranges.few_cases (few_plies b.plies is.1.few) in
        let many = is.2.many in
        let panel_many = is.3.many in
        let panel_most = ranges.few_panels in
        let first = short_number_line (codes "cost") b.cost (lit≤ tt) is.0 in
        let second = short_names_line (codes "schedule") b.plies (lit≤ tt) is.1.few in
        let third = short_numbered (λ i r. ratio_line (i / plies) (i % plies) r) (short_ratio_line plies) 0 ratios (omega (arith, most, many)) is.2.small in
        let fourth = short_numbered (λ k r. panel_line k (ratio_text r)) short_panel_line 0 panels (omega (arith, panel_most, panel_many)) is.3.small in
        let one = length-one cost (named ∷ (own ++ other)) in
        let two = length-one named (own ++ other) in
        let three = length-both own other in
        omega (arith, most, many, panel_many, panel_most, first, second, third, fourth, one, two, three)

    -- ---- the whole

    pub short_report : (report : Report) → length stock ≤ 64 → IsReport stock job report → length (report_text stock job report) ≤ 48 * length report.tree + 65535
    short_report report few is =
        let head = codes "laminate report 1" in
        let budget = number_line (codes "budget") report.budget in
        let given = answer_line report.answer in
        let best = best_lines stock job report.best report.ratios report.panels in
        let near = near_lines stock report.answer in
        let nodes : Lines = map node_line report.tree in
        let count = number_line (codes "nodes") (length report.tree) in
        let end : Lines = codes "end" ∷ [] in
        let most = is.most in
        let most_nodes = is.few_nodes in
        let a = short_number_line (codes "budget") report.budget (lit≤ tt) (omega (arith, most)) in
        let b = short_answer report.answer in
        let c = short_best report.best report.ratios report.panels is.block in
        let d = short_near report.answer report.best is.answer in
        let e = short_number_line (codes "nodes") (length report.tree) (lit≤ tt) (omega (arith, most_nodes)) in
        let f = short_nodes (length stock) report.tree few is.nodes in
        let l = length-one head (budget ∷ given ∷ (best ++ (near ++ tree_lines report.tree))) in
        let m = length-one budget (given ∷ (best ++ (near ++ tree_lines report.tree))) in
        let n = length-one given (best ++ (near ++ tree_lines report.tree)) in
        let o = length-both best (near ++ tree_lines report.tree) in
        let p = length-both near (tree_lines report.tree) in
        let q = length-one count (nodes ++ end) in
        let r = length-both nodes end in
        let s : length (text_of end) ≡ 4 = refl in
        let t : length head ≡ 17 = refl in
        omega (arith, a, b, c, d, e, f, l, m, n, o, p, q, r, s, t)
