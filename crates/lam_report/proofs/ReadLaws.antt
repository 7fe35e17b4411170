-- What a reader of a report answers, from what its steps answer.
use Rattle.std.proofs.Common.{◌≡◌, ◌≢◌, ◌∙◌, refl, sym, ap, ℕ, suc, ◌+◌, ◌-◌, ◌<◌, ◌≤◌, List, [], ◌∷◌, ◌++◌, length, take, drop, Bool, true, false, Ok, Err, append_assoc, arith}
use Rattle.std.specs.Prelude.{codes, map}
use Rattle.std.proofs.lemmas.List.{append-nil, length-append, length-map}
use Rattle.std.proofs.Math.Seq.{take-append_seam, drop-append_seam}
use Rattle.lam_stock.specs.declared.item.Item.{Item}
use Rattle.lam_stock.specs.declared.item.ItemNo.{ItemNo}
use Rattle.lam_stock.specs.Stock.{HaveNames, IsKnown}
use Rattle.lam_job.specs.JobData.{JobData}
use Rattle.lam_job.specs.Ranges.{IsJob}
use Rattle.lam_job.specs.Schedule.{wall_of}
use Rattle.lam_tree.specs.declared.node.Node.{Node}
use Rattle.lam_tree.specs.declared.report.Report.{Report}
use Rattle.lam_tree.specs.Lines.{node_line}
use Rattle.lam_tree.specs.ReportRanges.{AreListed}
use Rattle.lam_report.specs.LineText.{text_of, whole_lines, tail_of}
use Rattle.lam_report.specs.ReportText.{report_lines}
use Rattle.lam_report.specs.ReportGrammar.{IsFirstFault, Spells}
use Rattle.lam_report.specs.declared.head.Opening.{Opening}
use Rattle.lam_report.specs.inside.Left.{Left, left_of, bytes_of}
use Rattle.lam_report.specs.inside.Reading.{Lines, then_got}
use Rattle.lam_report.specs.inside.ReportReading.{opening_at, report_at, report_of, tree_at}
use Rattle.lam_report.proofs.CutLaws.{lines_again, text_again, text_of-append}
use Rattle.lam_report.proofs.Parsing.{got_again}
use Rattle.lam_report.proofs.GrammarLaws.{Given, opening_parses, report_parses, tree_parses}
use Rattle.lam_report.proofs.FaultLaws.{read_spelled, refused_fault, undone_fault}
use Rattle.lam_report.proofs.WriteLaws.{wall-length}

-- ---- what is known of a job and a catalogue

pub given_of : (stock : List Item) (job : JobData) → HaveNames stock → 1 ≤ length stock → length stock ≤ 64 → IsJob job → IsKnown stock job.liner → Given stock job
given_of stock job names some few is liner = record {
  names = names;
  some = some;
  few = few;
  cases = is.few_cases;
  panels = is.few_panels;
  wall = λ listed are. by listed are job.liner_in_wall refl;
} where
  by : (listed : List ItemNo) → AreListed stock listed → (b : Bool) → job.liner_in_wall ≡ b → (1 ≤ length (wall_of stock job listed)) × (length (wall_of stock job listed) ≤ 64)
  by listed are true h =
      let e = wall-length stock job listed true h liner are.known in
      let low = are.some in let high = are.few in let most = is.liner in
      (omega (arith, e, low), omega (arith, e, high, most))
  by listed are false h =
      let e = wall-length stock job listed false h liner are.known in
      let low = are.some in let high = are.few in
      (omega (arith, e, low), omega (arith, e, high))

-- ---- what is left

pub none_left : (left : Left) → length (bytes_of left) ≤ 0 → (left.lines ≡ []) × (left.tail ≡ [])
none_left left none = by left.lines refl left.tail refl where
  by : (ls : Lines) → left.lines ≡ ls → (t : List ℕ) → left.tail ≡ t → (left.lines ≡ []) × (left.tail ≡ [])
  by [] e [] e_too = (e, e_too)
  by [] e (b ∷ bs) e_too =
      let n : length (bytes_of left) ≡ suc (length bs) = ap (λ ls. length (text_of ls ++ left.tail)) e ∙ ap length e_too in
      absurd (omega (arith, n, none))
  by (l ∷ ls) e t e_too =
      let n : length (bytes_of left) ≡ length (l ++ (10 ∷ text_of ls) ++ left.tail) = ap (λ ls. length (text_of ls ++ left.tail)) e in
      let one = length-append (l ++ (10 ∷ text_of ls)) left.tail in
      let two = length-append l (10 ∷ text_of ls) in
      absurd (omega (arith, n, one, two, none))

pub some_left : (left : Left) → 0 < length (bytes_of left) → left.lines ≡ [] → left.tail ≢ []
some_left left some e none =
    let n : length (bytes_of left) ≡ 0 = ap (λ ls. length (text_of ls ++ left.tail)) e ∙ ap length none in omega (arith, n, some)

module _ (stock : List Item) (job : JobData) (given : Given stock job) (bytes : List ℕ) (old : Left) (begun : old ≡ left_of bytes) where
  old_lines : old.lines ≡ whole_lines bytes
  old_lines = ap (λ (l : Left). l.lines) begun

  old_tail : old.tail ≡ tail_of bytes
  old_tail = ap (λ (l : Left). l.tail) begun

  -- the line at which reading stopped
  counted : (front left : Lines) (line : ℕ) → whole_lines bytes ≡ front ++ left → line ≡ length (whole_lines bytes) - length left + 1 → line + length left ≡ length (whole_lines bytes) + 1
  counted front left line text is =
      let all = ap length text in
      let long = length-append front left in
      omega (arith, is, all, long)

  pub read_ok : (new : Left) (r : Report) → (report_at stock job old.lines ≡ Ok (r, new.lines)) × (new.tail ≡ old.tail) → length (bytes_of new) ≤ 0 → Spells stock job r bytes
  read_ok new r got none =
      let end = none_left new none in
      read_spelled stock job given r bytes (ap (report_at stock job) (sym old_lines) ∙ got.0 ∙ ap (λ l. Ok (r, l)) end.0) (sym old_tail ∙ sym got.1 ∙ end.1)

  pub read_more : (new : Left) (r : Report) (line : ℕ) → (report_at stock job old.lines ≡ Ok (r, new.lines)) × (new.tail ≡ old.tail) → 0 < length (bytes_of new)
      → line ≡ length (whole_lines bytes) - length new.lines + 1 → IsFirstFault stock job bytes line
  read_more new r line got some is =
      let e = ap (report_at stock job) (sym old_lines) ∙ got.0 in
      let t = (report_parses stock job given).takes (whole_lines bytes) r new.lines e in
      undone_fault stock job given bytes r new.lines line e (counted t.front new.lines line t.text is)
      (λ empty none. some_left new some empty (got.1 ∙ old_tail ∙ none))

  pub read_err : (new : Left) (line : ℕ) → (report_at stock job old.lines ≡ Err new.lines) × (new.tail ≡ old.tail)
      → line ≡ length (whole_lines bytes) - length new.lines + 1 → IsFirstFault stock job bytes line
  read_err new line got is =
      let e = ap (report_at stock job) (sym old_lines) ∙ got.0 in
      let f = (report_parses stock job given).fault (whole_lines bytes) new.lines e in
      refused_fault stock job given bytes new.lines line e (counted f.front new.lines line f.text is)

  -- ---- by parts

  pub opening_err : (new : Left) → (opening_at stock job old.lines ≡ Err new.lines) × (new.tail ≡ old.tail) → (report_at stock job old.lines ≡ Err new.lines) × (new.tail ≡ old.tail)
  unfolding report_at
  opening_err new got = (ap (λ g. then_got g (λ o rest. then_got (tree_at stock o.nodes rest) (λ tree rest. Ok (report_of stock job o tree, rest)))) got.0, got.1)

  pub tree_err : (mid new : Left) (o : Opening) → (opening_at stock job old.lines ≡ Ok (o, mid.lines)) × (mid.tail ≡ old.tail)
      → (tree_at stock o.nodes mid.lines ≡ Err new.lines) × (new.tail ≡ mid.tail) → (report_at stock job old.lines ≡ Err new.lines) × (new.tail ≡ old.tail)
  unfolding report_at
  tree_err mid new o got got_too = (
    got_again (opening_at stock job old.lines) (λ o rest. then_got (tree_at stock o.nodes rest) (λ tree rest. Ok (report_of stock job o tree, rest))) o mid.lines got.0
        ∙ ap (λ g. then_got g (λ tree rest. Ok (report_of stock job o tree, rest))) got_too.0,
    got_too.1 ∙ got.1,
  )

  pub tree_ok : (mid new : Left) (o : Opening) (tree : List Node) → (opening_at stock job old.lines ≡ Ok (o, mid.lines)) × (mid.tail ≡ old.tail)
      → tree_at stock o.nodes mid.lines ≡ Ok (tree, new.lines) → new.tail ≡ mid.tail
      → (report_at stock job old.lines ≡ Ok (report_of stock job o tree, new.lines)) × (new.tail ≡ old.tail)
  unfolding report_at
  tree_ok mid new o tree got e same = (
    got_again (opening_at stock job old.lines) (λ o rest. then_got (tree_at stock o.nodes rest) (λ tree rest. Ok (report_of stock job o tree, rest))) o mid.lines got.0
        ∙ got_again (tree_at stock o.nodes mid.lines) (λ tree rest. Ok (report_of stock job o tree, rest)) tree new.lines e,
    same ∙ got.1,
  )

  -- ---- where the tree stands

  -- the bytes before the tree, and those of the tree
  pub record IsCut (mid : Left) (o : Opening) (tree : List Node) : Type 0 where
    pub front : Lines
    pub lines : report_lines stock job (report_of stock job o tree) ≡ front ++ (map node_line tree ++ codes "end" ∷ [])
    pub count : o.nodes ≡ length tree
    pub text : bytes ≡ text_of front ++ bytes_of mid
    pub rest : bytes_of mid ≡ text_of (map node_line tree ++ codes "end" ∷ [])
    pub passed : length (whole_lines (text_of front)) ≡ length front

  pub is_cut : (mid new : Left) (o : Opening) (tree : List Node) → (opening_at stock job old.lines ≡ Ok (o, mid.lines)) × (mid.tail ≡ old.tail)
      → tree_at stock o.nodes mid.lines ≡ Ok (tree, new.lines) → new.tail ≡ mid.tail → length (bytes_of new) ≤ 0 → IsCut mid o tree
  is_cut mid new o tree got e same none =
      let end = none_left new none in
      let first = (opening_parses stock job given).takes old.lines o mid.lines got.0 in
      let next = (tree_parses stock job given o.nodes).takes mid.lines tree new.lines e in
      let whole : Lines = map node_line tree ++ codes "end" ∷ [] in
      let left : mid.lines ≡ whole = next.text ∙ ap (λ l. next.front ++ l) end.0 ∙ append-nil next.front ∙ next.is.text in
      let tail : mid.tail ≡ [] = sym same ∙ end.1 in
      let whole_report = (report_parses stock job given).takes old.lines (report_of stock job o tree) new.lines (tree_ok mid new o tree got e same).0 in
      let lines : report_lines stock job (report_of stock job o tree) ≡ first.front ++ whole =
      sym whole_report.is.1 ∙ sym (append-nil whole_report.front) ∙ ap (λ l. whole_report.front ++ l) (sym end.0) ∙ sym whole_report.text ∙ first.text ∙ ap (λ l. first.front ++ l) left in
      record {
        front = first.front;
        lines = lines;
        count = sym next.is.many;
        text = text_again bytes ∙ ap (λ l. text_of l ++ tail_of bytes) (sym old_lines ∙ first.text) ∙ ap (λ t. t ++ tail_of bytes) (text_of-append first.front mid.lines)
            ∙ append_assoc (text_of first.front) (text_of mid.lines) (tail_of bytes) ∙ ap (λ t. text_of first.front ++ (text_of mid.lines ++ t)) (sym old_tail ∙ sym got.1);
        rest = ap (λ l. text_of l ++ mid.tail) left ∙ ap (λ t. text_of whole ++ t) tail ∙ append-nil (text_of whole);
        passed = ap length (lines_again first.front ((opening_parses stock job given).lines o first.front first.is)).0;
      }

-- a place behind the first part
pub behind_first : (a b : List ℕ) (bytes : List ℕ) (at : ℕ) → bytes ≡ a ++ b → at ≡ length bytes - length b → (take at bytes ≡ a) × (drop at bytes ≡ b)
behind_first a b bytes at text is =
    let all = ap length text in
    let long = length-append a b in
    let same : at ≡ length a = omega (arith, is, all, long) in
    (ap (λ n. take n bytes) same ∙ ap (take (length a)) text ∙ take-append_seam a b, ap (λ n. drop n bytes) same ∙ ap (drop (length a)) text ∙ drop-append_seam a b)

pub lines_of_report : (front : Lines) (tree : List Node) (first : ℕ) → first ≡ length front + 1
    → first + length tree ≡ length (front ++ (map node_line tree ++ codes "end" ∷ []))
lines_of_report front tree first is =
    let one = length-append front (map node_line tree ++ codes "end" ∷ []) in
    let two = length-append (map node_line tree) (codes "end" ∷ []) in
    let three = length-map tree node_line in
    omega (arith, is, one, two, three)
