-- The lines of a report are read as that report, and the reader stops at the first line with which no report goes on.
use Rattle.std.proofs.Common.{◌≡◌, ◌∙◌, refl, sym, ap, subst, ℕ, suc, ◌*◌, ◌/◌, ◌%◌, ◌<◌, ◌≤◌, inl, inr, true, false, List, [], ◌∷◌, ◌++◌, length, All, Option, Some, None, Ok, append_assoc, lit<, lit≤, arith}
use Rattle.std.specs.Prelude.{codes, decimal, map, ⊤}
use Rattle.std.specs.List.{AllByRecursion}
use Rattle.std.proofs.Math.Nat.{div-lt_iff_lt-mul, mod-lt, mul-le-mul_right}
use Rattle.std.proofs.lemmas.List.{append-nil}
use Rattle.std.proofs.lemmas.List.Elements.{All-from_recursion, All-head, All-tail}
use Rattle.lam_stock.specs.declared.item.Item.{Item}
use Rattle.lam_stock.specs.declared.item.ItemNo.{ItemNo}
use Rattle.lam_stock.specs.Stock.{HaveNames}
use Rattle.lam_job.specs.JobData.{JobData}
use Rattle.lam_job.specs.Schedule.{wall_of}
use Rattle.lam_tree.specs.declared.limits.TheConstants.{MOST_COST, MOST_NODES, MOST_RATIO}
use Rattle.lam_tree.specs.declared.node.Node.{Node}
use Rattle.lam_tree.specs.declared.report.Best.{Best}
use Rattle.lam_tree.specs.declared.report.Answer.{Answer}
use Rattle.lam_tree.specs.declared.report.Answer.TheVariants as answer
use Rattle.lam_tree.specs.declared.report.Report.{Report}
use Rattle.lam_tree.specs.declared.spot.Spot.{Spot}
use Rattle.lam_tree.specs.Lines.{line_of, node_line, spot_words}
use Rattle.lam_tree.specs.ReportRanges.{AreListed, IsAnswer, IsBlock, IsNode, IsReport, IsSpot}
use Rattle.lam_tree.specs.inside.LineReading.{first_named, node_of}
use Rattle.lam_report.specs.ReportText.{answer_line, best_lines, names_line, near_lines, number_line, numbered, panel_line, ratio_line, ratio_text, report_lines}
use Rattle.lam_report.specs.declared.head.Block.{Block}
use Rattle.lam_report.specs.declared.head.Opening.{Opening}
use Rattle.lam_report.specs.declared.spelled.AnswerKind.{AnswerKind}
use Rattle.lam_report.specs.declared.spelled.AnswerKind.TheVariants as kind
use Rattle.lam_report.specs.inside.HeadReading.{begins_so, is_text, kinds, names_in, near_in, number_in, panel_in, ratio_in}
use Rattle.lam_report.specs.inside.Reading.{Lines, Got, then_got, line_at, by_next}
use Rattle.lam_report.specs.inside.ReportReading.{answer_at, behind_block, behind_kind, best_at, block_at, is_cost, no_block, nodes_at, opening_at, panels_at, ratios_at, report_at, report_of, tree_at, with_block}
use Rattle.lam_report.proofs.Parsing.{Either, ListOf, Nothing, OneLine, Parses, StartsBy, Then, as_parses, either_parses, line_parses, listed_parses, nothing_parses, seq_parses}
use Rattle.lam_stock.proofs.NumberLaws.{decimal_word}
use Rattle.lam_tree.proofs.NodeLaws.{spot_are_words}
use Rattle.lam_tree.proofs.WordLaws.{is_word}
use Rattle.lam_report.proofs.SpellLaws.{behind_again, behind_other, kind_line, kind_spells, number_spells, text_spells}
use Rattle.lam_report.proofs.RatioLaws.{panel_spells, ratio_spells}
use Rattle.lam_report.proofs.NameLaws.{names_spells, near_spells, node_spells}

-- ---- all, and all by recursion

from_all : {X : Type 0} (P : X → Type 0) (xs : List X) → All P xs → AllByRecursion P xs
from_all P [] all = tt
from_all P (x ∷ xs) all = (All-head P x xs all, from_all P xs (All-tail P x xs all))

-- ---- the number of wall plies

-- what is known of the job and of the catalogue
pub record Given (stock : List Item) (job : JobData) : Type 0 where
  pub names : HaveNames stock
  pub some : 1 ≤ length stock
  pub few : length stock ≤ 64
  pub cases : length job.cases ≤ 16
  pub panels : length job.panels ≤ 8
  pub wall : (listed : List ItemNo) → AreListed stock listed → (1 ≤ length (wall_of stock job listed)) × (length (wall_of stock job listed) ≤ 64)

module _ (stock : List Item) (job : JobData) (given : Given stock job) where
  -- ---- the best schedule

  abbrev BestOf : Best → Lines → Type 0
  BestOf b f = (b.cost ≤ MOST_COST) × AreListed stock b.plies × (f ≡ number_line (codes "cost") b.cost ∷ names_line (codes "schedule") stock b.plies ∷ [])

  abbrev CostLine : ℕ → Lines → Type 0
  CostLine = OneLine (λ n. (0 ≤ n) × (n ≤ MOST_COST)) (number_line (codes "cost"))

  abbrev NamesBehind : ℕ → Best → Lines → Type 0
  NamesBehind cost = Then (OneLine (AreListed stock) (names_line (codes "schedule") stock)) (λ plies. Nothing (record { plies = plies; cost = cost }))

  best_parses : Parses BestOf (best_at stock)
  unfolding best_at
  best_parses =
      as_parses (Then CostLine NamesBehind) BestOf (best_at stock) to from
      (seq_parses CostLine NamesBehind (line_at (number_in (codes "cost") 0 MOST_COST))
      (λ cost rest. then_got (line_at (names_in (codes "schedule") stock) rest) (λ plies rest. Ok (record { plies = plies; cost = cost }, rest)))
      (line_parses (λ n. (0 ≤ n) × (n ≤ MOST_COST)) (number_line (codes "cost")) (number_in (codes "cost") 0 MOST_COST) (number_spells (codes "cost") 0 MOST_COST refl (lit≤ tt) (lit< tt)))
      (λ cost f is. seq_parses (OneLine (AreListed stock) (names_line (codes "schedule") stock)) (λ plies. Nothing (record { plies = plies; cost = cost }))
      (line_at (names_in (codes "schedule") stock)) (λ plies rest. Ok (record { plies = plies; cost = cost }, rest))
      (line_parses (AreListed stock) (names_line (codes "schedule") stock) (names_in (codes "schedule") stock) (names_spells stock (codes "schedule") refl given.names given.some))
      (λ plies g is. nothing_parses (record { plies = plies; cost = cost })))) where
        to : (b : Best) (f : Lines) → Then CostLine NamesBehind b f → BestOf b f
        to b f (cost, one, other, cut, fits, (plies, two, three, cut_too, fits_too, none)) =
            subst (λ (x : Best). BestOf x f) (sym none.0)
            (fits.0.1, fits_too.0, cut ∙ ap (λ l. l ++ other) fits.1 ∙ ap (λ l. number_line (codes "cost") cost ∷ l) (cut_too ∙ ap (λ l. l ++ three) fits_too.1 ∙ ap (λ l. names_line (codes "schedule") stock plies ∷ l) none.1))

        from : (b : Best) (f : Lines) → BestOf b f → Then CostLine NamesBehind b f
        from b f is =
            let names = names_line (codes "schedule") stock b.plies in
            (b.cost, number_line (codes "cost") b.cost ∷ [], names ∷ [], is.2, ((omega arith, is.0), refl), (b.plies, names ∷ [], [], refl, (is.1, refl), (refl, refl)))

  -- ---- its ratios

  abbrev SmallRatio : ℕ → Type 0
  SmallRatio r = r ≤ MOST_RATIO

  abbrev ratio_of_wall : ℕ → ℕ → ℕ → List ℕ
  ratio_of_wall plies i r = ratio_line (i / plies) (i % plies) r

  abbrev panel_of : ℕ → ℕ → List ℕ
  panel_of k r = panel_line k (ratio_text r)

  ratios_parse : (plies : ℕ) → 1 ≤ plies → plies ≤ 64 → Parses (ListOf SmallRatio (ratio_of_wall plies) 0 (length job.cases * plies)) (ratios_at job plies)
  unfolding ratios_at
  ratios_parse plies some few =
      listed_parses SmallRatio (ratio_of_wall plies) (λ i. ratio_in (i / plies) (i % plies)) (length job.cases * plies) 0 (length job.cases * plies) (omega arith)
      (λ i less. (
      let cases = mul-le-mul_right plies given.cases in
      let case : i / plies < 16 = (div-lt_iff_lt-mul {k = plies} {x = i} {y = 16} (omega (arith, some))).1 (omega (arith, less, cases)) in
      let ply : i % plies < plies = mod-lt i {m = plies} (omega (arith, some)) in
      ratio_spells (i / plies) (i % plies) (omega (arith, case)) (omega (arith, ply, few))
      ))

  panels_parse : Parses (ListOf SmallRatio panel_of 0 (length job.panels)) (panels_at job)
  unfolding panels_at
  panels_parse =
      listed_parses SmallRatio panel_of panel_in (length job.panels) 0 (length job.panels) (omega arith)
      (λ k less. (let few = given.panels in panel_spells k (omega (arith, less, few))))

  -- a best schedule with its ratios
  pub record BlockOf (x : Block) (f : Lines) : Type 0 where
    pub b : Best
    pub best : x.best ≡ Some b
    pub fits : IsBlock stock job (Some b) x.ratios x.panels
    pub text : f ≡ best_lines stock job (Some b) x.ratios x.panels

  block_parses : Parses BlockOf (block_at stock job)
  unfolding block_at
  block_parses =
      as_parses (Then BestOf behind) BlockOf (block_at stock job) to from
      (seq_parses BestOf behind (best_at stock) next best_parses
      (λ b f is. (
      let wall = given.wall b.plies is.1 in
      let plies = length (wall_of stock job b.plies) in
      seq_parses (ListOf SmallRatio (ratio_of_wall plies) 0 (length job.cases * plies)) (last b) (ratios_at job plies)
      (λ ratios rest. then_got (panels_at job rest) (λ panels rest. Ok (record { best = Some b; ratios = ratios; panels = panels }, rest)))
      (ratios_parse plies wall.0 wall.1)
      (λ ratios g are. seq_parses (ListOf SmallRatio panel_of 0 (length job.panels)) (λ panels. Nothing (record { best = Some b; ratios = ratios; panels = panels }))
      (panels_at job) (λ panels rest. Ok (record { best = Some b; ratios = ratios; panels = panels }, rest)) panels_parse
      (λ panels h are. nothing_parses (record { best = Some b; ratios = ratios; panels = panels })))
      ))) where
        last : Best → List ℕ → Block → Lines → Type 0
        last b ratios = Then (ListOf SmallRatio panel_of 0 (length job.panels)) (λ panels. Nothing (record { best = Some b; ratios = ratios; panels = panels }))

        behind : Best → Block → Lines → Type 0
        behind b = Then (ListOf SmallRatio (ratio_of_wall (length (wall_of stock job b.plies))) 0 (length job.cases * length (wall_of stock job b.plies))) (last b)

        next : Best → Lines → Got Block
        next b rest =
            then_got (ratios_at job (length (wall_of stock job b.plies)) rest) (λ ratios rest.
            then_got (panels_at job rest) (λ panels rest. Ok (record { best = Some b; ratios = ratios; panels = panels }, rest)))

        to : (x : Block) (f : Lines) → Then BestOf behind x f → BlockOf x f
        to x f (b, one, other, cut, is, (ratios, two, three, cut_too, are, (panels, four, five, cut_last, are_too, none))) =
            subst (λ (y : Block). BlockOf y f) (sym none.0) (record {
              b = b;
              best = refl;
              fits = (is.0, is.1, record { many = are.many; small = All-from_recursion SmallRatio ratios are.fits }, record { many = are_too.many; small = All-from_recursion SmallRatio panels are_too.fits });
              text = cut ∙ ap (λ l. l ++ other) is.2 ∙ ap (λ l. number_line (codes "cost") b.cost ∷ names_line (codes "schedule") stock b.plies ∷ l)
                  (cut_too ∙ ap (λ l. l ++ three) are.text ∙ ap (λ l. numbered (ratio_of_wall (length (wall_of stock job b.plies))) 0 ratios ++ l)
                  (cut_last ∙ ap (λ l. four ++ l) none.1 ∙ append-nil four ∙ are_too.text));
            })

        from : (x : Block) (f : Lines) → BlockOf x f → Then BestOf behind x f
        from x f is =
            let plies = length (wall_of stock job is.b.plies) in
            let r = numbered (ratio_of_wall plies) 0 x.ratios in
            let p = numbered panel_of 0 x.panels in
            let same : x ≡ record { best = Some is.b; ratios = x.ratios; panels = x.panels } = ap (λ (o : Option Best). record { best = o; ratios = x.ratios; panels = x.panels }) is.best in (
              is.b,
              number_line (codes "cost") is.b.cost ∷ names_line (codes "schedule") stock is.b.plies ∷ [],
              r ++ p,
              is.text,
              (is.fits.0, is.fits.1, refl),
              (
                x.ratios,
                r,
                p,
                refl,
                record { many = is.fits.2.many; fits = from_all SmallRatio x.ratios is.fits.2.small; text = refl },
                (x.panels, p, [], sym (append-nil p), record { many = is.fits.3.many; fits = from_all SmallRatio x.panels is.fits.3.small; text = refl }, (same, refl)),
              ),
            )

  -- ---- answers

  abbrev kind_of : Answer → AnswerKind
  kind_of answer.Least = kind.Least
  kind_of answer.NoneMeets = kind.NoneMeets
  kind_of answer.OpenBudget = kind.OpenBudget
  kind_of (answer.OpenStraddle near) = kind.OpenStraddle

  abbrev FitsAnswer : Answer → Type 0
  FitsAnswer answer.Least = ⊤
  FitsAnswer answer.NoneMeets = ⊤
  FitsAnswer answer.OpenBudget = ⊤
  FitsAnswer (answer.OpenStraddle near) = (near.cost ≤ MOST_COST) × AreListed stock near.plies × IsSpot near.at

  pub record AnswerOf (k : AnswerKind) (a : Answer) (f : Lines) : Type 0 where
    pub of_kind : kind_of a ≡ k
    pub fits : FitsAnswer a
    pub text : f ≡ near_lines stock a

  abbrev NearLine : ℕ × Spot → Lines → Type 0
  NearLine = OneLine (λ (n : ℕ × Spot). (n.0 ≤ MOST_COST) × IsSpot n.1) (λ n. line_of (codes "near" ∷ decimal n.0 ∷ spot_words n.1))

  abbrev near_answer : ℕ × Spot → List ItemNo → Answer
  near_answer n plies = answer.OpenStraddle (record { plies = plies; cost = n.0; at = n.1 })

  abbrev NamedBehind : ℕ × Spot → Answer → Lines → Type 0
  NamedBehind n = Then (OneLine (AreListed stock) (names_line (codes "named") stock)) (λ plies. Nothing (near_answer n plies))

  -- an answer that names no schedule
  plain_parses : (a : Answer) → FitsAnswer a → near_lines stock a ≡ [] → ((b : Answer) → kind_of b ≡ kind_of a → b ≡ a) → Parses (AnswerOf (kind_of a)) (λ lines. Ok (a, lines))
  plain_parses a fits none one =
      as_parses (Nothing a) (AnswerOf (kind_of a)) (λ lines. Ok (a, lines))
      (λ b f is. record { of_kind = ap kind_of is.0; fits = subst FitsAnswer (sym is.0) fits; text = is.1 ∙ sym none ∙ ap (near_lines stock) (sym is.0) })
      (λ b f is. (let same = one b is.of_kind in (same, is.text ∙ ap (near_lines stock) same ∙ none)))
      (nothing_parses a)

  answer_parses : (k : AnswerKind) → Parses (AnswerOf k) (answer_at stock k)
  unfolding answer_at
  answer_parses kind.Least = plain_parses answer.Least tt refl one where
    one : (b : Answer) → kind_of b ≡ kind.Least → b ≡ answer.Least
    one answer.Least e = refl
    one answer.NoneMeets e = absurd (let n : kind.NoneMeets ≡ kind.Least = e in cc)
    one answer.OpenBudget e = absurd (let n : kind.OpenBudget ≡ kind.Least = e in cc)
    one (answer.OpenStraddle near) e = absurd (let n : kind.OpenStraddle ≡ kind.Least = e in cc)
  answer_parses kind.NoneMeets = plain_parses answer.NoneMeets tt refl one where
    one : (b : Answer) → kind_of b ≡ kind.NoneMeets → b ≡ answer.NoneMeets
    one answer.NoneMeets e = refl
    one answer.Least e = absurd (let n : kind.Least ≡ kind.NoneMeets = e in cc)
    one answer.OpenBudget e = absurd (let n : kind.OpenBudget ≡ kind.NoneMeets = e in cc)
    one (answer.OpenStraddle near) e = absurd (let n : kind.OpenStraddle ≡ kind.NoneMeets = e in cc)
  answer_parses kind.OpenBudget = plain_parses answer.OpenBudget tt refl one where
    one : (b : Answer) → kind_of b ≡ kind.OpenBudget → b ≡ answer.OpenBudget
    one answer.OpenBudget e = refl
    one answer.Least e = absurd (let n : kind.Least ≡ kind.OpenBudget = e in cc)
    one answer.NoneMeets e = absurd (let n : kind.NoneMeets ≡ kind.OpenBudget = e in cc)
    one (answer.OpenStraddle near) e = absurd (let n : kind.OpenStraddle ≡ kind.OpenBudget = e in cc)
  answer_parses kind.OpenStraddle =
      as_parses (Then NearLine NamedBehind) (AnswerOf kind.OpenStraddle) (answer_at stock kind.OpenStraddle) to from
      (seq_parses NearLine NamedBehind (line_at near_in)
      (λ n rest. then_got (line_at (names_in (codes "named") stock) rest) (λ plies rest. Ok (near_answer n plies, rest)))
      (line_parses (λ (n : ℕ × Spot). (n.0 ≤ MOST_COST) × IsSpot n.1) (λ n. line_of (codes "near" ∷ decimal n.0 ∷ spot_words n.1)) near_in near_spells)
      (λ n f is. seq_parses (OneLine (AreListed stock) (names_line (codes "named") stock)) (λ plies. Nothing (near_answer n plies))
      (line_at (names_in (codes "named") stock)) (λ plies rest. Ok (near_answer n plies, rest))
      (line_parses (AreListed stock) (names_line (codes "named") stock) (names_in (codes "named") stock) (names_spells stock (codes "named") refl given.names given.some))
      (λ plies g is. nothing_parses (near_answer n plies)))) where
        to : (a : Answer) (f : Lines) → Then NearLine NamedBehind a f → AnswerOf kind.OpenStraddle a f
        to a f (n, one, other, cut, is, (plies, two, three, cut_too, is_too, none)) =
            subst (λ (b : Answer). AnswerOf kind.OpenStraddle b f) (sym none.0) (record {
              of_kind = refl;
              fits = (is.0.0, is_too.0, is.0.1);
              text = cut ∙ ap (λ l. l ++ other) is.1 ∙ ap (λ l. line_of (codes "near" ∷ decimal n.0 ∷ spot_words n.1) ∷ l)
                  (cut_too ∙ ap (λ l. l ++ three) is_too.1 ∙ ap (λ l. names_line (codes "named") stock plies ∷ l) none.1);
            })

        from : (a : Answer) (f : Lines) → AnswerOf kind.OpenStraddle a f → Then NearLine NamedBehind a f
        from (answer.OpenStraddle near) f is =
            let line = line_of (codes "near" ∷ decimal near.cost ∷ spot_words near.at) in
            let names = names_line (codes "named") stock near.plies in
            ((near.cost, near.at), line ∷ [], names ∷ [], is.text, ((is.fits.0, is.fits.2), refl), (near.plies, names ∷ [], [], refl, (is.fits.1, refl), (refl, refl)))
        from answer.Least f is = absurd (let n : kind.Least ≡ kind.OpenStraddle = is.of_kind in cc)
        from answer.NoneMeets f is = absurd (let n : kind.NoneMeets ≡ kind.OpenStraddle = is.of_kind in cc)
        from answer.OpenBudget f is = absurd (let n : kind.OpenBudget ≡ kind.OpenStraddle = is.of_kind in cc)

  -- ---- behind the best schedule

  pub record BehindOf (budget : ℕ) (k : AnswerKind) (x : Block) (o : Opening) (f : Lines) : Type 0 where
    pub budget_is : o.budget ≡ budget
    pub of_kind : kind_of o.answer ≡ k
    pub answer_fits : FitsAnswer o.answer
    pub best_is : o.best ≡ x.best
    pub ratios_are : o.ratios ≡ x.ratios
    pub panels_are : o.panels ≡ x.panels
    pub some : 1 ≤ o.nodes
    pub most : o.nodes ≤ MOST_NODES
    pub text : f ≡ near_lines stock o.answer ++ number_line (codes "nodes") o.nodes ∷ []

  abbrev IsCount : ℕ → Type 0
  IsCount n = (1 ≤ n) × (n ≤ MOST_NODES)

  abbrev opening_of : ℕ → Block → Answer → ℕ → Opening
  opening_of budget x a n = record { budget = budget; answer = a; best = x.best; ratios = x.ratios; panels = x.panels; nodes = n }

  abbrev NodesBehind : ℕ → Block → Answer → Opening → Lines → Type 0
  NodesBehind budget x a = Then (OneLine IsCount (number_line (codes "nodes"))) (λ n. Nothing (opening_of budget x a n))

  behind_parses : (budget : ℕ) (k : AnswerKind) (x : Block) → Parses (BehindOf budget k x) (behind_block stock budget k x)
  unfolding behind_block
  behind_parses budget k x =
      as_parses (Then (AnswerOf k) (NodesBehind budget x)) (BehindOf budget k x) (behind_block stock budget k x) to from
      (seq_parses (AnswerOf k) (NodesBehind budget x) (answer_at stock k)
      (λ a rest. then_got (line_at (number_in (codes "nodes") 1 MOST_NODES) rest) (λ n rest. Ok (opening_of budget x a n, rest)))
      (answer_parses k)
      (λ a f is. seq_parses (OneLine IsCount (number_line (codes "nodes"))) (λ n. Nothing (opening_of budget x a n))
      (line_at (number_in (codes "nodes") 1 MOST_NODES)) (λ n rest. Ok (opening_of budget x a n, rest))
      (line_parses IsCount (number_line (codes "nodes")) (number_in (codes "nodes") 1 MOST_NODES) (number_spells (codes "nodes") 1 MOST_NODES refl (lit≤ tt) (lit< tt)))
      (λ n g is. nothing_parses (opening_of budget x a n)))) where
        to : (o : Opening) (f : Lines) → Then (AnswerOf k) (NodesBehind budget x) o f → BehindOf budget k x o f
        to o f (a, one, other, cut, is, (n, two, three, cut_too, is_too, none)) =
            subst (λ (p : Opening). BehindOf budget k x p f) (sym none.0) (record {
              budget_is = refl;
              of_kind = is.of_kind;
              answer_fits = is.fits;
              best_is = refl;
              ratios_are = refl;
              panels_are = refl;
              some = is_too.0.0;
              most = is_too.0.1;
              text = cut ∙ ap (λ l. l ++ other) is.text ∙ ap (λ l. near_lines stock a ++ l) (cut_too ∙ ap (λ l. l ++ three) is_too.1 ∙ ap (λ l. number_line (codes "nodes") n ∷ l) none.1);
            })

        from : (o : Opening) (f : Lines) → BehindOf budget k x o f → Then (AnswerOf k) (NodesBehind budget x) o f
        from o f is =
            let line = number_line (codes "nodes") o.nodes in
            let same : o ≡ opening_of budget x o.answer o.nodes =
            ap (λ v. record { budget = v; answer = o.answer; best = o.best; ratios = o.ratios; panels = o.panels; nodes = o.nodes }) is.budget_is
            ∙ ap (λ (v : Option Best). record { budget = budget; answer = o.answer; best = v; ratios = o.ratios; panels = o.panels; nodes = o.nodes }) is.best_is
            ∙ ap (λ (v : List ℕ). record { budget = budget; answer = o.answer; best = x.best; ratios = v; panels = o.panels; nodes = o.nodes }) is.ratios_are
            ∙ ap (λ (v : List ℕ). record { budget = budget; answer = o.answer; best = x.best; ratios = x.ratios; panels = v; nodes = o.nodes }) is.panels_are in (
              o.answer,
              near_lines stock o.answer,
              line ∷ [],
              is.text,
              record { of_kind = is.of_kind; fits = is.answer_fits; text = refl },
              (o.nodes, line ∷ [], [], refl, ((is.some, is.most), refl), (same, refl)),
            )

  -- ---- behind the answer line

  -- what stands behind the answer line, of either kind
  pub record BehindAny (budget : ℕ) (k : AnswerKind) (o : Opening) (f : Lines) : Type 0 where
    pub budget_is : o.budget ≡ budget
    pub of_kind : kind_of o.answer ≡ k
    pub answer_fits : FitsAnswer o.answer
    pub block : IsBlock stock job o.best o.ratios o.panels
    pub some : 1 ≤ o.nodes
    pub most : o.nodes ≤ MOST_NODES
    pub text : f ≡ best_lines stock job o.best o.ratios o.panels ++ (near_lines stock o.answer ++ number_line (codes "nodes") o.nodes ∷ [])

  abbrev HasBest : Opening → Type 0
  HasBest o = (b : Best) × (o.best ≡ Some b)

  abbrev WithOf : ℕ → AnswerKind → Opening → Lines → Type 0
  WithOf budget k o f = BehindAny budget k o f × HasBest o

  abbrev WithoutOf : ℕ → AnswerKind → Opening → Lines → Type 0
  WithoutOf budget k o f = BehindAny budget k o f × (o.best ≡ None)

  with_parses : (budget : ℕ) (k : AnswerKind) → Parses (WithOf budget k) (with_block stock job budget k)
  unfolding with_block
  with_parses budget k =
      as_parses (Then BlockOf (BehindOf budget k)) (WithOf budget k) (with_block stock job budget k) to from
      (seq_parses BlockOf (BehindOf budget k) (block_at stock job) (λ x rest. behind_block stock budget k x rest) block_parses (λ x f is. behind_parses budget k x)) where
        to : (o : Opening) (f : Lines) → Then BlockOf (BehindOf budget k) o f → WithOf budget k o f
        to o f (x, one, other, cut, is, is_too) =
            let best = is_too.best_is ∙ is.best in
            let block = subst (λ (b : Option Best). IsBlock stock job b o.ratios o.panels) (sym best)
            (subst (λ (rs : List ℕ). IsBlock stock job (Some is.b) rs o.panels) (sym is_too.ratios_are)
            (subst (λ (ps : List ℕ). IsBlock stock job (Some is.b) x.ratios ps) (sym is_too.panels_are) is.fits)) in
            let lines : best_lines stock job (Some is.b) x.ratios x.panels ≡ best_lines stock job o.best o.ratios o.panels =
            ap (λ (ps : List ℕ). best_lines stock job (Some is.b) x.ratios ps) (sym is_too.panels_are)
            ∙ ap (λ (rs : List ℕ). best_lines stock job (Some is.b) rs o.panels) (sym is_too.ratios_are)
            ∙ ap (λ (b : Option Best). best_lines stock job b o.ratios o.panels) (sym best) in (
              record {
                budget_is = is_too.budget_is;
                of_kind = is_too.of_kind;
                answer_fits = is_too.answer_fits;
                block = block;
                some = is_too.some;
                most = is_too.most;
                text = cut ∙ ap (λ l. l ++ other) (is.text ∙ lines) ∙ ap (λ l. best_lines stock job o.best o.ratios o.panels ++ l) is_too.text;
              },
              (is.b, best),
            )

        from : (o : Opening) (f : Lines) → WithOf budget k o f → Then BlockOf (BehindOf budget k) o f
        from o f (is, has) =
            let x : Block = record { best = o.best; ratios = o.ratios; panels = o.panels } in
            let fits = subst (λ (b : Option Best). IsBlock stock job b o.ratios o.panels) has.1 is.block in (
              x,
              best_lines stock job o.best o.ratios o.panels,
              near_lines stock o.answer ++ number_line (codes "nodes") o.nodes ∷ [],
              is.text,
              record { b = has.0; best = has.1; fits = fits; text = ap (λ (b : Option Best). best_lines stock job b o.ratios o.panels) has.1 },
              record { budget_is = is.budget_is; of_kind = is.of_kind; answer_fits = is.answer_fits; best_is = refl; ratios_are = refl; panels_are = refl; some = is.some; most = is.most; text = refl },
            )

  without_parses : (budget : ℕ) (k : AnswerKind) → Parses (WithoutOf budget k) (behind_block stock budget k no_block)
  without_parses budget k = as_parses (BehindOf budget k no_block) (WithoutOf budget k) (behind_block stock budget k no_block) to from (behind_parses budget k no_block) where
    to : (o : Opening) (f : Lines) → BehindOf budget k no_block o f → WithoutOf budget k o f
    to o f is = (
      record {
        budget_is = is.budget_is;
        of_kind = is.of_kind;
        answer_fits = is.answer_fits;
        block = subst (λ (b : Option Best). IsBlock stock job b o.ratios o.panels) (sym is.best_is) (is.ratios_are, is.panels_are);
        some = is.some;
        most = is.most;
        text = is.text ∙ ap (λ (b : Option Best). best_lines stock job b o.ratios o.panels ++ (near_lines stock o.answer ++ number_line (codes "nodes") o.nodes ∷ [])) (sym is.best_is);
      },
      is.best_is,
    )

    from : (o : Opening) (f : Lines) → WithoutOf budget k o f → BehindOf budget k no_block o f
    from o f (is, none) =
        let block = subst (λ (b : Option Best). IsBlock stock job b o.ratios o.panels) none is.block in
        record {
          budget_is = is.budget_is;
          of_kind = is.of_kind;
          answer_fits = is.answer_fits;
          best_is = none;
          ratios_are = block.0;
          panels_are = block.1;
          some = is.some;
          most = is.most;
          text = is.text ∙ ap (λ (b : Option Best). best_lines stock job b o.ratios o.panels ++ (near_lines stock o.answer ++ number_line (codes "nodes") o.nodes ∷ [])) none;
        }

  -- the next line says whether a best schedule stands there
  starts_cost : (budget : ℕ) (k : AnswerKind) (o : Opening) (f : Lines) → WithOf budget k o f → StartsBy is_cost true f
  starts_cost budget k o f (is, has) =
      let block = subst (λ (b : Option Best). IsBlock stock job b o.ratios o.panels) has.1 is.block in
      let most = block.0 in
      let text = is.text ∙ ap (λ (b : Option Best). best_lines stock job b o.ratios o.panels ++ (near_lines stock o.answer ++ number_line (codes "nodes") o.nodes ∷ [])) has.1 in
      subst (StartsBy is_cost true) (sym text) (ap begins_so (behind_again (codes "cost") (decimal has.0.cost ∷ []) (refl, (decimal_word has.0.cost (omega (arith, most)), tt))))

  starts_other : (budget : ℕ) (k : AnswerKind) (o : Opening) (f : Lines) → WithoutOf budget k o f → StartsBy is_cost false f
  starts_other budget k o f (is, none) =
      subst (StartsBy is_cost false) (sym (is.text ∙ ap (λ (b : Option Best). best_lines stock job b o.ratios o.panels ++ (near_lines stock o.answer ++ number_line (codes "nodes") o.nodes ∷ [])) none))
      (by o.answer is.answer_fits) where
        nodes : is_cost (number_line (codes "nodes") o.nodes) ≡ false
        nodes = let most = is.most in ap begins_so (behind_other (codes "cost") (codes "nodes") (decimal o.nodes ∷ []) (refl, (decimal_word o.nodes (omega (arith, most)), tt)) refl)

        by : (a : Answer) → FitsAnswer a → StartsBy is_cost false (near_lines stock a ++ number_line (codes "nodes") o.nodes ∷ [])
        by answer.Least fits = nodes
        by answer.NoneMeets fits = nodes
        by answer.OpenBudget fits = nodes
        by (answer.OpenStraddle near) fits =
            let most = fits.0 in
            ap begins_so (behind_other (codes "cost") (codes "near") (decimal near.cost ∷ spot_words near.at)
            (refl, (decimal_word near.cost (omega (arith, most)), subst (AllByRecursion (λ v. is_word v ≡ true)) (append-nil (spot_words near.at)) (spot_are_words near.at [] fits.2 tt))) refl)

  abbrev KindFits : AnswerKind → Opening → Type 0
  KindFits kind.Least o = HasBest o
  KindFits kind.NoneMeets o = o.best ≡ None
  KindFits kind.OpenBudget o = ⊤
  KindFits kind.OpenStraddle o = ⊤

  abbrev KindOf : ℕ → AnswerKind → Opening → Lines → Type 0
  KindOf budget k o f = BehindAny budget k o f × KindFits k o

  open_parses : (budget : ℕ) (k : AnswerKind) → Parses (λ o f. BehindAny budget k o f × ⊤) (by_next is_cost (with_block stock job budget k) (behind_block stock budget k no_block))
  open_parses budget k =
      as_parses (Either (WithOf budget k) (WithoutOf budget k)) (λ o f. BehindAny budget k o f × ⊤) (by_next is_cost (with_block stock job budget k) (behind_block stock budget k no_block))
      (λ o f is. elim is [ inl with_so ↦ (with_so.0, tt) | inr without ↦ (without.0, tt) ])
      (λ o f is. by o.best refl o f is.0)
      (either_parses (WithOf budget k) (WithoutOf budget k) is_cost (with_block stock job budget k) (behind_block stock budget k no_block)
      (with_parses budget k) (without_parses budget k) (starts_cost budget k) (starts_other budget k)) where
        by : (best : Option Best) (h : best ≡ best) (o : Opening) (f : Lines) → BehindAny budget k o f → Either (WithOf budget k) (WithoutOf budget k) o f
        by best h o f is = at o.best refl where
          at : (b : Option Best) → o.best ≡ b → Either (WithOf budget k) (WithoutOf budget k) o f
          at (Some b) e = inl (is, (b, e))
          at None e = inr (is, e)

  kind_parses : (budget : ℕ) (k : AnswerKind) → Parses (KindOf budget k) (behind_kind stock job budget k)
  unfolding behind_kind
  kind_parses budget kind.Least = with_parses budget kind.Least
  kind_parses budget kind.NoneMeets = without_parses budget kind.NoneMeets
  kind_parses budget kind.OpenBudget = open_parses budget kind.OpenBudget
  kind_parses budget kind.OpenStraddle = open_parses budget kind.OpenStraddle

  -- ---- the lines before the tree

  pub record OpeningOf (o : Opening) (f : Lines) : Type 0 where
    pub some_budget : 1 ≤ o.budget
    pub most_budget : o.budget ≤ MOST_NODES
    pub behind : KindFits (kind_of o.answer) o
    pub answer_fits : FitsAnswer o.answer
    pub block : IsBlock stock job o.best o.ratios o.panels
    pub some : 1 ≤ o.nodes
    pub most : o.nodes ≤ MOST_NODES
    pub text : f ≡ codes "laminate report 1" ∷ number_line (codes "budget") o.budget ∷ answer_line o.answer
        ∷ (best_lines stock job o.best o.ratios o.panels ++ (near_lines stock o.answer ++ number_line (codes "nodes") o.nodes ∷ []))

  answer_kind_line : (a : Answer) → kind_line (kind_of a) ≡ answer_line a
  answer_kind_line answer.Least = refl
  answer_kind_line answer.NoneMeets = refl
  answer_kind_line answer.OpenBudget = refl
  answer_kind_line (answer.OpenStraddle near) = refl

  abbrev HeadLine : Unit {0} → Lines → Type 0
  HeadLine = OneLine (λ (u : Unit {0}). ⊤) (λ u. codes "laminate report 1")

  abbrev KindBehind : ℕ → Opening → Lines → Type 0
  KindBehind budget = Then (OneLine (λ (k : AnswerKind). ⊤) kind_line) (KindOf budget)

  abbrev BudgetBehind : Unit {0} → Opening → Lines → Type 0
  BudgetBehind u = Then (OneLine IsCount (number_line (codes "budget"))) KindBehind

  pub opening_parses : Parses OpeningOf (opening_at stock job)
  unfolding opening_at
  opening_parses =
      as_parses (Then HeadLine BudgetBehind) OpeningOf (opening_at stock job) to from
      (seq_parses HeadLine BudgetBehind (line_at (is_text (codes "laminate report 1")))
      (λ u rest. then_got (line_at (number_in (codes "budget") 1 MOST_NODES) rest) (λ budget rest. then_got (line_at (first_named kinds) rest) (λ k rest. behind_kind stock job budget k rest)))
      (line_parses (λ (u : Unit {0}). ⊤) (λ u. codes "laminate report 1") (is_text (codes "laminate report 1")) (text_spells (codes "laminate report 1") refl))
      (λ u f is. seq_parses (OneLine IsCount (number_line (codes "budget"))) KindBehind (line_at (number_in (codes "budget") 1 MOST_NODES))
      (λ budget rest. then_got (line_at (first_named kinds) rest) (λ k rest. behind_kind stock job budget k rest))
      (line_parses IsCount (number_line (codes "budget")) (number_in (codes "budget") 1 MOST_NODES) (number_spells (codes "budget") 1 MOST_NODES refl (lit≤ tt) (lit< tt)))
      (λ budget g is. seq_parses (OneLine (λ (k : AnswerKind). ⊤) kind_line) (KindOf budget) (line_at (first_named kinds)) (λ k rest. behind_kind stock job budget k rest)
      (line_parses (λ (k : AnswerKind). ⊤) kind_line (first_named kinds) kind_spells) (λ k h is. kind_parses budget k)))) where
        to : (o : Opening) (f : Lines) → Then HeadLine BudgetBehind o f → OpeningOf o f
        to o f (u, one, other, cut, is, (budget, two, three, cut_too, is_too, (k, four, five, cut_last, is_last, (behind, fits)))) = record {
          some_budget = subst (λ n. 1 ≤ n) (sym behind.budget_is) is_too.0.0;
          most_budget = subst (λ n. n ≤ MOST_NODES) (sym behind.budget_is) is_too.0.1;
          behind = subst (λ (j : AnswerKind). KindFits j o) (sym behind.of_kind) fits;
          answer_fits = behind.answer_fits;
          block = behind.block;
          some = behind.some;
          most = behind.most;
          text = cut ∙ ap (λ l. l ++ other) is.1 ∙ ap (λ l. codes "laminate report 1" ∷ l) (cut_too ∙ ap (λ l. l ++ three) is_too.1
              ∙ ap (λ n. number_line (codes "budget") n ∷ three) (sym behind.budget_is)
              ∙ ap (λ l. number_line (codes "budget") o.budget ∷ l) (cut_last ∙ ap (λ l. l ++ five) is_last.1
              ∙ ap (λ (j : AnswerKind). kind_line j ∷ five) (sym behind.of_kind) ∙ ap (λ l. l ∷ five) (answer_kind_line o.answer) ∙ ap (λ l. answer_line o.answer ∷ l) behind.text));
        }

        from : (o : Opening) (f : Lines) → OpeningOf o f → Then HeadLine BudgetBehind o f
        from o f is =
            let rest = best_lines stock job o.best o.ratios o.panels ++ (near_lines stock o.answer ++ number_line (codes "nodes") o.nodes ∷ []) in
            let kind_text = kind_line (kind_of o.answer) in
            let budget = number_line (codes "budget") o.budget in (
              tt,
              codes "laminate report 1" ∷ [],
              budget ∷ kind_text ∷ rest,
              is.text ∙ ap (λ l. codes "laminate report 1" ∷ budget ∷ l ∷ rest) (sym (answer_kind_line o.answer)),
              (tt, refl),
              (
                o.budget,
                budget ∷ [],
                kind_text ∷ rest,
                refl,
                ((is.some_budget, is.most_budget), refl),
                (
                  kind_of o.answer,
                  kind_text ∷ [],
                  rest,
                  refl,
                  (tt, refl),
                  (record { budget_is = refl; of_kind = refl; answer_fits = is.answer_fits; block = is.block; some = is.some; most = is.most; text = refl }, is.behind),
                ),
              ),
            )

  -- ---- the whole report

  abbrev pub ReportOf : Report → Lines → Type 0
  ReportOf r f = IsReport stock job r × (f ≡ report_lines stock job r)

  numbered-nodes : (from : ℕ) (tree : List Node) → numbered (λ i n. node_line n) from tree ≡ map node_line tree
  numbered-nodes from [] = refl
  numbered-nodes from (n ∷ tree) = ap (λ l. node_line n ∷ l) (numbered-nodes (suc from) tree)

  abbrev NodesOf : ℕ → List Node → Lines → Type 0
  NodesOf nodes = ListOf (IsNode (length stock)) (λ i. node_line) 0 nodes

  nodes_parses : (nodes : ℕ) → Parses (NodesOf nodes) (nodes_at stock nodes)
  unfolding nodes_at
  nodes_parses nodes =
      listed_parses (IsNode (length stock)) (λ i. node_line) (λ i. node_of (length stock)) nodes 0 nodes (omega arith)
      (λ i less. (let few = given.few in node_spells (length stock) (omega (arith, few))))

  -- nodes and the last line
  pub record TreeOf (nodes : ℕ) (tree : List Node) (f : Lines) : Type 0 where
    pub many : length tree ≡ nodes
    pub fits : AllByRecursion (IsNode (length stock)) tree
    pub text : f ≡ map node_line tree ++ codes "end" ∷ []

  abbrev EndLine : Unit {0} → Lines → Type 0
  EndLine = OneLine (λ (u : Unit {0}). ⊤) (λ u. codes "end")

  abbrev EndBehind : List Node → List Node → Lines → Type 0
  EndBehind tree = Then EndLine (λ u. Nothing tree)

  pub tree_parses : (nodes : ℕ) → Parses (TreeOf nodes) (tree_at stock nodes)
  unfolding tree_at
  tree_parses nodes =
      as_parses (Then (NodesOf nodes) EndBehind) (TreeOf nodes) (tree_at stock nodes) to from
      (seq_parses (NodesOf nodes) EndBehind (nodes_at stock nodes) (λ tree rest. then_got (line_at (is_text (codes "end")) rest) (λ u rest. Ok (tree, rest)))
      (nodes_parses nodes)
      (λ tree g are. seq_parses EndLine (λ u. Nothing tree) (line_at (is_text (codes "end"))) (λ u rest. Ok (tree, rest))
      (line_parses (λ (u : Unit {0}). ⊤) (λ u. codes "end") (is_text (codes "end")) (text_spells (codes "end") refl))
      (λ u h is. nothing_parses tree))) where
        to : (tree : List Node) (f : Lines) → Then (NodesOf nodes) EndBehind tree f → TreeOf nodes tree f
        to tree f (own, two, three, cut_too, are, (u, four, five, cut_last, last, none)) =
            subst (λ (t : List Node). TreeOf nodes t f) (sym none.0) (record {
              many = are.many;
              fits = are.fits;
              text = cut_too ∙ ap (λ l. l ++ three) (are.text ∙ numbered-nodes 0 own)
                  ∙ ap (λ l. map node_line own ++ l) (cut_last ∙ ap (λ l. l ++ five) last.1 ∙ ap (λ l. codes "end" ∷ l) none.1);
            })

        from : (tree : List Node) (f : Lines) → TreeOf nodes tree f → Then (NodesOf nodes) EndBehind tree f
        from tree f is =
            let end = codes "end" ∷ [] in
            (tree, map node_line tree, end, is.text, record { many = is.many; fits = is.fits; text = sym (numbered-nodes 0 tree) }, (tt, end, [], refl, (tt, refl), (refl, refl)))

  abbrev TreeBehind : Opening → Report → Lines → Type 0
  TreeBehind o = Then (TreeOf o.nodes) (λ tree. Nothing (report_of stock job o tree))

  answer_is : (a : Answer) (o : Opening) → o.answer ≡ a → KindFits (kind_of a) o → FitsAnswer a → IsAnswer stock a o.best
  answer_is answer.Least o e fits is = λ none. (let n : ◌≡◌ {A = Option Best} None (Some fits.0) = sym none ∙ fits.1 in cc)
  answer_is answer.NoneMeets o e fits is = fits
  answer_is answer.OpenBudget o e fits is = tt
  answer_is (answer.OpenStraddle near) o e fits is = is

  answer_fits_of : (a : Answer) (best : Option Best) → IsAnswer stock a best → FitsAnswer a
  answer_fits_of answer.Least best is = tt
  answer_fits_of answer.NoneMeets best is = tt
  answer_fits_of answer.OpenBudget best is = tt
  answer_fits_of (answer.OpenStraddle near) best is = is

  kind_fits_of : (a : Answer) (o : Opening) → IsAnswer stock a o.best → KindFits (kind_of a) o
  kind_fits_of answer.Least o is = by o.best refl where
    by : (b : Option Best) → o.best ≡ b → HasBest o
    by (Some b) e = (b, e)
    by None e = absurd (is e)
  kind_fits_of answer.NoneMeets o is = is
  kind_fits_of answer.OpenBudget o is = tt
  kind_fits_of (answer.OpenStraddle near) o is = tt

  pub report_parses : Parses ReportOf (report_at stock job)
  unfolding report_at
  report_parses =
      as_parses (Then OpeningOf TreeBehind) ReportOf (report_at stock job) to from
      (seq_parses OpeningOf TreeBehind (opening_at stock job)
      (λ o rest. then_got (tree_at stock o.nodes rest) (λ tree rest. Ok (report_of stock job o tree, rest)))
      opening_parses
      (λ o f is. seq_parses (TreeOf o.nodes) (λ tree. Nothing (report_of stock job o tree)) (tree_at stock o.nodes) (λ tree rest. Ok (report_of stock job o tree, rest))
      (tree_parses o.nodes) (λ tree g are. nothing_parses (report_of stock job o tree)))) where
        to : (r : Report) (f : Lines) → Then OpeningOf TreeBehind r f → ReportOf r f
        to r f (o, one, other, cut, is, (tree, two, three, cut_too, are, none)) =
            let count = are.many in
            let some = is.some in let most = is.most in
            subst (λ (x : Report). ReportOf x f) (sym none.0) (
              record {
                some = is.some_budget;
                most = is.most_budget;
                answer = answer_is o.answer o refl is.behind is.answer_fits;
                block = is.block;
                some_nodes = omega (arith, count, some);
                few_nodes = omega (arith, count, most);
                nodes = All-from_recursion (IsNode (length stock)) tree are.fits;
              },
              cut ∙ ap (λ l. l ++ other) is.text ∙ ap (λ l. codes "laminate report 1" ∷ number_line (codes "budget") o.budget ∷ answer_line o.answer ∷ l)
                  (append_assoc (best_lines stock job o.best o.ratios o.panels) (near_lines stock o.answer ++ number_line (codes "nodes") o.nodes ∷ []) other
                  ∙ ap (λ l. best_lines stock job o.best o.ratios o.panels ++ l) (append_assoc (near_lines stock o.answer) (number_line (codes "nodes") o.nodes ∷ []) other
                  ∙ ap (λ l. near_lines stock o.answer ++ l) (ap (λ n. number_line (codes "nodes") n ∷ other) (sym count)
                  ∙ ap (λ l. number_line (codes "nodes") (length tree) ∷ l) (cut_too ∙ ap (λ l. two ++ l) none.1 ∙ append-nil two ∙ are.text)))),
            )

        from : (r : Report) (f : Lines) → ReportOf r f → Then OpeningOf TreeBehind r f
        from r f (is, text) =
            let o : Opening = record { budget = r.budget; answer = r.answer; best = r.best; ratios = r.ratios; panels = r.panels; nodes = length r.tree } in
            let best = best_lines stock job r.best r.ratios r.panels in
            let near = near_lines stock r.answer in
            let count = number_line (codes "nodes") (length r.tree) in
            let lines = map node_line r.tree ++ codes "end" ∷ [] in (
              o,
              codes "laminate report 1" ∷ number_line (codes "budget") r.budget ∷ answer_line r.answer ∷ (best ++ (near ++ count ∷ [])),
              lines,
              text ∙ ap (λ l. codes "laminate report 1" ∷ number_line (codes "budget") r.budget ∷ answer_line r.answer ∷ l)
                  (sym (append_assoc best (near ++ count ∷ []) lines ∙ ap (λ l. best ++ l) (append_assoc near (count ∷ []) lines))),
              record {
                some_budget = is.some;
                most_budget = is.most;
                behind = kind_fits_of r.answer o is.answer;
                answer_fits = answer_fits_of r.answer r.best is.answer;
                block = is.block;
                some = is.some_nodes;
                most = is.few_nodes;
                text = refl;
              },
              (r.tree, lines, [], sym (append-nil lines), record { many = refl; fits = from_all (IsNode (length stock)) r.tree is.nodes; text = refl }, (refl, refl)),
            )
