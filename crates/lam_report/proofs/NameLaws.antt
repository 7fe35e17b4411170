-- The names of plies are read as those plies, and the near line as what it says.
use Rattle.std.proofs.Common.{◌≡◌, ◌∙◌, refl, sym, ap, subst, ℕ, suc, ◌<◌, ◌≤◌, nat_le, Bool, true, false, List, [], ◌∷◌, ◌++◌, length, get_or, Option, Some, None, IsTrue, lit<, lit≤, arith}
use Rattle.std.specs.Prelude.{◌&&◌, if◌then◌else◌, codes, decimal, map, slice_get}
use Rattle.std.specs.List.{AllByRecursion}
use Rattle.std.proofs.lemmas.Bool.Decides.{nat_tests}
use Rattle.std.proofs.lemmas.List.Elements.{All-from_recursion, All-head, All-tail, All-get_or}
use Rattle.std.proofs.lemmas.List.{append-nil}
use Rattle.std.proofs.lemmas.List.Quantifiers.{position-Some}
use Rattle.std.proofs.lemmas.Option.{same_Some, slice_get-get_or}
use Rattle.std.proofs.lemmas.Slice.Eq.{bytes_eq-Decides}
use Rattle.lam_stock.specs.declared.item.Item.{Item}
use Rattle.lam_stock.specs.declared.item.ItemNo.{ItemNo}
use Rattle.lam_stock.specs.Field.{is_name}
use Rattle.lam_stock.specs.Likeness.{has_name, place_of}
use Rattle.lam_stock.specs.Stock.{HaveNames, IsKnown}
use Rattle.lam_stock.proofs.Names.{place-own, name-plain}
use Rattle.lam_stock.proofs.NumberLaws.{decimal_word}
use Rattle.lam_stock.proofs.Truth.{both-true}
use Rattle.lam_job.specs.declared.limits.TheConstants.{MOST_PLIES}
use Rattle.lam_tree.specs.declared.limits.TheConstants.{MOST_COST}
use Rattle.lam_tree.specs.declared.node.Node.{Node}
use Rattle.lam_tree.specs.declared.node.Seat.{Seat}
use Rattle.lam_tree.specs.declared.node.Seat.TheVariants as seat
use Rattle.lam_tree.specs.declared.node.Word.TheVariants as word
use Rattle.lam_tree.specs.declared.spot.Spot.{Spot}
use Rattle.lam_tree.specs.declared.spot.Spot.TheVariants as spot
use Rattle.lam_tree.specs.Lines.{line_of, node_line, ordinal, seat_words, spot_words, word_words}
use Rattle.lam_tree.specs.ReportRanges.{AreListed, IsNode, IsSpot}
use Rattle.lam_tree.specs.inside.Cut.{Words}
use Rattle.lam_tree.specs.inside.LineReading.{then_read, number_at, spot_at, node_of}
use Rattle.lam_tree.proofs.WordLaws.{is_word}
use Rattle.lam_tree.proofs.NodeLaws.{then_takes, then_again, same_read, number_takes, number_again, spot_takes, spot_again, spot_are_words, line_takes, line_of_node_again, node_are_words}
use Rattle.lam_report.specs.ReportText.{name_of, names_line}
use Rattle.lam_report.specs.inside.HeadReading.{before, item_of, items_of, listed_of, near_in, names_in, number_of_place, then_listed, words_behind}
use Rattle.lam_report.proofs.CutLaws.{is_line}
use Rattle.lam_report.proofs.Parsing.{Spells}
use Rattle.lam_report.proofs.SpellLaws.{keyed_spells, behind_takes, behind_again, words_line}

-- ---- one name

place_takes : (o : Option ℕ) (item : ItemNo) → number_of_place o ≡ Some item → o ≡ Some item.0
place_takes None item e = absurd (let n : ◌≡◌ {A = Option ItemNo} None (Some item) = e in cc)
place_takes (Some k) item e = ap (λ (i : ItemNo). Some i.0) (same_Some (record { 0 = k }) item e)

module _ (stock : List Item) where
  name_is : (item : ItemNo) (d : Item) → item.0 < length stock → name_of stock item ≡ (get_or stock item.0 d).name
  name_is item d less = ap (λ (o : Option Item). elim o [ None ↦ [] | Some i ↦ i.name ]) (slice_get-get_or stock item.0 d less)

  item_takes : (w : List ℕ) (item : ItemNo) → item_of stock w ≡ Some item → (w ≡ name_of stock item) × (item.0 < length stock)
  item_takes w item e = at stock refl (place_takes (place_of w stock) item e) where
    at : (xs : List Item) → xs ≡ stock → place_of w stock ≡ Some item.0 → (w ≡ name_of stock item) × (item.0 < length stock)
    at [] same place = absurd (let n : ◌≡◌ {A = Option ℕ} None (Some item.0) = ap (place_of w) same ∙ place in cc)
    at (d ∷ xs) same place =
        let found = position-Some (has_name w) stock item.0 d place in
        let named : has_name w (get_or stock item.0 d) ≡ true = found.1 in
        let text : (get_or stock item.0 d).name ≡ w = grind (arith, bytes_eq-Decides (get_or stock item.0 d).name w) in
        (sym text ∙ sym (name_is item d found.0), found.0)

  none_within : (xs : List Item) (k : ℕ) → slice_get xs k ≡ None → k < length xs → ⊥
  none_within [] k at less = omega (arith, less)
  none_within (x ∷ xs) k at less =
      let some = slice_get-get_or (x ∷ xs) k x less in
      let n : ◌≡◌ {A = Option Item} None (Some (get_or (x ∷ xs) k x)) = sym at ∙ some in cc

  item_again : (item : ItemNo) → HaveNames stock → item.0 < length stock → item_of stock (name_of stock item) ≡ Some item
  item_again item names less = by (slice_get stock item.0) refl less where
    by : (o : Option Item) → slice_get stock item.0 ≡ o → item.0 < length stock → item_of stock (name_of stock item) ≡ Some item
    by (Some i) at less =
        ap (λ (p : Option Item). item_of stock (elim p [ None ↦ [] | Some j ↦ j.name ])) at ∙ ap number_of_place (place-own stock item.0 i names at)
    by None at less = absurd (none_within stock item.0 at less)

  -- ---- names

  items_takes : (words : Words) (plies : List ItemNo) → items_of stock words ≡ Some plies
      → (words ≡ map (name_of stock) plies) × AllByRecursion (λ (p : ItemNo). p.0 < length stock) plies × (length plies ≡ length words)
  items_takes [] plies e = let same : [] ≡ plies = same_Some [] plies e in
      subst (λ (ps : List ItemNo). ([] ≡ map (name_of stock) ps) × AllByRecursion (λ (p : ItemNo). p.0 < length stock) ps × (length ps ≡ 0)) same (refl, tt, refl)
  items_takes (w ∷ words) plies e = by (item_of stock w) refl (items_of stock words) refl e (items_takes words) where
    by : (o : Option ItemNo) → item_of stock w ≡ o → (rest : Option (List ItemNo)) → items_of stock words ≡ rest → before o rest ≡ Some plies
        → ((ps : List ItemNo) → items_of stock words ≡ Some ps
        → (words ≡ map (name_of stock) ps) × AllByRecursion (λ (p : ItemNo). p.0 < length stock) ps × (length ps ≡ length words))
        → (w ∷ words ≡ map (name_of stock) plies) × AllByRecursion (λ (p : ItemNo). p.0 < length stock) plies × (length plies ≡ suc (length words))
    by (Some item) h (Some ps) h_too e later =
        let own = item_takes w item h in
        let more = later ps h_too in
        subst (λ (qs : List ItemNo). (w ∷ words ≡ map (name_of stock) qs) × AllByRecursion (λ (p : ItemNo). p.0 < length stock) qs × (length qs ≡ suc (length words)))
        (same_Some (item ∷ ps) plies e)
        (ap (λ v. v ∷ words) own.0 ∙ ap (λ vs. name_of stock item ∷ vs) more.0, (own.1, more.1), ap suc more.2)
    by (Some item) h None h_too e later = absurd (let n : ◌≡◌ {A = Option (List ItemNo)} None (Some plies) = e in cc)
    by None h rest h_too e later = absurd (let n : ◌≡◌ {A = Option (List ItemNo)} None (Some plies) = e in cc)

  items_again : (plies : List ItemNo) → HaveNames stock → AllByRecursion (λ (p : ItemNo). p.0 < length stock) plies → items_of stock (map (name_of stock) plies) ≡ Some plies
  items_again [] names known = refl
  items_again (p ∷ plies) names known =
      ap (λ o. before o (items_of stock (map (name_of stock) plies))) (item_again p names known.0) ∙ ap (before (Some p)) (items_again plies names known.1)

  -- each name is a word
  name_word : (item : ItemNo) → HaveNames stock → item.0 < length stock → is_word (name_of stock item) ≡ true
  name_word item names less = by stock refl less where
    by : (xs : List Item) → xs ≡ stock → item.0 < length stock → is_word (name_of stock item) ≡ true
    by [] e less = let n = ap length e in absurd (omega (arith, n, less))
    by (x ∷ xs) e less =
        let valid = All-get_or (λ (i : Item). IsTrue (is_name i.name)) stock item.0 x less names.valid in
        ap is_word (name_is item x less) ∙ name-plain (get_or stock item.0 x).name valid

  names_words : (plies : List ItemNo) → HaveNames stock → AllByRecursion (λ (p : ItemNo). p.0 < length stock) plies → AllByRecursion (λ v. is_word v ≡ true) (map (name_of stock) plies)
  names_words [] names known = tt
  names_words (p ∷ plies) names known = (name_word p names known.0, names_words plies names known.1)

  length-names : (plies : List ItemNo) → length (map (name_of stock) plies) ≡ length plies
  length-names [] = refl
  length-names (p ∷ plies) = ap suc (length-names plies)

  to_recursion : (plies : List ItemNo) → IsKnown stock plies → AllByRecursion (λ (p : ItemNo). p.0 < length stock) plies
  to_recursion [] known = tt
  to_recursion (p ∷ plies) known =
      (All-head (λ (q : ItemNo). q.0 < length stock) p plies known, to_recursion plies (All-tail (λ (q : ItemNo). q.0 < length stock) p plies known))

  -- ---- the line of names

  listed_takes : (words : Words) (plies : List ItemNo) → listed_of stock words ≡ Some plies → (1 ≤ length words) × (length words ≤ MOST_PLIES) × (items_of stock words ≡ Some plies)
  unfolding listed_of
  listed_takes words plies e = case (nat_le 1 (length words) && nat_le (length words) MOST_PLIES) refl e where
    case : (t : Bool) → (nat_le 1 (length words) && nat_le (length words) MOST_PLIES) ≡ t → (if t then items_of stock words else None) ≡ Some plies
        → (1 ≤ length words) × (length words ≤ MOST_PLIES) × (items_of stock words ≡ Some plies)
    case true h e =
        let parts = both-true (nat_le 1 (length words)) (nat_le (length words) MOST_PLIES) h in
        let a : nat_le 1 (length words) ≡ true = parts.0 in
        let b : nat_le (length words) MOST_PLIES ≡ true = parts.1 in
        (grind (arith, nat_tests), grind (arith, nat_tests), e)
    case false h e = absurd (let n : ◌≡◌ {A = Option (List ItemNo)} None (Some plies) = e in cc)

  -- what is read is 1 to 56 plies of the catalogue
  pub listed_range : (words : Words) (plies : List ItemNo) → listed_of stock words ≡ Some plies → AreListed stock plies
  listed_range words plies e =
      let range = listed_takes words plies e in
      let took = items_takes words plies range.2 in
      let low = range.0 in let high = range.1 in let count = took.2 in
      record { some = omega (arith, low, count); few = omega (arith, high, count); known = All-from_recursion (λ (p : ItemNo). p.0 < length stock) plies took.1 }

  pub names_spells : (word : List ℕ) → is_word word ≡ true → HaveNames stock → 1 ≤ length stock → Spells (AreListed stock) (names_line word stock) (names_in word stock)
  unfolding names_in listed_of
  names_spells word own names some = record {
    takes = λ line plies e. by line plies (words_behind word line) refl e;
    again = λ plies is. (
        let known = to_recursion plies is.known in
        let count = length-names plies in
        let low = is.some in let high = is.few in
        let a : nat_le 1 (length (map (name_of stock) plies)) ≡ true = grind (arith, nat_tests) in
        let b : nat_le (length (map (name_of stock) plies)) MOST_PLIES ≡ true = grind (arith, nat_tests) in
        ap (then_listed stock) (behind_again word (map (name_of stock) plies) (own, names_words plies names known))
        ∙ rw (a, b) (items_again plies names known)
        );
    alive = (
      (record { 0 = 0 }) ∷ [],
      record {
        some = lit≤ tt;
        few = lit≤ tt;
        known = All-from_recursion (λ (p : ItemNo). p.0 < length stock) ((record { 0 = 0 }) ∷ []) (omega (arith, some), tt);
      },
    );
    line = λ plies is. words_line word (map (name_of stock) plies) (own, names_words plies names (to_recursion plies is.known));
  } where
    by : (line : List ℕ) (plies : List ItemNo) (o : Option Words) → words_behind word line ≡ o → then_listed stock o ≡ Some plies → AreListed stock plies × (line ≡ names_line word stock plies)
    by line plies None h e = absurd (let n : ◌≡◌ {A = Option (List ItemNo)} None (Some plies) = e in cc)
    by line plies (Some words) h e =
        let took = items_takes words plies (listed_takes words plies e).2 in
        (listed_range words plies e, behind_takes word line words h ∙ ap (λ ws. line_of (word ∷ ws)) took.0)

-- ---- the near line

pub near_spells : Spells (λ (near : ℕ × Spot). (near.0 ≤ MOST_COST) × IsSpot near.1) (λ near. line_of (codes "near" ∷ decimal near.0 ∷ spot_words near.1)) near_in
unfolding near_in
near_spells =
    keyed_spells (codes "near") (λ (near : ℕ × Spot). (near.0 ≤ MOST_COST) × IsSpot near.1) (λ near. decimal near.0 ∷ spot_words near.1)
    (λ words. then_read (number_at 0 MOST_COST words) (λ cost rest. then_read (spot_at rest) (λ at rest. Some ((cost, at), rest)))) refl (record {
      takes = λ ws near rest e. (
          let a = then_takes (number_at 0 MOST_COST ws) (λ cost left. then_read (spot_at left) (λ at left. Some ((cost, at), left))) (near, rest) e in
          let b = then_takes (spot_at a.1) (λ at left. Some ((a.0, at), left)) (near, rest) a.3 in
          let cost = number_takes 0 MOST_COST ws a.0 a.1 a.2 in
          let at = spot_takes a.1 b.0 b.1 b.2 in
          let same = same_read (a.0, b.0) near b.1 rest b.3 in
          subst (λ (n : ℕ × Spot). ((n.0 ≤ MOST_COST) × IsSpot n.1) × (ws ≡ decimal n.0 ∷ (spot_words n.1 ++ rest))) same.0
          ((cost.2, at.1), cost.0 ∙ ap (λ t. decimal a.0 ∷ t) (at.0 ∙ ap (λ t. spot_words b.0 ++ t) same.1))
          );
      again = λ near rest is. (
          let most = is.0 in
          then_again (number_at 0 MOST_COST (decimal near.0 ∷ (spot_words near.1 ++ rest))) (λ cost left. then_read (spot_at left) (λ at left. Some ((cost, at), left))) near.0 (spot_words near.1 ++ rest)
          (number_again 0 MOST_COST near.0 (spot_words near.1 ++ rest) (omega arith) most (omega (arith, most)))
          ∙ then_again (spot_at (spot_words near.1 ++ rest)) (λ at left. Some ((near.0, at), left)) near.1 rest (spot_again near.1 rest is.1)
          );
      are = λ near is. (let most = is.0 in (decimal_word near.0 (omega (arith, most)), subst (AllByRecursion (λ v. is_word v ≡ true)) (append-nil (spot_words near.1)) (spot_are_words near.1 [] is.1 tt)));
      alive = ((0, spot.Panel 0), (lit≤ tt, lit< tt));
    })

-- ---- the lines of nodes

pub node_spells : (items : ℕ) → items < 256 → Spells (IsNode items) node_line (node_of items)
node_spells items few = record {
  takes = λ line node e. (let took = line_takes items line node e in (took.1, took.0));
  again = λ node is. line_of_node_again items node few is;
  alive = (record { seat = seat.Length 1; word = word.Split }, record { seat = (lit≤ tt, lit≤ tt); word = tt });
  line = λ node is. by node (node_are_words items node few is);
} where
  by : (node : Node) → AllByRecursion (λ v. is_word v ≡ true) (seat_words node.seat ++ word_words node.word) → is_line (node_line node) ≡ true
  by node are = case node.seat are where
    case : (at : Seat) → AllByRecursion (λ v. is_word v ≡ true) (seat_words at ++ word_words node.word) → is_line (line_of (seat_words at ++ word_words node.word)) ≡ true
    case (seat.Length n) are = words_line (codes "length") (decimal n ∷ word_words node.word) are
    case (seat.Item i) are = words_line (codes "item") (ordinal i.0 ∷ word_words node.word) are
