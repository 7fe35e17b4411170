-- Loops that read a list by parts.
use Rattle.std.proofs.Common.{◌≡◌, ◌∙◌, refl, sym, ap, ℕ, suc, ◌+◌, ◌-◌, ◌<◌, ◌≤◌, nat_le, Bool, true, false, List, [], ◌∷◌, ◌++◌, length, Option, Some, None, Ok, Err, append_assoc, length-append, arith}
use Rattle.std.specs.Prelude.{◌&&◌, if◌then◌else◌}
use Rattle.std.specs.Option.{option_map}
use Rattle.std.proofs.lemmas.List.{append-nil}
use Rattle.std.proofs.lemmas.Bool.Decides.{nat_tests}
use Rattle.lam_stock.specs.Likeness.{place_of}
use Rattle.lam_stock.specs.declared.item.Item.{Item}
use Rattle.lam_stock.specs.declared.item.ItemNo.{ItemNo}
use Rattle.lam_job.specs.declared.limits.TheConstants.{MOST_PLIES}
use Rattle.lam_tree.specs.inside.Cut.{Words, is_empty}
use Rattle.lam_report.specs.inside.HeadReading.{before, item_of, items_of, listed_of, number_of_place}
use Rattle.lam_report.specs.inside.Reading.{Lines, Got, then_got, line_at, listed_at}

-- ---- lines

-- what was read before stands in front
abbrev pub with_front : {X : Type 0} → List X → Got (List X) → Got (List X)
with_front front (Ok (xs, rest)) = Ok (front ++ xs, rest)
with_front front (Err left) = Err left

pub none_in_front : {X : Type 0} (got : Got (List X)) → with_front [] got ≡ got
none_in_front (Ok (xs, rest)) = refl
none_in_front (Err left) = refl

module _ {X : Type 0} (read : ℕ → List ℕ → Option X) where
  pub list_step : (front : List X) (i n : ℕ) (ls : Lines) (x : X) (rest : Lines) → line_at (read i) ls ≡ Ok (x, rest)
      → with_front front (listed_at read i (suc n) ls) ≡ with_front (front ++ x ∷ []) (listed_at read (suc i) n rest)
  list_step front i n ls x rest e =
      ap (λ got. with_front front (then_got got (λ y later. then_got (listed_at read (suc i) n later) (λ ys last. Ok (y ∷ ys, last))))) e
      ∙ by (listed_at read (suc i) n rest) where
        by : (got : Got (List X)) → with_front front (then_got got (λ ys last. Ok (x ∷ ys, last))) ≡ with_front (front ++ x ∷ []) got
        by (Ok (ys, last)) = ap (λ l. Ok (l, last)) (sym (append_assoc front (x ∷ []) ys))
        by (Err left) = refl

  pub list_fail : (front : List X) (i n : ℕ) (ls left : Lines) → line_at (read i) ls ≡ Err left → with_front front (listed_at read i (suc n) ls) ≡ Err left
  list_fail front i n ls left e =
      ap (λ got. with_front front (then_got got (λ y later. then_got (listed_at read (suc i) n later) (λ ys last. Ok (y ∷ ys, last))))) e

  -- so many are read
  pub record SoFar (count i : ℕ) (front : List X) (now old : Lines) : Type 0 where
    pub whole : with_front front (listed_at read i (count - i) now) ≡ listed_at read 0 count old

  pub begins : (count : ℕ) (ls : Lines) → SoFar count 0 [] ls ls
  begins count ls = let all : count - 0 ≡ count = omega arith in record { whole = none_in_front (listed_at read 0 (count - 0) ls) ∙ ap (λ n. listed_at read 0 n ls) all }

  pub goes_on : (count i : ℕ) (front : List X) (now old rest : Lines) (x : X) → i < count → SoFar count i front now old → line_at (read i) now ≡ Ok (x, rest)
      → SoFar count (i + 1) (front ++ x ∷ []) rest old
  goes_on count i front now old rest x less so_far e =
      let left : count - i ≡ suc (count - (i + 1)) = omega (arith, less) in
      let next : suc i ≡ i + 1 = omega arith in
      record {
        whole =
            ap (λ k. with_front (front ++ x ∷ []) (listed_at read k (count - (i + 1)) rest)) (sym next)
            ∙ sym (list_step front i (count - (i + 1)) now x rest e) ∙ ap (λ n. with_front front (listed_at read i n now)) (sym left) ∙ so_far.whole;
      }

  pub stops : (count i : ℕ) (front : List X) (now old left : Lines) → i < count → SoFar count i front now old → line_at (read i) now ≡ Err left
      → listed_at read 0 count old ≡ Err left
  stops count i front now old left less so_far e =
      let more : count - i ≡ suc (count - (i + 1)) = omega (arith, less) in
      sym so_far.whole ∙ ap (λ n. with_front front (listed_at read i n now)) more ∙ list_fail front i (count - (i + 1)) now left e

  pub is_whole : (count i : ℕ) (front : List X) (now old : Lines) → count ≤ i → SoFar count i front now old → listed_at read 0 count old ≡ Ok (front, now)
  is_whole count i front now old end so_far =
      let none : count - i ≡ 0 = omega (arith, end) in
      sym so_far.whole ∙ ap (λ n. with_front front (listed_at read i n now)) none ∙ ap (λ l. Ok (l, now)) (append-nil front)

-- ---- names

abbrev pub with_plies : List ItemNo → Option (List ItemNo) → Option (List ItemNo)
with_plies front None = None
with_plies front (Some plies) = Some (front ++ plies)

pub name_found : (stock : List Item) (name : List ℕ) (o : Option ItemNo) → option_map (λ no. no.0) o ≡ place_of name stock → item_of stock name ≡ o
name_found stock name o e = ap number_of_place (sym e) ∙ by o where
  by : (o : Option ItemNo) → number_of_place (option_map (λ no. no.0) o) ≡ o
  by None = refl
  by (Some item) = refl

module _ (stock : List Item) where
  pub names_more : (front : List ItemNo) (w : List ℕ) (words : Words) (item : ItemNo) → item_of stock w ≡ Some item
      → with_plies front (items_of stock (w ∷ words)) ≡ with_plies (front ++ item ∷ []) (items_of stock words)
  names_more front w words item e = ap (λ o. with_plies front (before o (items_of stock words))) e ∙ by (items_of stock words) where
    by : (o : Option (List ItemNo)) → with_plies front (before (Some item) o) ≡ with_plies (front ++ item ∷ []) o
    by None = refl
    by (Some plies) = ap (λ l. Some l) (sym (append_assoc front (item ∷ []) plies))

  pub names_fail : (front : List ItemNo) (w : List ℕ) (words : Words) → item_of stock w ≡ None → with_plies front (items_of stock (w ∷ words)) ≡ None
  names_fail front w words e = ap (λ o. with_plies front (before o (items_of stock words))) e

  -- so many names are read
  pub record Filled (front : List ItemNo) (now old : Words) : Type 0 where
    pub plies : with_plies front (items_of stock now) ≡ items_of stock old
    pub long : length old ≡ length front + length now

  pub fill_begins : (words : Words) → Filled [] words words
  fill_begins words = record { plies = by (items_of stock words); long = omega arith } where
    by : (o : Option (List ItemNo)) → with_plies [] o ≡ o
    by None = refl
    by (Some plies) = refl

  pub fill_goes_on : (front : List ItemNo) (now old rest : Words) (w : List ℕ) (item : ItemNo) → Filled front now old → now ≡ w ∷ rest → item_of stock w ≡ Some item
      → Filled (front ++ item ∷ []) rest old
  fill_goes_on front now old rest w item is cut e =
      let long = is.long in
      let own = ap length cut in
      record {
        plies = sym (names_more front w rest item e) ∙ ap (λ ws. with_plies front (items_of stock ws)) (sym cut) ∙ is.plies;
        long = let more = length-append front (item ∷ []) in omega (arith, long, own, more);
      }

  listed_well : (words : Words) → 1 ≤ length words → length words ≤ MOST_PLIES → listed_of stock words ≡ items_of stock words
  unfolding listed_of
  listed_well words some few =
      let a : nat_le 1 (length words) ≡ true = grind (arith, nat_tests) in
      let b : nat_le (length words) MOST_PLIES ≡ true = grind (arith, nat_tests) in
      rw (a, b) refl

  listed_none : (words : Words) → items_of stock words ≡ None → listed_of stock words ≡ None
  unfolding listed_of
  listed_none words e = by (nat_le 1 (length words) && nat_le (length words) MOST_PLIES) where
    by : (t : Bool) → (if t then items_of stock words else None) ≡ None
    by true = e
    by false = refl

  pub fill_fails : (front : List ItemNo) (now old rest : Words) (w : List ℕ) → Filled front now old → now ≡ w ∷ rest → item_of stock w ≡ None → listed_of stock old ≡ None
  fill_fails front now old rest w is cut e =
      listed_none old (sym is.plies ∙ ap (λ ws. with_plies front (items_of stock ws)) cut ∙ names_fail front w rest e)

  pub fill_ends : (front : List ItemNo) (now old : Words) → Filled front now old → now ≡ [] → 1 ≤ length front → length front ≤ MOST_PLIES → listed_of stock old ≡ Some front
  fill_ends front now old is end some few =
      let long = is.long in
      let none = ap length end in
      listed_well old (omega (arith, long, some)) (omega (arith, long, none, few))
      ∙ sym is.plies ∙ ap (λ ws. with_plies front (items_of stock ws)) end ∙ ap (λ l. Some l) (append-nil front)

  -- none, or too many
  pub fill_none : (front : List ItemNo) (now old : Words) → Filled front now old → now ≡ [] → front ≡ [] → listed_of stock old ≡ None
  unfolding listed_of
  fill_none front now old is end none =
      let long = is.long in
      let one = ap length end in
      let two = ap length none in
      let a : nat_le 1 (length old) ≡ false = grind (arith, nat_tests) in
      rw a refl

  pub fill_many : (front : List ItemNo) (now old : Words) (w : List ℕ) (rest : Words) → Filled front now old → now ≡ w ∷ rest → MOST_PLIES ≤ length front → listed_of stock old ≡ None
  unfolding listed_of
  fill_many front now old w rest is more full =
      let long = is.long in
      let one = ap length more in
      let b : nat_le (length old) MOST_PLIES ≡ false = grind (arith, nat_tests) in
      by (nat_le 1 (length old)) b where
        by : (t : Bool) → nat_le (length old) MOST_PLIES ≡ false → (if t && nat_le (length old) MOST_PLIES then items_of stock old else None) ≡ None
        by true b = ap (λ (u : Bool). if u then items_of stock old else None) b
        by false b = refl

-- ---- whether a word is left

pub no_word : (words : Words) → is_empty words ≡ true → words ≡ []
no_word [] e = refl
no_word (w ∷ words) e = absurd (let n : false ≡ true = e in cc)

pub some_word : (words : Words) → is_empty words ≡ false → (w : List ℕ) × (rest : Words) × (words ≡ w ∷ rest)
some_word [] e = absurd (let n : true ≡ false = e in cc)
some_word (w ∷ words) e = (w, words, refl)

pub no_plies : (plies : List ItemNo) → length plies ≡ 0 → plies ≡ []
no_plies [] e = refl
no_plies (p ∷ plies) e = absurd (omega (arith, e))
