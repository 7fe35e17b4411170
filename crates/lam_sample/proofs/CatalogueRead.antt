-- The text of a sample's catalogue is read as that catalogue.
use Rattle.std.proofs.Common.{◌≡◌, ◌<◌, ◌≤◌, ◌+◌, ℕ, zero, suc, Bool, true, false, ◌||◌, List, [], ◌∷◌, ◌++◌, length, Some, Result, Ok, Err, ℤ, pos, int_le, ◌≤ℤ◌, ◌*ℤ◌, codes, refl, sym, ap, subst, ◌∙◌, arith, rules}
use Rattle.std.specs.Prelude.{IsTrue, drop, IfOk, String, string_bytes}
use Rattle.std.specs.declared.alloc.AllocError.{AllocError}
use Rattle.std.specs.declared.alloc.Global.{Global}
use Rattle.std.specs.Fmt.{decimal}
use Rattle.std.specs.List.{list_all, list_any}
use Rattle.std.proofs.lemmas.Fmt.{decimal_injective}
use Rattle.std.proofs.lemmas.List.{append_assoc, append-nil}
use Rattle.std.proofs.lemmas.List.Elements.{All-nil}
use Rattle.std.proofs.lemmas.Slice.Eq.{bytes_eq-Decides}
use Rattle.csv.specs.Reading.{default_config, records, strip_bom}
use Rattle.csv.specs.declared.parser.State.TheVariants as st
use Rattle.lam_stock.proofs.Meaning.{more-items, no-more-items, under-header}
use Rattle.lam_stock.proofs.Names.{item-names}
use Rattle.lam_stock.specs.Stock.{HaveNames}
use Rattle.lam_stock.proofs.Truth.{both-true}
use Rattle.lam_stock.specs.Field.{is_name, is_name_byte}
use Rattle.lam_stock.specs.Catalogue.{Fields, column_names, columns_of, ended, item_of, items_read, stock_of}
use Rattle.lam_stock.specs.Likeness.{has_name}
use Rattle.lam_stock.specs.Scale.{scale_of}
use Rattle.lam_stock.specs.declared.item.Item.{Item}
use Rattle.lam_stock.specs.inside.Rows.{rows_from}
use Rattle.lam_sample.proofs.Fields.{AllPlain, columns_plain, line_read, nothing_read, word_plain}
use Rattle.lam_sample.proofs.Kept.{scale_spread}
use Rattle.lam_sample.proofs.StockRead.{drawn_within, fields_plain, item_read}
use Rattle.lam_sample.specs.Draws.{steps}
use Rattle.lam_sample.specs.SampleStock.{drawn_after, items_after, sample_item, sample_stock}
use Rattle.lam_sample.specs.declared.items.Drawn.{Drawn}
use Rattle.lam_sample.specs.inside.CatalogueText.{fields_of, lines_after, stock_text}

-- ---- the records

-- the records of so many items
rows_after : ℕ → ℕ → ℕ → List Fields
rows_after zero k x = []
rows_after (suc more) k x = fields_of k (drawn_after x) ∷ rows_after more (k + 1) (steps 11 x)

rows_read : (more k x : ℕ) → k + more ≤ 10 → rows_from st.StartRecord (Some (lines_after more k x)) ≡ rows_after more k x
unfolding lines_after rows_after
rows_read zero k x few = nothing_read
rows_read (suc more) k x few =
    line_read (codes "i" ++ decimal k) (codes "pair") (drop 2 (fields_of k (drawn_after x))) (lines_after more (k + 1) (steps 11 x))
    (fields_plain k (drawn_after x) (drawn_within x) (omega (arith, few)))
    ∙ ap (λ rows. fields_of k (drawn_after x) ∷ rows) (rows_read more (k + 1) (steps 11 x) (omega (arith, few)))

unmarked : (x : ℕ) → strip_bom (stock_text x) ≡ stock_text x
unfolding stock_text strip_bom
unmarked x = refl

-- ---- the names

not_true : (b : Bool) → (b ≡ true → ⊥) → b ≡ false
not_true true wrong = absurd (wrong refl)
not_true false wrong = refl

-- items of two numbers have two names
apart : (k j : ℕ) (d : Drawn) → k < j → j < 10 → has_name (codes "i" ++ decimal j) (sample_item k d) ≡ false
apart k j d less few = not_true _ (λ t.
    let same : codes "i" ++ decimal k ≡ codes "i" ++ decimal j = (bytes_eq-Decides (codes "i" ++ decimal k) (codes "i" ++ decimal j)).0 t in
    let tails : decimal k ≡ decimal j = ap (drop 1) same in
    let e : k ≡ j = decimal_injective k j (omega (arith, less, few)) (omega (arith, few)) tails in
    absurd (omega (arith, less, e)))

any_last : (test : Item → Bool) (items : List Item) (i : Item) → list_any test items ≡ false → test i ≡ false → list_any test (items ++ i ∷ []) ≡ false
any_last test [] i none last = rw last refl
any_last test (j ∷ items) i none last = by (test j) refl (λ rest. any_last test items i rest last)
  where
    by : (b : Bool) → test j ≡ b → (list_any test items ≡ false → list_any test (items ++ i ∷ []) ≡ false)
        → (test j || list_any test (items ++ i ∷ [])) ≡ false
    by true e more = let wrong : true ≡ false = rw e at none in cc wrong
    by false e more = let rest : list_any test items ≡ false = rw e at none in rw (e, more rest) refl

-- no item has a name of a number from k on
abbrev Before : ℕ → List Item → Type 0
Before k items = (j : ℕ) → k ≤ j → j < 10 → list_any (has_name (codes "i" ++ decimal j)) items ≡ false

before_more : (k : ℕ) (d : Drawn) (items : List Item) → Before k items → Before (k + 1) (items ++ sample_item k d ∷ [])
before_more k d items so_far j later few =
    any_last (has_name (codes "i" ++ decimal j)) items (sample_item k d) (so_far j (omega (arith, later)) few) (apart k j d (omega (arith, later)) few)

-- ---- the items

length_last : (items : List Item) (i : Item) → length (items ++ i ∷ []) ≡ length items + 1
length_last [] i = omega arith
length_last (j ∷ items) i = let rest = length_last items i in omega (arith, rest)

-- what the records left are read as after some items, and that each of these has a name of its own
all_read : (more k x : ℕ) (earlier : List Item) → k + more ≤ 10 → length earlier + more ≤ 64 → Before k earlier → HaveNames earlier
    → (items_read earlier (rows_after more k x) ≡ ended (earlier ++ items_after more k x)) × HaveNames (earlier ++ items_after more k x)
unfolding rows_after
all_read zero k x earlier few room names own =
    let all = sym (append-nil earlier) in
    (no-more-items earlier [] refl ∙ ap ended all, subst HaveNames all own)
all_read (suc more) k x earlier few room names own =
    let d = drawn_after x in
    let w = drawn_within x in
    let fields = fields_of k d in
    let i = sample_item k d in
    let small : k < 10 = omega (arith, few) in
    let here : item_of earlier (columns_of fields) ≡ Ok i =
    ap (item_of earlier) (columns_plain fields (fields_plain k d w small))
    ∙ item_read earlier k d w small (omega (arith, room)) (names k (omega arith) small) in
    let longer = length_last earlier i in
    let rest = all_read more (k + 1) (steps 11 x) (earlier ++ i ∷ []) (omega (arith, few)) (omega (arith, room, longer)) (before_more k d earlier names)
    (item-names earlier (columns_of fields) i own (sym here)) in
    let all = append_assoc earlier (i ∷ []) (items_after more (k + 1) (steps 11 x)) in (
      more-items earlier (earlier ++ i ∷ []) (fields ∷ rows_after more (k + 1) (steps 11 x)) (rows_after more (k + 1) (steps 11 x)) fields i refl (sym here) refl
          ∙ rest.0 ∙ ap ended all,
      subst HaveNames all rest.1,
    )

none_named : HaveNames []
none_named = record { valid = All-nil (λ (i : Item). IsTrue (is_name i.name)); own = λ i j d less within. absurd (omega (arith, within)) }

sample_read : (x : ℕ) → (items_read [] (rows_after 6 1 x) ≡ ended (sample_stock x)) × HaveNames (sample_stock x)
sample_read x = all_read 6 1 x [] (omega arith) (omega arith) (λ j later few. refl) none_named

pub sample_names : (x : ℕ) → HaveNames (sample_stock x)
sample_names x = (sample_read x).1

-- ---- the scale

ended_kept : (i : Item) (items : List Item) → int_le (scale_of (i ∷ items)).q0 (pos 512 *ℤ (scale_of (i ∷ items)).floor) ≡ true → ended (i ∷ items) ≡ Ok (i ∷ items)
ended_kept i items h = rw h refl

spread : (q floor : ℤ) → q ≤ℤ (pos 512 *ℤ floor) → int_le q (pos 512 *ℤ floor) ≡ true
spread q floor le = search rules

-- ---- the catalogue

words_plain : (ws : List (List ℕ)) → list_all (λ w. list_all is_name_byte w) ws ≡ true → AllPlain ws
words_plain [] h = tt
words_plain (w ∷ ws) h =
    let both = both-true (list_all is_name_byte w) (list_all (λ v. list_all is_name_byte v) ws) h in (word_plain w both.0, words_plain ws both.1)

text_read : (x : ℕ) → records default_config (stock_text x) ≡ column_names ∷ rows_after 6 1 x
unfolding stock_text
text_read x =
    line_read (codes "name") (codes "kind") (drop 2 column_names) (lines_after 6 1 x) (words_plain column_names refl)
    ∙ ap (λ rows. column_names ∷ rows) (rows_read 6 1 x (omega arith))

pub catalogue_read : (bytes : List ℕ) (x : ℕ) → bytes ≡ stock_text x → stock_of bytes ≡ Ok (sample_stock x)
catalogue_read bytes x same =
    under-header (records default_config (strip_bom bytes)) (rows_after 6 1 x) column_names
    (ap (λ t. records default_config (strip_bom t)) same ∙ ap (records default_config) (unmarked x) ∙ text_read x) refl
    ∙ (sample_read x).0
    ∙ ended_kept (sample_item 1 (drawn_after x)) (items_after 5 2 (steps 11 x)) (spread (scale_of (sample_stock x)).q0 (scale_of (sample_stock x)).floor (scale_spread x))

pub catalogue_of_result : (r : Result (String Global) AllocError) (x : ℕ) → IfOk r (λ s. string_bytes s ≡ stock_text x)
    → IfOk r (λ s. stock_of (string_bytes s) ≡ Ok (sample_stock x))
catalogue_of_result (Ok s) x same = catalogue_read (string_bytes s) x same
catalogue_of_result (Err e) x same = tt
