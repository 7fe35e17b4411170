-- Fields of a record that call for no quotes and have no blanks round them.
use Rattle.std.proofs.Common.{◌≡◌, ◌<◌, ◌+◌, ◌-◌, ◌*◌, ◌^◌, ℕ, true, false, List, [], ◌∷◌, ◌++◌, fold, Some, refl, sym, ap, ◌∙◌, arith, rules}
use Rattle.std.specs.Prelude.{⊤}
use Rattle.std.specs.List.{list_all, list_any}
use Rattle.std.specs.Fmt.{decimal}
use Rattle.std.proofs.lemmas.Bool.Decides.{nat_tests}
use Rattle.std.proofs.lemmas.Fmt.{digits_decimal}
use Rattle.std.proofs.lemmas.List.{append_assoc, append-nil}
use Rattle.std.proofs.lemmas.Str.Parse.{IsNumeralModel, numerals_by_fold}
use Rattle.csv.proofs.RoundTrip.{read-write-many}
use Rattle.csv.specs.Machine.{next_record}
use Rattle.csv.specs.Reading.{default_config}
use Rattle.csv.specs.Writing.{default_writer, field_text, fields_text, is_blank, needs_byte, row_text}
use Rattle.csv.specs.declared.parser.State.TheVariants as st
use Rattle.lam_stock.proofs.TextRows.{first_row, no_row}
use Rattle.lam_stock.proofs.Truth.{both-true}
use Rattle.lam_stock.specs.Catalogue.{columns_of}
use Rattle.lam_stock.specs.Field.{digits_value, is_blank as is_space, is_digit, is_name_byte, joined, without_blanks, without_end_blanks, without_start_blanks}
use Rattle.lam_stock.specs.inside.Rows.{rows_from}
use Rattle.lam_sample.specs.inside.CatalogueText.{line_of}

-- ---- bytes of names and numbers

not_space : (b : ℕ) → is_name_byte b ≡ true → is_space b ≡ false
not_space b h = grind (arith, nat_tests)

not_mark : (b : ℕ) → is_name_byte b ≡ true → needs_byte default_writer b ≡ false
not_mark b h = grind (arith, nat_tests)

digit_plain : (b : ℕ) → is_digit b ≡ true → is_name_byte b ≡ true
digit_plain b h = grind (arith, nat_tests)

-- ---- fields

-- a field that is written as it is and read as it is
pub record IsPlain (w : List ℕ) : Type 0 where
  pub unquoted : list_any (needs_byte default_writer) w ≡ false
  pub whole : without_blanks w ≡ w

unmarked : (w : List ℕ) → list_all is_name_byte w ≡ true → list_any (needs_byte default_writer) w ≡ false
unmarked [] h = refl
unmarked (b ∷ bs) h =
    let both = both-true (is_name_byte b) (list_all is_name_byte bs) h in
    rw (not_mark b both.0, unmarked bs both.1) refl

no_start : (w : List ℕ) → list_all is_name_byte w ≡ true → without_start_blanks w ≡ w
no_start [] h = refl
no_start (b ∷ bs) h = rw (not_space b (both-true (is_name_byte b) (list_all is_name_byte bs) h).0) refl

joins : (b : ℕ) (w : List ℕ) → is_space b ≡ false → joined b w ≡ b ∷ w
joins b [] h = rw h refl
joins b (c ∷ cs) h = refl

no_end : (w : List ℕ) → list_all is_name_byte w ≡ true → without_end_blanks w ≡ w
no_end [] h = refl
no_end (b ∷ bs) h =
    let both = both-true (is_name_byte b) (list_all is_name_byte bs) h in
    ap (joined b) (no_end bs both.1) ∙ joins b bs (not_space b both.0)

pub word_plain : (w : List ℕ) → list_all is_name_byte w ≡ true → IsPlain w
word_plain w h = record { unquoted = unmarked w h; whole = ap without_end_blanks (no_start w h) ∙ no_end w h }

own : IsNumeralModel (λ ds. list_all is_digit ds ≡ true) digits_value
own = numerals_by_fold _ (search rules) (λ n ds. fold (λ m b. m * 10 + (b - 48)) n ds) (search rules)

digits_plain : (w : List ℕ) → list_all is_digit w ≡ true → list_all is_name_byte w ≡ true
digits_plain [] h = refl
digits_plain (b ∷ bs) h =
    let both = both-true (is_digit b) (list_all is_digit bs) h in rw (digit_plain b both.0, digits_plain bs both.1) refl

pub decimal_word : (n : ℕ) → n < 2 ^ 64 → list_all is_name_byte (decimal n) ≡ true
decimal_word n fits = digits_plain (decimal n) (digits_decimal own n fits)

pub decimal_plain : (n : ℕ) → n < 2 ^ 64 → IsPlain (decimal n)
decimal_plain n fits = word_plain (decimal n) (decimal_word n fits)

-- each field is plain
abbrev pub AllPlain : List (List ℕ) → Type 0
AllPlain [] = ⊤
AllPlain (w ∷ ws) = IsPlain w × AllPlain ws

pub columns_plain : (ws : List (List ℕ)) → AllPlain ws → columns_of ws ≡ ws
columns_plain [] h = refl
columns_plain (w ∷ ws) h = rw (h.0.whole, columns_plain ws h.1) refl

-- ---- records

as_it_is : (w : List ℕ) → IsPlain w → field_text default_writer w ≡ w
as_it_is w h = rw h.unquoted refl

fields_line : (w : List ℕ) (ws : List (List ℕ)) (more : List ℕ) → IsPlain w → AllPlain ws
    → (field_text default_writer w ++ fields_text default_writer ws) ++ 10 ∷ more ≡ line_of (w ∷ ws) more
unfolding fields_text
fields_line w [] more first rest = rw (as_it_is w first, append-nil w) refl
fields_line w (x ∷ xs) more first rest =
    append_assoc (field_text default_writer w) (fields_text default_writer (x ∷ xs)) (10 ∷ more)
    ∙ rw (as_it_is w first) (ap (λ t. w ++ 44 ∷ t) (fields_line x xs more rest.0 rest.1))

row_line : (w x : List ℕ) (ws : List (List ℕ)) (more : List ℕ) → AllPlain (w ∷ x ∷ ws)
    → row_text default_writer (w ∷ x ∷ ws) ++ more ≡ line_of (w ∷ x ∷ ws) more
unfolding is_blank
row_line w x ws more plain =
    append_assoc (field_text default_writer w ++ fields_text default_writer (x ∷ ws)) (10 ∷ []) more
    ∙ fields_line w (x ∷ ws) more plain.0 plain.1

-- the records of a text that begins with one of two plain fields or more
pub line_read : (w x : List ℕ) (ws : List (List ℕ)) (more : List ℕ) → AllPlain (w ∷ x ∷ ws)
    → rows_from st.StartRecord (Some (line_of (w ∷ x ∷ ws) more)) ≡ (w ∷ x ∷ ws) ∷ rows_from st.StartRecord (Some more)
line_read w x ws more plain =
    first_row st.StartRecord (line_of (w ∷ x ∷ ws) more) (w ∷ x ∷ ws, st.StartRecord, more)
    (ap (next_record default_config st.StartRecord [] []) (sym (row_line w x ws more plain)) ∙ read-write-many w x ws more)

-- a text with nothing has no records
pub nothing_read : rows_from st.StartRecord (Some []) ≡ []
unfolding next_record
nothing_read = no_row st.StartRecord [] refl

-- ---- lines

-- a line with text after it is the line, and then that text
pub line_more : (ws : List (List ℕ)) (more : List ℕ) → line_of ws [] ++ more ≡ line_of ws more
line_more [] more = refl
line_more (w ∷ []) more = append_assoc w (10 ∷ []) more
line_more (w ∷ x ∷ ws) more = append_assoc w (44 ∷ line_of (x ∷ ws) []) more ∙ ap (λ t. w ++ 44 ∷ t) (line_more (x ∷ ws) more)
