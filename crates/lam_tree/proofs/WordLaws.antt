-- A line is its words with one blank between each two, and its words are what stands between its blanks.
use Rattle.std.proofs.Common.{◌≡◌, ◌∙◌, refl, sym, ap, subst, ℕ, ◌+◌, nat_lt, Bool, true, false, List, [], ◌∷◌, ◌++◌, length, take, drop, Option, Some, None, arith}
use Rattle.std.specs.Prelude.{cond}
use Rattle.std.specs.List.{list_all, onto_first, position, position_or_len}
use Rattle.std.proofs.lemmas.Bool.{ltb-true, ltb-false}
use Rattle.std.proofs.lemmas.Bool.Decides.{nat_tests}
use Rattle.std.specs.List.{AllByRecursion}
use Rattle.std.proofs.lemmas.List.{append-nil}
use Rattle.std.proofs.lemmas.List.Elements.{All-from_recursion}
use Rattle.std.proofs.lemmas.Option.{same_Some}
use Rattle.lam_stock.proofs.Truth.{both-true}
use Rattle.std.proofs.lemmas.List.Sums.{fails_before_first}
use Rattle.std.proofs.lemmas.List.Splits.{slice_split_at, slice_split_none, slice_split_first}
use Rattle.lam_tree.specs.Lines.{line_of, spaced}
use Rattle.lam_tree.specs.inside.Cut.{Words, is_blank, is_empty, words_of}

-- ---- a line is its words

words_first : (line : List ℕ) → (w : List ℕ) × (ws : Words) × (words_of line ≡ w ∷ ws)
words_first [] = ([], [], refl)
words_first (b ∷ bs) = by (is_blank b) refl (words_first bs) where
  by : (t : Bool) → is_blank b ≡ t → (w : List ℕ) × (ws : Words) × (words_of bs ≡ w ∷ ws)
      → (w : List ℕ) × (ws : Words) × (words_of (b ∷ bs) ≡ w ∷ ws)
  by true h more = ([], words_of bs, ap (λ t. cond t ([] ∷ words_of bs) (onto_first b (words_of bs))) h)
  by false h more = (b ∷ more.0, more.1, ap (λ t. cond t ([] ∷ words_of bs) (onto_first b (words_of bs))) h ∙ ap (onto_first b) more.2)

-- the words of a line give it back
pub line_again : (line : List ℕ) → line_of (words_of line) ≡ line
line_again [] = refl
line_again (b ∷ bs) = by (is_blank b) refl (words_first bs) (line_again bs) where
  by : (t : Bool) → is_blank b ≡ t → (w : List ℕ) × (ws : Words) × (words_of bs ≡ w ∷ ws) → line_of (words_of bs) ≡ bs
      → line_of (words_of (b ∷ bs)) ≡ b ∷ bs
  by true h (w, ws, e) again =
      let blank : b ≡ 32 = grind (arith, nat_tests) in
      ap (λ t. line_of (cond t ([] ∷ words_of bs) (onto_first b (words_of bs)))) h
      ∙ ap spaced e ∙ ap (λ l. 32 ∷ l) (sym (ap line_of e) ∙ again) ∙ ap (λ c. c ∷ bs) (sym blank)
  by false h (w, ws, e) again =
      ap (λ t. line_of (cond t ([] ∷ words_of bs) (onto_first b (words_of bs)))) h
      ∙ ap (λ s. line_of (onto_first b s)) e ∙ ap (λ l. b ∷ l) (sym (ap line_of e) ∙ again)

-- ---- the first blank ends the first word

pub split_found : (line : List ℕ) (k : ℕ) → position is_blank line ≡ Some k → words_of line ≡ take k line ∷ words_of (drop (k + 1) line)
split_found line k e = by (nat_lt (position_or_len is_blank line) (length line)) refl e where
  by : (t : Bool) → nat_lt (position_or_len is_blank line) (length line) ≡ t
      → ◌≡◌ {A = Option ℕ} (cond t (Some (position_or_len is_blank line)) None) (Some k) → words_of line ≡ take k line ∷ words_of (drop (k + 1) line)
  by true h e =
      subst (λ n. words_of line ≡ take n line ∷ words_of (drop (n + 1) line)) (same_Some (position_or_len is_blank line) k e)
      (slice_split_first is_blank line 0 (ltb-true (position_or_len is_blank line) (length line) h))
  by false h e = absurd (let n : None ≡ Some k = e in cc)

pub split_none : (line : List ℕ) → position is_blank line ≡ None → words_of line ≡ line ∷ []
split_none line e = by (nat_lt (position_or_len is_blank line) (length line)) refl e where
  by : (t : Bool) → nat_lt (position_or_len is_blank line) (length line) ≡ t
      → ◌≡◌ {A = Option ℕ} (cond t (Some (position_or_len is_blank line)) None) None → words_of line ≡ line ∷ []
  by true h e = absurd (let n : Some (position_or_len is_blank line) ≡ None = e in cc)
  by false h e =
      let end = ltb-false (position_or_len is_blank line) (length line) h in
      slice_split_none is_blank line (λ k d less. fails_before_first is_blank line k d (omega (arith, end, less)))

-- there is a word
pub words_left_some : (line : List ℕ) → is_empty (words_of line) ≡ false
words_left_some line = let first = words_first line in ap is_empty first.2

-- ---- words that have no blank are found again

-- each byte is above a blank and a line's end
abbrev pub is_word : List ℕ → Bool
is_word w = list_all (λ b. nat_lt 32 b) w

blank_free : (w : List ℕ) → is_word w ≡ true → AllByRecursion (λ b. is_blank b ≡ false) w
blank_free [] h = tt
blank_free (b ∷ bs) h =
    let parts = both-true (nat_lt 32 b) (list_all (λ c. nat_lt 32 c) bs) h in
    let first : nat_lt 32 b ≡ true = parts.0 in
    (grind (arith, nat_tests), blank_free bs parts.1)

-- words with one blank between each two are found again
pub words_again : (w : List ℕ) (ws : Words) → AllByRecursion (λ v. is_word v ≡ true) (w ∷ ws) → words_of (line_of (w ∷ ws)) ≡ w ∷ ws
words_again w [] is = ap words_of (append-nil w) ∙ slice_split_none is_blank w (All-from_recursion (λ b. is_blank b ≡ false) w (blank_free w is.0))
words_again w (v ∷ ws) is =
    slice_split_at is_blank w 32 (v ++ spaced ws) (All-from_recursion (λ b. is_blank b ≡ false) w (blank_free w is.0)) refl
    ∙ ap (λ t. w ∷ t) (words_again v ws is.1)
