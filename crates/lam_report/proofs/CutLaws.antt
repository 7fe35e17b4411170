-- Bytes are their whole lines, and what stands behind them.
use Rattle.std.proofs.Common.{◌≡◌, ◌∙◌, refl, sym, ap, subst, ℕ, suc, ◌+◌, ◌==◌, nat_lt, Bool, true, false, not, List, [], ◌∷◌, ◌++◌, length, take, drop, Option, Some, None, append_assoc, arith}
use Rattle.std.specs.Prelude.{cond, count_by, ◌&&◌}
use Rattle.std.specs.List.{AllByRecursion, list_all, slice_split, onto_first, position, position_or_len}
use Rattle.std.proofs.lemmas.Bool.{ltb-true, ltb-false}
use Rattle.std.proofs.lemmas.Bool.Decides.{nat_tests}
use Rattle.std.proofs.lemmas.List.Elements.{All-from_recursion}
use Rattle.std.proofs.lemmas.List.Splits.{slice_split_at, slice_split_none, slice_split_first, length-slice_split}
use Rattle.std.proofs.lemmas.List.Sums.{fails_before_first}
use Rattle.std.proofs.lemmas.Option.{same_Some}
use Rattle.lam_report.specs.LineText.{text_of, is_end, but_last, last_part, whole_lines, tail_of}
use Rattle.lam_report.specs.inside.Reading.{Lines}

-- both of two tests
both-true : (a b : Bool) → (a && b) ≡ true → (a ≡ true) × (b ≡ true)
both-true true b e = (refl, e)
both-true false b e = absurd (let n : false ≡ true = e in cc)

-- ---- the parts between the ends of lines

some_part : (bytes : List ℕ) → (p : List ℕ) × (ps : Lines) × (slice_split is_end bytes ≡ p ∷ ps)
some_part [] = ([], [], refl)
some_part (b ∷ bs) = by (is_end b) refl (some_part bs) where
  by : (t : Bool) → is_end b ≡ t → (p : List ℕ) × (ps : Lines) × (slice_split is_end bs ≡ p ∷ ps)
      → (p : List ℕ) × (ps : Lines) × (slice_split is_end (b ∷ bs) ≡ p ∷ ps)
  by true h more = ([], slice_split is_end bs, ap (λ t. cond t ([] ∷ slice_split is_end bs) (onto_first b (slice_split is_end bs))) h)
  by false h more =
      (b ∷ more.0, more.1, ap (λ t. cond t ([] ∷ slice_split is_end bs) (onto_first b (slice_split is_end bs))) h ∙ ap (onto_first b) more.2)

-- a first line, before other parts
line_first : (line : List ℕ) (parts : Lines) (p : List ℕ) (ps : Lines) → parts ≡ p ∷ ps
    → (but_last (line ∷ parts) ≡ line ∷ but_last parts) × (last_part (line ∷ parts) ≡ last_part parts)
line_first line parts p ps e =
    (ap (λ l. but_last (line ∷ l)) e ∙ ap (λ l. line ∷ but_last l) (sym e), ap (λ l. last_part (line ∷ l)) e ∙ ap last_part (sym e))

-- ---- the next line

pub next_found : (bytes : List ℕ) (k : ℕ) → position is_end bytes ≡ Some k
    → (whole_lines bytes ≡ take k bytes ∷ whole_lines (drop (k + 1) bytes)) × (tail_of bytes ≡ tail_of (drop (k + 1) bytes))
next_found bytes k e = by (nat_lt (position_or_len is_end bytes) (length bytes)) refl e where
  by : (t : Bool) → nat_lt (position_or_len is_end bytes) (length bytes) ≡ t
      → ◌≡◌ {A = Option ℕ} (cond t (Some (position_or_len is_end bytes)) None) (Some k)
      → (whole_lines bytes ≡ take k bytes ∷ whole_lines (drop (k + 1) bytes)) × (tail_of bytes ≡ tail_of (drop (k + 1) bytes))
  by true h e =
      let cut = subst (λ n. slice_split is_end bytes ≡ take n bytes ∷ slice_split is_end (drop (n + 1) bytes)) (same_Some (position_or_len is_end bytes) k e)
      (slice_split_first is_end bytes 0 (ltb-true (position_or_len is_end bytes) (length bytes) h)) in
      let some = some_part (drop (k + 1) bytes) in
      let first = line_first (take k bytes) (slice_split is_end (drop (k + 1) bytes)) some.0 some.1 some.2 in
      (ap but_last cut ∙ first.0, ap last_part cut ∙ first.1)
  by false h e = absurd (let n : None ≡ Some k = e in cc)

pub next_none : (bytes : List ℕ) → position is_end bytes ≡ None → whole_lines bytes ≡ []
next_none bytes e = by (nat_lt (position_or_len is_end bytes) (length bytes)) refl e where
  by : (t : Bool) → nat_lt (position_or_len is_end bytes) (length bytes) ≡ t
      → ◌≡◌ {A = Option ℕ} (cond t (Some (position_or_len is_end bytes)) None) None → whole_lines bytes ≡ []
  by true h e = absurd (let n : Some (position_or_len is_end bytes) ≡ None = e in cc)
  by false h e =
      let stop = ltb-false (position_or_len is_end bytes) (length bytes) h in
      ap but_last (slice_split_none is_end bytes (λ k d less. fails_before_first is_end bytes k d (omega (arith, stop, less))))

-- ---- counting

length-but_last : (p : List ℕ) (ps : Lines) → length (but_last (p ∷ ps)) ≡ length ps
length-but_last p [] = refl
length-but_last p (q ∷ qs) = ap suc (length-but_last q qs)

pub length-whole_lines : (bytes : List ℕ) → length (whole_lines bytes) ≡ count_by is_end bytes
length-whole_lines bytes =
    let some = some_part bytes in
    let all = sym (ap length some.2) ∙ length-slice_split is_end bytes in
    let e = ap (λ q. length (but_last q)) some.2 ∙ length-but_last some.0 some.1 in
    omega (arith, all, e)

-- ---- bytes are their lines

pub text_again : (bytes : List ℕ) → bytes ≡ text_of (whole_lines bytes) ++ tail_of bytes
text_again [] = refl
text_again (b ∷ bs) = by (is_end b) refl (some_part bs) (text_again bs) where
  onto : (p : List ℕ) (ps : Lines) → b ∷ (text_of (but_last (p ∷ ps)) ++ last_part (p ∷ ps)) ≡ text_of (but_last ((b ∷ p) ∷ ps)) ++ last_part ((b ∷ p) ∷ ps)
  onto p [] = refl
  onto p (q ∷ qs) = refl

  by : (t : Bool) → is_end b ≡ t → (p : List ℕ) × (ps : Lines) × (slice_split is_end bs ≡ p ∷ ps) → bs ≡ text_of (whole_lines bs) ++ tail_of bs
      → b ∷ bs ≡ text_of (whole_lines (b ∷ bs)) ++ tail_of (b ∷ bs)
  by true h (p, ps, e) again =
      let ten : b ≡ 10 = grind (arith, nat_tests) in
      let cut : slice_split is_end (b ∷ bs) ≡ [] ∷ slice_split is_end bs = ap (λ t. cond t ([] ∷ slice_split is_end bs) (onto_first b (slice_split is_end bs))) h in
      let first = line_first [] (slice_split is_end bs) p ps e in
      ap (λ c. c ∷ bs) ten ∙ ap (λ l. 10 ∷ l) again
      ∙ ap (λ ls. text_of ls ++ tail_of bs) (sym (ap but_last cut ∙ first.0)) ∙ ap (λ l. text_of (whole_lines (b ∷ bs)) ++ l) (sym (ap last_part cut ∙ first.1))
  by false h (p, ps, e) again =
      let cut : slice_split is_end (b ∷ bs) ≡ (b ∷ p) ∷ ps =
      ap (λ t. cond t ([] ∷ slice_split is_end bs) (onto_first b (slice_split is_end bs))) h ∙ ap (onto_first b) e in
      ap (λ l. b ∷ l) (again ∙ ap (λ q. text_of (but_last q) ++ last_part q) e) ∙ onto p ps ∙ ap (λ q. text_of (but_last q) ++ last_part q) (sym cut)

-- ---- lines are found again

-- no byte ends it
abbrev pub is_line : List ℕ → Bool
is_line line = list_all (λ b. not (b == 10)) line

end_free : (line : List ℕ) → is_line line ≡ true → AllByRecursion (λ b. is_end b ≡ false) line
end_free [] h = tt
end_free (b ∷ bs) h =
    let parts = both-true (not (b == 10)) (list_all (λ c. not (c == 10)) bs) h in
    let first : not (b == 10) ≡ true = parts.0 in
    (grind (arith, nat_tests), end_free bs parts.1)

split_text : (ls : Lines) → AllByRecursion (λ l. is_line l ≡ true) ls → slice_split is_end (text_of ls) ≡ ls ++ [] ∷ []
split_text [] are = refl
split_text (l ∷ ls) are =
    slice_split_at is_end l 10 (text_of ls) (All-from_recursion (λ b. is_end b ≡ false) l (end_free l are.0)) refl ∙ ap (λ t. l ∷ t) (split_text ls are.1)

but_last_end : (ls : Lines) → (but_last (ls ++ [] ∷ []) ≡ ls) × (last_part (ls ++ [] ∷ []) ≡ [])
but_last_end [] = (refl, refl)
but_last_end (l ∷ ls) = by ls (but_last_end ls) where
  by : (ls : Lines) → (but_last (ls ++ [] ∷ []) ≡ ls) × (last_part (ls ++ [] ∷ []) ≡ [])
      → (but_last (l ∷ (ls ++ [] ∷ [])) ≡ l ∷ ls) × (last_part (l ∷ (ls ++ [] ∷ [])) ≡ [])
  by [] is = (refl, refl)
  by (m ∷ ms) is = (ap (λ t. l ∷ t) is.0, is.1)

pub lines_again : (ls : Lines) → AllByRecursion (λ l. is_line l ≡ true) ls → (whole_lines (text_of ls) ≡ ls) × (tail_of (text_of ls) ≡ [])
lines_again ls are =
    let cut = split_text ls are in
    (ap but_last cut ∙ (but_last_end ls).0, ap last_part cut ∙ (but_last_end ls).1)

pub text_of-append : (xs ys : Lines) → text_of (xs ++ ys) ≡ text_of xs ++ text_of ys
text_of-append [] ys = refl
text_of-append (x ∷ xs) ys = ap (λ t. x ++ (10 ∷ t)) (text_of-append xs ys) ∙ sym (append_assoc x (10 ∷ text_of xs) (text_of ys))
