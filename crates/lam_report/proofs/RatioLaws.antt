-- The word of a ratio is read as that ratio, and so are the lines of ratios.
use Rattle.std.proofs.Common.{◌≡◌, ◌∙◌, refl, sym, ap, subst, ℕ, ◌+◌, ◌-◌, ◌*◌, ◌^◌, ◌/◌, ◌%◌, ◌<◌, ◌≤◌, ◌==◌, nat_le, nat_lt, Bool, true, false, List, [], ◌∷◌, ◌++◌, length, take, drop, Option, Some, None, lit≤, arith}
use Rattle.std.specs.Prelude.{◌&&◌, if◌then◌else◌, codes, decimal, slice_index}
use Rattle.std.proofs.lemmas.Bool.Decides.{nat_tests}
use Rattle.std.proofs.lemmas.List.{length-append, take-append-drop}
use Rattle.std.proofs.lemmas.Option.{same_Some}
use Rattle.std.proofs.Math.Seq.{take-append_seam, drop-append_seam}
use Rattle.lam_stock.specs.Field.{is_digit, whole_of}
use Rattle.lam_stock.proofs.NumberLaws.{whole_takes, whole_again, decimal_word}
use Rattle.lam_stock.proofs.Truth.{both-true}
use Rattle.lam_tree.specs.Lines.{ordinal}
use Rattle.lam_tree.specs.inside.Cut.{Words}
use Rattle.lam_tree.specs.inside.LineReading.{then_read, with_left, number_at}
use Rattle.lam_tree.specs.declared.limits.TheConstants.{MOST_RATIO}
use Rattle.lam_tree.proofs.WordLaws.{is_word}
use Rattle.lam_tree.proofs.NodeLaws.{then_takes, then_again, one_takes, number_takes, number_again, number_word}
use Rattle.lam_report.specs.ReportText.{ratio_line, ratio_text, panel_line}
use Rattle.lam_report.specs.inside.HeadReading.{thousandths, small_ratio, ratio_of, ratio_at, ratio_in, panel_in}
use Rattle.lam_report.proofs.Parsing.{Spells}
use Rattle.lam_report.proofs.SpellLaws.{keyed_spells}

-- ---- the digits of a ratio

-- the digits of a number below a thousand
three_digits : (a b c : ℕ) → is_digit a ≡ true → is_digit b ≡ true → is_digit c ≡ true → (n r : ℕ) → r ≡ n * 1000 + ((a - 48) * 100 + (b - 48) * 10 + (c - 48))
    → (r / 1000 ≡ n) × (48 + r / 100 % 10 ≡ a) × (48 + r / 10 % 10 ≡ b) × (48 + r % 10 ≡ c)
three_digits a b c ha hb hc n r e =
    let la : 48 ≤ a = grind (arith, nat_tests) in let ma : a ≤ 57 = grind (arith, nat_tests) in
    let lb : 48 ≤ b = grind (arith, nat_tests) in let mb : b ≤ 57 = grind (arith, nat_tests) in
    let lc : 48 ≤ c = grind (arith, nat_tests) in let mc : c ≤ 57 = grind (arith, nat_tests) in
    (omega (arith, e, la, ma, lb, mb, lc, mc), omega (arith, e, la, ma, lb, mb, lc, mc), omega (arith, e, la, ma, lb, mb, lc, mc), omega (arith, e, la, ma, lb, mb, lc, mc))

digits_sum : (r : ℕ) → r / 1000 * 1000 + (r / 100 % 10 * 100 + r / 10 % 10 * 10 + r % 10) ≡ r
digits_sum r = omega arith

four : (xs : List ℕ) → length xs ≡ 4 → (p : ℕ) × (a : ℕ) × (b : ℕ) × (c : ℕ) × (xs ≡ p ∷ a ∷ b ∷ c ∷ [])
four [] h = absurd (omega (arith, h))
four (p ∷ []) h = absurd (omega (arith, h))
four (p ∷ a ∷ []) h = absurd (omega (arith, h))
four (p ∷ a ∷ b ∷ []) h = absurd (omega (arith, h))
four (p ∷ a ∷ b ∷ c ∷ []) h = (p, a, b, c, refl)
four (p ∷ a ∷ b ∷ c ∷ d ∷ rest) h = absurd (omega (arith, h))

-- what is read of a point and three digits
pub record IsEnd (end : List ℕ) (m : ℕ) : Type 0 where
  pub a : ℕ
  pub b : ℕ
  pub c : ℕ
  pub text : end ≡ 46 ∷ a ∷ b ∷ c ∷ []
  pub first : is_digit a ≡ true
  pub second : is_digit b ≡ true
  pub third : is_digit c ≡ true
  pub value : m ≡ (a - 48) * 100 + (b - 48) * 10 + (c - 48)

end_takes : (end : List ℕ) (m : ℕ) → thousandths end ≡ Some m → IsEnd end m
unfolding thousandths
end_takes end m e =
    by ((length end == 4) && (slice_index end 0 == 46) && is_digit (slice_index end 1) && is_digit (slice_index end 2) && is_digit (slice_index end 3)) refl e where
      value : ℕ
      value = (slice_index end 1 - 48) * 100 + (slice_index end 2 - 48) * 10 + (slice_index end 3 - 48)

      by : (t : Bool)
          → ((length end == 4) && (slice_index end 0 == 46) && is_digit (slice_index end 1) && is_digit (slice_index end 2) && is_digit (slice_index end 3)) ≡ t
          → (if t then Some value else None) ≡ Some m → IsEnd end m
      by true h e =
          let four_so = both-true ((length end == 4) && (slice_index end 0 == 46) && is_digit (slice_index end 1) && is_digit (slice_index end 2)) (is_digit (slice_index end 3)) h in
          let three_so = both-true ((length end == 4) && (slice_index end 0 == 46) && is_digit (slice_index end 1)) (is_digit (slice_index end 2)) four_so.0 in
          let two_so = both-true ((length end == 4) && (slice_index end 0 == 46)) (is_digit (slice_index end 1)) three_so.0 in
          let one_so = both-true (length end == 4) (slice_index end 0 == 46) two_so.0 in
          let long : (length end == 4) ≡ true = one_so.0 in
          let point : (slice_index end 0 == 46) ≡ true = one_so.1 in
          let is_long : length end ≡ 4 = grind (arith, nat_tests) in
          let is_point : slice_index end 0 ≡ 46 = grind (arith, nat_tests) in
          let shape = four end is_long in
          let p = ap (λ l. slice_index l 0) shape.4 in
          let a = ap (λ l. slice_index l 1) shape.4 in
          let b = ap (λ l. slice_index l 2) shape.4 in
          let c = ap (λ l. slice_index l 3) shape.4 in
          record {
            a = slice_index end 1;
            b = slice_index end 2;
            c = slice_index end 3;
            text = shape.4 ∙ ap (λ x. x ∷ shape.1 ∷ shape.2 ∷ shape.3 ∷ []) (sym p ∙ is_point) ∙ ap (λ x. 46 ∷ x ∷ shape.2 ∷ shape.3 ∷ []) (sym a)
                ∙ ap (λ x. 46 ∷ slice_index end 1 ∷ x ∷ shape.3 ∷ []) (sym b) ∙ ap (λ x. 46 ∷ slice_index end 1 ∷ slice_index end 2 ∷ x ∷ []) (sym c);
            first = two_so.1 ∙ refl;
            second = three_so.1;
            third = four_so.1;
            value = sym (same_Some value m e);
          }
      by false h e = absurd (let n : ◌≡◌ {A = Option ℕ} None (Some m) = e in cc)

digit_is : (d : ℕ) → d < 10 → is_digit (48 + d) ≡ true
digit_is d small = grind (arith, nat_tests)

end_again : (a b c : ℕ) → a < 10 → b < 10 → c < 10 → thousandths (46 ∷ (48 + a) ∷ (48 + b) ∷ (48 + c) ∷ []) ≡ Some (a * 100 + b * 10 + c)
unfolding thousandths
end_again a b c la lb lc =
    let one = digit_is a la in let two = digit_is b lb in let three = digit_is c lc in
    let sum : (48 + a - 48) * 100 + (48 + b - 48) * 10 + (48 + c - 48) ≡ a * 100 + b * 10 + c = omega arith in
    rw (one, two, three) (ap (λ n. Some n) sum)

-- ---- the word of a ratio

small_takes : (n m : Option ℕ) (r : ℕ) → small_ratio n m ≡ Some r → (a : ℕ) × (b : ℕ) × (n ≡ Some a) × (m ≡ Some b) × (r ≡ a * 1000 + b) × (r ≤ MOST_RATIO)
small_takes (Some a) (Some b) r e = by (nat_le (a * 1000 + b) MOST_RATIO) refl e where
  by : (t : Bool) → nat_le (a * 1000 + b) MOST_RATIO ≡ t → (if t then Some (a * 1000 + b) else None) ≡ Some r
      → (x : ℕ) × (y : ℕ) × (Some a ≡ Some x) × (Some b ≡ Some y) × (r ≡ x * 1000 + y) × (r ≤ MOST_RATIO)
  by true h e =
      let same = same_Some (a * 1000 + b) r e in
      let most : a * 1000 + b ≤ MOST_RATIO = grind (arith, nat_tests) in
      (a, b, refl, refl, sym same, subst (λ k. k ≤ MOST_RATIO) same most)
  by false h e = absurd (let n : ◌≡◌ {A = Option ℕ} None (Some r) = e in cc)
small_takes (Some a) None r e = absurd (let n : ◌≡◌ {A = Option ℕ} None (Some r) = e in cc)
small_takes None m r e = absurd (let n : ◌≡◌ {A = Option ℕ} None (Some r) = e in cc)

pub ratio_takes : (w : List ℕ) (r : ℕ) → ratio_of w ≡ Some r → (w ≡ ratio_text r) × (r ≤ MOST_RATIO)
unfolding ratio_of
ratio_takes w r e =
    let n = length w - 4 in
    let parts = small_takes (whole_of (take n w)) (thousandths (drop n w)) r e in
    let head = (whole_takes (take n w) parts.0 parts.2).0 in
    let end = end_takes (drop n w) parts.1 parts.3 in
    let digits = three_digits end.a end.b end.c end.first end.second end.third parts.0 r (parts.4 ∙ ap (λ m. parts.0 * 1000 + m) end.value) in (
      sym (take-append-drop n w) ∙ ap (λ h. h ++ drop n w) (head ∙ ap decimal (sym digits.0)) ∙ ap (λ t. decimal (r / 1000) ++ t) (end.text
          ∙ ap (λ x. 46 ∷ x ∷ end.b ∷ end.c ∷ []) (sym digits.1) ∙ ap (λ x. 46 ∷ (48 + r / 100 % 10) ∷ x ∷ end.c ∷ []) (sym digits.2)
          ∙ ap (λ x. 46 ∷ (48 + r / 100 % 10) ∷ (48 + r / 10 % 10) ∷ x ∷ []) (sym digits.3)),
      parts.5,
    )

pub ratio_again : (r : ℕ) → r ≤ MOST_RATIO → ratio_of (ratio_text r) ≡ Some r
unfolding ratio_of
ratio_again r most =
    let head = decimal (r / 1000) in
    let end = 46 ∷ (48 + r / 100 % 10) ∷ (48 + r / 10 % 10) ∷ (48 + r % 10) ∷ [] in
    let long = length-append head end in
    let point : length (head ++ end) - 4 ≡ length head = omega (arith, long) in
    let less : r / 1000 < 10 ^ 15 = omega (arith, most) in
    let test : nat_le r MOST_RATIO ≡ true = grind (arith, nat_tests) in
    ap (λ n. small_ratio (whole_of (take n (head ++ end))) (thousandths (drop n (head ++ end)))) point
    ∙ ap (λ h. small_ratio (whole_of h) (thousandths (drop (length head) (head ++ end)))) (take-append_seam head end)
    ∙ ap (λ o. small_ratio (whole_of head) (thousandths o)) (drop-append_seam head end)
    ∙ ap (λ o. small_ratio o (thousandths end)) (whole_again (r / 1000) less)
    ∙ ap (small_ratio (Some (r / 1000))) (end_again (r / 100 % 10) (r / 10 % 10) (r % 10) (omega arith) (omega arith) (omega arith))
    ∙ ap (λ n. if nat_le n MOST_RATIO then Some n else None) (digits_sum r) ∙ ap (λ (t : Bool). if t then Some r else None) test

ratio_is_word : (r : ℕ) → r ≤ MOST_RATIO → is_word (ratio_text r) ≡ true
ratio_is_word r most = word-append (decimal (r / 1000)) (46 ∷ (48 + r / 100 % 10) ∷ (48 + r / 10 % 10) ∷ (48 + r % 10) ∷ [])
    (decimal_word (r / 1000) (omega (arith, most))) digits where
      word-append : (a b : List ℕ) → is_word a ≡ true → is_word b ≡ true → is_word (a ++ b) ≡ true
      word-append [] b one other = other
      word-append (x ∷ xs) b one other =
          let parts = both-true (nat_lt 32 x) (is_word xs) one in
          let first = parts.0 in
          let rest = word-append xs b parts.1 other in
          rw (first, rest) refl

      digits : is_word (46 ∷ (48 + r / 100 % 10) ∷ (48 + r / 10 % 10) ∷ (48 + r % 10) ∷ []) ≡ true
      digits =
          let a : nat_lt 32 (48 + r / 100 % 10) ≡ true = grind (arith, nat_tests) in
          let b : nat_lt 32 (48 + r / 10 % 10) ≡ true = grind (arith, nat_tests) in
          let c : nat_lt 32 (48 + r % 10) ≡ true = grind (arith, nat_tests) in
          rw (a, b, c) refl

ratio_at_takes : (ws : Words) (r : ℕ) (rest : Words) → ratio_at ws ≡ Some (r, rest) → (ws ≡ ratio_text r ∷ rest) × (r ≤ MOST_RATIO)
unfolding ratio_at
ratio_at_takes ws r rest e =
    let a = one_takes ratio_of ws r rest e in
    let b = ratio_takes a.0 r a.2 in
    (a.1 ∙ ap (λ w. w ∷ rest) b.0, b.1)

ratio_at_again : (r : ℕ) (rest : Words) → r ≤ MOST_RATIO → ratio_at (ratio_text r ∷ rest) ≡ Some (r, rest)
unfolding ratio_at
ratio_at_again r rest most = ap (with_left rest) (ratio_again r most)

-- ---- the lines of ratios

-- a due number
due_takes : (k : ℕ) (ws : Words) (n : ℕ) (rest : Words) → number_at (k + 1) (k + 1) ws ≡ Some (n, rest) → ws ≡ ordinal k ∷ rest
due_takes k ws n rest e =
    let a = number_takes (k + 1) (k + 1) ws n rest e in
    let low = a.1 in let high = a.2 in
    let same : n ≡ k + 1 = omega (arith, low, high) in
    a.0 ∙ ap (λ m. decimal m ∷ rest) same

due_again : (k : ℕ) (rest : Words) → k < 100 → number_at (k + 1) (k + 1) (ordinal k ∷ rest) ≡ Some (k + 1, rest)
due_again k rest small = number_again (k + 1) (k + 1) (k + 1) rest (omega arith) (omega arith) (omega (arith, small))

pub ratio_spells : (case ply : ℕ) → case < 100 → ply < 100 → Spells (λ r. r ≤ MOST_RATIO) (ratio_line case ply) (ratio_in case ply)
unfolding ratio_in
ratio_spells case ply few few_too =
    keyed_spells (codes "ratio") (λ r. r ≤ MOST_RATIO) (λ r. ordinal case ∷ ordinal ply ∷ ratio_text r ∷ [])
    (λ words. then_read (number_at (case + 1) (case + 1) words) (λ c rest. then_read (number_at (ply + 1) (ply + 1) rest) (λ p rest. ratio_at rest)))
    refl (record {
      takes = λ ws r rest e. (
          let a = then_takes (number_at (case + 1) (case + 1) ws) (λ c left. then_read (number_at (ply + 1) (ply + 1) left) (λ p left. ratio_at left)) (r, rest) e in
          let b = then_takes (number_at (ply + 1) (ply + 1) a.1) (λ p left. ratio_at left) (r, rest) a.3 in
          let c = ratio_at_takes b.1 r rest b.3 in
          (c.1, due_takes case ws a.0 a.1 a.2 ∙ ap (λ t. ordinal case ∷ t) (due_takes ply a.1 b.0 b.1 b.2 ∙ ap (λ t. ordinal ply ∷ t) c.0))
          );
      again = λ r rest most. (
          let two = ordinal ply ∷ ratio_text r ∷ rest in
          let one = ratio_text r ∷ rest in
          then_again (number_at (case + 1) (case + 1) (ordinal case ∷ two)) (λ c left. then_read (number_at (ply + 1) (ply + 1) left) (λ p left. ratio_at left)) (case + 1) two (due_again case two few)
          ∙ then_again (number_at (ply + 1) (ply + 1) two) (λ p left. ratio_at left) (ply + 1) one (due_again ply one few_too) ∙ ratio_at_again r rest most
          );
      are = λ r most. (number_word (case + 1) (omega (arith, few)), (number_word (ply + 1) (omega (arith, few_too)), (ratio_is_word r most, tt)));
      alive = (0, lit≤ tt);
    })

pub panel_spells : (panel : ℕ) → panel < 100 → Spells (λ r. r ≤ MOST_RATIO) (λ r. panel_line panel (ratio_text r)) (panel_in panel)
unfolding panel_in
panel_spells panel few =
    keyed_spells (codes "panel") (λ r. r ≤ MOST_RATIO) (λ r. ordinal panel ∷ ratio_text r ∷ [])
    (λ words. then_read (number_at (panel + 1) (panel + 1) words) (λ k rest. ratio_at rest)) refl (record {
      takes = λ ws r rest e. (
          let a = then_takes (number_at (panel + 1) (panel + 1) ws) (λ k left. ratio_at left) (r, rest) e in
          let c = ratio_at_takes a.1 r rest a.3 in
          (c.1, due_takes panel ws a.0 a.1 a.2 ∙ ap (λ t. ordinal panel ∷ t) c.0)
          );
      again = λ r rest most. (
          let one = ratio_text r ∷ rest in
          then_again (number_at (panel + 1) (panel + 1) (ordinal panel ∷ one)) (λ k left. ratio_at left) (panel + 1) one (due_again panel one few) ∙ ratio_at_again r rest most
          );
      are = λ r most. (number_word (panel + 1) (omega (arith, few)), (ratio_is_word r most, tt));
      alive = (0, lit≤ tt);
    })
