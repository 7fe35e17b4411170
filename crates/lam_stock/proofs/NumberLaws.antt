-- The numbers of fields and their words: each number has one word, which is its decimal numeral.
use Rattle.std.proofs.Common.{◌≡◌, ◌<◌, ◌≤◌, ◌+◌, ◌-◌, ◌*◌, ◌^◌, ℕ, zero, suc, Bool, true, false, not, ◌&&◌, ◌||◌, ◌==◌, nat_le, nat_lt, List, [], ◌∷◌, length, get_or, fold, Option, Some, None, ℤ, pos, negsuc, refl, sym, ap, ◌∙◌, arith, rules}
use Rattle.std.specs.List.{list_all}
use Rattle.std.specs.Prelude.{unsigned_abs}
use Rattle.std.specs.Fmt.{decimal, signed_decimal}
use Rattle.std.proofs.lemmas.Bool.Decides.{nat_tests}
use Rattle.std.proofs.lemmas.Fmt.{decimal-digits_value, digits_decimal, digits_value-decimal, decimal_digit, decimal_nonempty, first_decimal, length-decimal-le}
use Rattle.std.proofs.lemmas.Str.Parse.{IsNumeralModel, numerals_by_fold, digits_value_short}
use Rattle.lam_stock.specs.Field.{begins_with, digits_value, is_digit, is_whole, negative, number_of, positive, whole_of}
use Rattle.lam_stock.proofs.Truth.{both-true, each-weaker}

own : IsNumeralModel (λ ds. list_all is_digit ds ≡ true) digits_value
own = numerals_by_fold _ (search rules) (λ n ds. fold (λ m b. m * 10 + (b - 48)) n ds) (search rules)

-- ---- whole numbers

-- the parts of the test of a whole number
record IsNumeral (w : List ℕ) : Type 0 where
  some : 0 < length w
  short : length w ≤ 15
  plain : get_or w 0 0 ≡ 48 → length w ≡ 1
  digits : list_all is_digit w ≡ true

plain-head : (w : List ℕ) → (not (begins_with (λ b. b == 48) w) || (length w == 1)) ≡ true → get_or w 0 0 ≡ 48 → length w ≡ 1
plain-head [] h e = absurd (omega arith)
plain-head (b ∷ bs) h e = let zero : (b == 48) ≡ true = rw e refl in let one : (length (b ∷ bs) == 1) ≡ true = rw zero at h in grind (arith, nat_tests)

numeral : (w : List ℕ) → is_whole w ≡ true → IsNumeral w
numeral w h =
    let some = nat_le 1 (length w) in
    let short = nat_le (length w) 15 in
    let head = not (begins_with (λ b. b == 48) w) || (length w == 1) in
    let digits = both-true (some && short && head) (list_all is_digit w) h in
    let plain = both-true (some && short) head digits.0 in
    let size = both-true some short plain.0 in record {
      some = grind (arith, nat_tests);
      short = grind (arith, nat_tests);
      plain = plain-head w plain.1;
      digits = digits.1;
    }

-- a word that reads as a whole number is its numeral
pub whole_takes : (w : List ℕ) (n : ℕ) → whole_of w ≡ Some n → (w ≡ decimal n) × (n < 10 ^ 15)
whole_takes w n e = by (is_whole w) refl e
  where
    by : (b : Bool) → is_whole w ≡ b → whole_of w ≡ Some n → (w ≡ decimal n) × (n < 10 ^ 15)
    by false h e = let none : None ≡ Some n = rw h at e in cc none
    by true h e =
        let some : Some (digits_value w) ≡ Some n = rw h at e in
        let same : digits_value w ≡ n = cc some in
        let is = numeral w h in
        let small : digits_value w < 10 ^ 15 = digits_value_short own w 15 is.digits is.short in
        (sym (decimal-digits_value own w is.digits is.some is.plain (omega (arith, small))) ∙ ap decimal same, rw (← same) small)

-- and a numeral of at most 15 digits reads as its number
pub whole_again : (n : ℕ) → n < 10 ^ 15 → whole_of (decimal n) ≡ Some n
whole_again n small =
    let fits : n < 2 ^ 64 = omega arith in
    let digits : list_all is_digit (decimal n) ≡ true = digits_decimal own n fits in
    let some : nat_le 1 (length (decimal n)) ≡ true = let more = decimal_nonempty n fits in grind (arith, nat_tests) in
    let short : nat_le (length (decimal n)) 15 ≡ true = let few = length-decimal-le 15 n (omega arith) small fits in grind (arith, nat_tests) in
    let plain : (not (begins_with (λ b. b == 48) (decimal n)) || (length (decimal n) == 1)) ≡ true = head n fits in
    let whole : is_whole (decimal n) ≡ true = rw (some, short, plain, digits) refl in
    rw (whole, digits_value-decimal own n fits) refl
  where
    begun : (w : List ℕ) → 48 < get_or w 0 0 → begins_with (λ b. b == 48) w ≡ false
    begun [] h = absurd (omega arith)
    begun (b ∷ bs) h = grind (arith, nat_tests)

    head : (n : ℕ) → n < 2 ^ 64 → (not (begins_with (λ b. b == 48) (decimal n)) || (length (decimal n) == 1)) ≡ true
    head zero fits = rw (decimal_digit 0 (omega arith)) refl
    head (suc k) fits = rw (begun (decimal (suc k)) (first_decimal (suc k) (omega arith) fits)) refl

-- ---- numbers with a sign

negative-takes : (o : Option ℕ) (w : List ℕ) (z : ℤ) → whole_of w ≡ o → negative o ≡ Some z → (45 ∷ w ≡ signed_decimal z) × (unsigned_abs z < 10 ^ 15)
negative-takes None w z h e = cc e
negative-takes (Some zero) w z h e = cc e
negative-takes (Some (suc n)) w z h e =
    let same : negsuc n ≡ z = cc e in
    let whole = whole_takes w (suc n) h in rw (← same) (ap (λ ds. 45 ∷ ds) whole.0, whole.1)

positive-takes : (o : Option ℕ) (w : List ℕ) (z : ℤ) → whole_of w ≡ o → positive o ≡ Some z → (w ≡ signed_decimal z) × (unsigned_abs z < 10 ^ 15)
positive-takes None w z h e = cc e
positive-takes (Some n) w z h e = let same : pos n ≡ z = cc e in rw (← same) (whole_takes w n h)

-- a word that reads as a number is its numeral, with `-` before it where it is negative
pub signed_takes : (w : List ℕ) (z : ℤ) → number_of w ≡ Some z → (w ≡ signed_decimal z) × (unsigned_abs z < 10 ^ 15)
signed_takes [] z e = cc e
signed_takes (b ∷ rest) z e = by (b == 45) refl e
  where
    by : (t : Bool) → (b == 45) ≡ t → number_of (b ∷ rest) ≡ Some z → (b ∷ rest ≡ signed_decimal z) × (unsigned_abs z < 10 ^ 15)
    by true h e =
        let minus : b ≡ 45 = grind (arith, nat_tests) in
        let read : negative (whole_of rest) ≡ Some z = rw h at e in
        rw minus (negative-takes (whole_of rest) rest z refl read)
    by false h e = let read : positive (whole_of (b ∷ rest)) ≡ Some z = rw h at e in positive-takes (whole_of (b ∷ rest)) (b ∷ rest) z refl read

-- and a numeral of at most 15 digits with or without a sign reads as its number
pub signed_again : (z : ℤ) → unsigned_abs z < 10 ^ 15 → number_of (signed_decimal z) ≡ Some z
signed_again (negsuc n) small = rw (whole_again (suc n) small) refl
signed_again (pos n) small = by (decimal n) (digits_decimal own n (omega (arith, small))) (whole_again n small)
  where
    by : (w : List ℕ) → list_all is_digit w ≡ true → whole_of w ≡ Some n → number_of w ≡ Some (pos n)
    by [] digits read = cc read
    by (b ∷ bs) digits read =
        let first : is_digit b ≡ true = (both-true (is_digit b) (list_all is_digit bs) digits).0 in
        let plus : (b == 45) ≡ false = grind (arith, nat_tests) in rw (plus, read) refl

-- ---- the bytes of a numeral

digit-plain : (b : ℕ) → is_digit b ≡ true → nat_lt 32 b ≡ true
digit-plain b h = grind (arith, nat_tests)

-- each is above a blank and a line's end
pub decimal_word : (n : ℕ) → n < 2 ^ 64 → list_all (λ b. nat_lt 32 b) (decimal n) ≡ true
decimal_word n fits = each-weaker is_digit (λ b. nat_lt 32 b) digit-plain (decimal n) (digits_decimal own n fits)

pub signed_word : (z : ℤ) → unsigned_abs z < 2 ^ 64 → list_all (λ b. nat_lt 32 b) (signed_decimal z) ≡ true
signed_word (pos n) fits = decimal_word n fits
signed_word (negsuc n) fits = decimal_word (suc n) fits
