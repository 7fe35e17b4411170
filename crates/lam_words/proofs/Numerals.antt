-- A word that parses as a number.
use Rattle.std.proofs.Common.{ℕ, ◌≡◌, ◌<◌, ◌^◌, refl, subst, length, List, [], ◌∷◌, Bool, true, false, nat_le, Option, None, Result, Ok, Err, arith}
use Rattle.std.specs.Prelude.{if◌then◌else◌}
use Rattle.std.specs.Str.{all_ascii_digits}
use Rattle.std.specs.Str.Parse.{ParsesUnsigned, digits_value}
use Rattle.std.proofs.lemmas.Str.Parse.{IsNumeralModel, numerals_by_value, tells_all_ascii_digits, parse_plain}
use Rattle.lam_words.specs.Numbers.{begins_above_zero, at_most, number_to}

own : IsNumeralModel (λ ds. all_ascii_digits ds ≡ true) (digits_value 10)
own = numerals_by_value _ tells_all_ascii_digits

-- what the word reads as, by what the library parses
abbrev pub parsed : {E : Type 0} → ℕ → Result ℕ E → Option ℕ
parsed most (Ok n) = at_most most n
parsed most (Err e) = None

-- a text of digits that doesn't parse is a number that 32 bits don't hold
too_great : (most n : ℕ) → most < 2 ^ 32 → (n < 2 ^ 32 → ⊥) → ◌≡◌ {A = Option ℕ} None (at_most most n)
too_great most n fits great = go (nat_le n most) refl
  where
    go : (b : Bool) → nat_le n most ≡ b → ◌≡◌ {A = Option ℕ} None (at_most most n)
    go false e = rw e refl
    go true e = absurd (great (grind arith))

pub number_parsed : {E : Type 0} (most : ℕ) (bs : List ℕ) (r : Result ℕ E) → ParsesUnsigned 32 10 bs r → most < 2 ^ 32 → begins_above_zero bs ≡ true
    → parsed most r ≡ number_to most bs
number_parsed most [] r h fits begins = cc
number_parsed {E} most (c ∷ cs) (Ok n) h fits begins =
    let plain : c ≡ 43 → ⊥ = λ e. let bad : begins_above_zero (43 ∷ cs) ≡ true = subst (λ d. begins_above_zero (d ∷ cs) ≡ true) e begins in cc in
    let p = parse_plain own {E = E} 32 (c ∷ cs) (Ok n) h plain in
    rw (begins, p.0.0, p.1) refl
number_parsed {E} most (c ∷ cs) (Err e) h fits begins =
    let plain : c ≡ 43 → ⊥ = λ e. let bad : begins_above_zero (43 ∷ cs) ≡ true = subst (λ d. begins_above_zero (d ∷ cs) ≡ true) e begins in cc in
    rw begins (digits (all_ascii_digits (c ∷ cs)) refl (parse_plain own {E = E} 32 (c ∷ cs) (Err e) h plain))
  where
    digits : (b : Bool) → all_ascii_digits (c ∷ cs) ≡ b
        → ¬ ((all_ascii_digits (c ∷ cs) ≡ true) × (0 < length (c ∷ cs)) × (digits_value 10 (c ∷ cs) < 2 ^ 32))
        → ◌≡◌ {A = Option ℕ} None (if b then at_most most (digits_value 10 (c ∷ cs)) else None)
    digits false none fails = refl
    digits true all fails = too_great most (digits_value 10 (c ∷ cs)) fits (λ small. fails (all, search arith, small))
