-- What a field of a record reads as: a name, a kind or a number.
use Rattle.std.specs.Prelude.{ℕ, zero, suc, ◌+◌, ◌*◌, ◌-◌, Bool, false, ◌&&◌, ◌||◌, not, ◌==◌, nat_le, if◌then◌else◌, List, [], ◌∷◌, length, ℤ, pos, negsuc, Option, Some, None, fold, codes}
use Rattle.std.specs.List.{list_all}
use Rattle.std.specs.Str.{bytes_eq}
use Rattle.lam_stock.specs.declared.item.Kind.{Kind}
use Rattle.lam_stock.specs.declared.item.Kind.TheVariants.{Ply, Pair}

-- a blank is a space or a tab
abbrev pub is_blank : ℕ → Bool
is_blank b = (b == 32) || (b == 9)

-- a field with no blank at its start
abbrev pub without_start_blanks : List ℕ → List ℕ
without_start_blanks [] = []
without_start_blanks (b ∷ rest) = if is_blank b then without_start_blanks rest else b ∷ rest

-- a field that goes on after b, where what goes on has no blank at its end
abbrev pub joined : ℕ → List ℕ → List ℕ
joined b [] = if is_blank b then [] else b ∷ []
joined b (c ∷ rest) = b ∷ c ∷ rest

-- a field with no blank at its end
abbrev pub without_end_blanks : List ℕ → List ℕ
without_end_blanks [] = []
without_end_blanks (b ∷ rest) = joined b (without_end_blanks rest)

-- a field with no blank at either end
abbrev pub without_blanks : List ℕ → List ℕ
without_blanks field = without_end_blanks (without_start_blanks field)

-- a byte is from low to high
abbrev pub is_from : ℕ → ℕ → ℕ → Bool
is_from low high b = nat_le low b && nat_le b high

-- the letters a to z
abbrev pub is_letter : ℕ → Bool
is_letter b = is_from 97 122 b

-- the digits 0 to 9
abbrev pub is_digit : ℕ → Bool
is_digit b = is_from 48 57 b

-- a letter, a digit, `_` or `-`
abbrev pub is_name_byte : ℕ → Bool
is_name_byte b = is_letter b || is_digit b || (b == 95) || (b == 45)

-- a field begins with a byte that passes a test
abbrev pub begins_with : (ℕ → Bool) → List ℕ → Bool
begins_with test [] = false
begins_with test (b ∷ rest) = test b

-- 1 to 16 letters, digits, `_` and `-`, the first a letter
abbrev pub is_name : List ℕ → Bool
is_name field = begins_with is_letter field && nat_le (length field) 16 && list_all is_name_byte field

-- `ply` or `pair`
abbrev pub kind_of : List ℕ → Option Kind
kind_of field = if bytes_eq field (codes "ply") then Some Ply else if bytes_eq field (codes "pair") then Some Pair else None

-- `0`, or 1 to 15 digits that do not begin with 0
abbrev pub is_whole : List ℕ → Bool
is_whole digits =
    nat_le 1 (length digits) && nat_le (length digits) 15
    && (not (begins_with (λ b. b == 48) digits) || (length digits == 1)) && list_all is_digit digits

-- the number that digits stand for
abbrev pub digits_value : List ℕ → ℕ
digits_value digits = fold (λ n b. n * 10 + (b - 48)) 0 digits

abbrev pub whole_of : List ℕ → Option ℕ
whole_of digits = if is_whole digits then Some (digits_value digits) else None

-- a whole number of this sign; there is no negative zero
abbrev pub positive : Option ℕ → Option ℤ
positive None = None
positive (Some n) = Some (pos n)

abbrev pub negative : Option ℕ → Option ℤ
negative None = None
negative (Some zero) = None
negative (Some (suc n)) = Some (negsuc n)

-- the number that a field stands for: a whole number, with `-` before it where it is negative
abbrev pub number_of : List ℕ → Option ℤ
number_of [] = None
number_of (b ∷ rest) = if b == 45 then negative (whole_of rest) else positive (whole_of (b ∷ rest))
