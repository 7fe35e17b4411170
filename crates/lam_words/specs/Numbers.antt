-- A number of 1 and more, as it is written: digits, the first of them not 0.
use Rattle.std.specs.Prelude.{ℕ, List, [], ◌∷◌, Bool, false, ◌&&◌, nat_le, Option, Some, None, if◌then◌else◌}
use Rattle.std.specs.Str.{all_ascii_digits}
use Rattle.std.specs.Str.Parse.{digits_value}

-- the first byte is a digit 1 to 9
abbrev pub begins_above_zero : List ℕ → Bool
begins_above_zero [] = false
begins_above_zero (c ∷ rest) = nat_le 49 c && nat_le c 57

-- the number, where it is at most `most`
abbrev pub at_most : ℕ → ℕ → Option ℕ
at_most most n = if nat_le n most then Some n else None

-- the number that the word writes, where it writes one and it is at most `most`
abbrev pub number_to : ℕ → List ℕ → Option ℕ
number_to most word =
    if begins_above_zero word && all_ascii_digits word then at_most most (digits_value 10 word) else None
