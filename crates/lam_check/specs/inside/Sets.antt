-- Sets of items, by the bits of a number.
use Rattle.std.specs.Prelude.{ℕ, ◌==◌, Bool}
use Rattle.std.specs.Int.{bit_at}

-- bit i is set
abbrev pub has_bit : ℕ → ℕ → Bool
has_bit set i = bit_at set i == 1
