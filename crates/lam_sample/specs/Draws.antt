-- Draws from a number, by a linear congruential generator.
use Rattle.std.specs.Prelude.{ℕ, zero, suc, ◌+◌, ◌*◌, ◌/◌, ◌%◌, ◌^◌}

-- the state after a state
unfoldable pub step : ℕ → ℕ
step x = (1103515245 * x + 12345) % 2 ^ 31

-- the state after so many steps
abbrev pub steps : ℕ → ℕ → ℕ
steps zero x = x
steps (suc more) x = step (steps more x)

-- the draw of a place, from 1, after a state, modulo m: the upper bits of the state at that place
abbrev pub draw : ℕ → ℕ → ℕ → ℕ
draw place m x = steps place x / 65536 % m
