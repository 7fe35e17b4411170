-- How far an enclosure reaches, whatever it holds: all that the condition of a call needs.
use Rattle.std.specs.Prelude.{ℕ, ◌*◌, ◌^◌, ◌≤◌}
use Rattle.lam_fraction.specs.numbers.Numbers.{Numbers, reach, unit}

-- the reach is at most e parts of one, of which 2^28 make one, so that a slop is at most 4 parts
pub record Reaches {A : Type 0} (n : Numbers A) (e : ℕ) (z : A) : Type 0 where
  pub far : reach n z * 2 ^ 28 ≤ e * unit n

-- sixteenths of one, in such parts
abbrev pub sixteenths : ℕ → ℕ
sixteenths k = k * 2 ^ 24
