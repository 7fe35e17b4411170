-- What is so of the centre at which the turns of refinement of a narrow wall end.
use Rattle.std.specs.Prelude.{ℕ, ◌+◌, ◌*◌, ◌<◌, ◌≤◌, unsigned_abs}
use Rattle.lam_fraction.specs.numbers.Numbers.{Numbers, unit}
use Rattle.lam_solve.specs.declared.six.Six.{Six}
use Rattle.lam_solve.specs.declared.six.Ends.{Ends}
use Rattle.lam_solve.specs.declared.strains.Guess.{Guess}
use Rattle.lam_solve.specs.inside.Enclosed.{guess_size}
use Rattle.lam_solve.specs.inside.Residual.{greatest_middle}

-- the sum of the sizes of a guess's components
abbrev pub guess_sum : Guess → ℕ
guess_sum c =
    unsigned_abs c.ex + unsigned_abs c.ey + unsigned_abs c.g
    + unsigned_abs c.kx + unsigned_abs c.ky + unsigned_abs c.kg

-- no middle of the centre's residual is more than 4096 slops, and its components are at most 4 in size and below 9 in sum
pub record Settled {A : Type 0} (n : Numbers A) (c : Guess) (r : Six Ends) : Type 0 where
  pub middles : greatest_middle n r ≤ 4096 * n.slop
  pub each : guess_size c ≤ 4 * unit n
  pub sum : guess_sum c < 9 * unit n
