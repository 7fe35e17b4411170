use Rattle.std.proofs.Common.{◌≡◌, ℕ, ◌<◌, length, All}
use Rattle.lam_wall.proofs.tests.wall.Given as goal

abbrev pub invariant-loop : goal.invariant-loop
invariant-loop l = record {
  count : length l.plies ≡ l.counter;
  first : (n : ℕ) → 0 < n → All (λ ply. ply.0 < n) l.plies;
}
