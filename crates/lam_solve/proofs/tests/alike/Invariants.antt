use Rattle.std.proofs.Common.{◌≡◌, ℕ, ◌<◌, length, All}
use Rattle.lam_solve.proofs.tests.alike.Given as goal

abbrev pub invariant-loop : goal.invariant-loop
invariant-loop l = record {
  count : length l.plies ≡ l.counter;
  known : (n : ℕ) → l.ply.0 < n → All (λ p. p.0 < n) l.plies;
}
