-- Whole parts of quotients.
use Rattle.std.proofs.Common.{◌≡◌, ◌↔◌, ℕ, ◌+◌, ◌*◌, ◌/◌, ◌<◌, ◌≤◌, arith, rules, IsTrue, nat_le, ℤ, pos, ◌*ℤ◌, ◌≤ℤ◌}
use Rattle.std.proofs.lemmas.Int.{ints}
use Rattle.std.proofs.Math.Nat.{div-div-eq-div-mul, div-le_of_le-mul, le-div_iff_mul-le, mul-le-mul}

-- half of the harmonic mean of two numbers of at least 1000 is at least 500
pub harmonic-least : (a b : ℕ) → 1000 ≤ a → 1000 ≤ b → 500 ≤ a * b / (a + b)
harmonic-least a b ha hb =
    let first : 1000 * b ≤ a * b = mul-le-mul ha (omega arith) in
    let second : a * 1000 ≤ a * b = mul-le-mul (omega arith) hb in
    let both : 500 * (a + b) ≤ a * b = omega (arith, first, second) in
    (le-div_iff_mul-le {k = a + b} {x = 500} {y = a * b} (omega arith)).1 both

-- a number is at most a quotient by two divisors exactly where its product with them is at most the dividend
pub at_most_quotient : (x m a b : ℕ) → 0 < a → 0 < b → (x ≤ m / a / b) ↔ (x * (a * b) ≤ m)
at_most_quotient x m a b ha hb =
    let some : 1 * 1 ≤ a * b = mul-le-mul ha hb in
    rw (div-div-eq-div-mul m a b) (le-div_iff_mul-le {k = a * b} {x = x} {y = m} (omega (arith, some)))

-- half of the harmonic mean is at most either number
pub harmonic-greatest : (a b : ℕ) → a * b / (a + b) ≤ b
harmonic-greatest a b = div-le_of_le-mul (a + b) {m = a * b} {n = b} (omega arith)

-- a test of a square against a bound over two products, as whole numbers of either sign
pub cross-tested : (t m a b : ℕ) (f x y : ℤ) → pos t ≡ f → pos a ≡ x → pos b ≡ y → 0 < a → 0 < b
    → IsTrue (nat_le t (m / a / b)) ↔ ((pos 4 *ℤ f *ℤ (x *ℤ y)) ≤ℤ pos (4 * m))
cross-tested t m a b f x y ef ex ey ha hb =
    let quotient = at_most_quotient t m a b ha hb in
    rw (← ef, ← ex, ← ey) (
      (λ h.
          let less : t ≤ m / a / b = search rules in
          let kept : t * (a * b) ≤ m = quotient.0 less in omega (arith, ints)),
      (λ h.
          let kept : t * (a * b) ≤ m = omega (arith, ints) in
          let less : t ≤ m / a / b = quotient.1 kept in search rules),
    )
