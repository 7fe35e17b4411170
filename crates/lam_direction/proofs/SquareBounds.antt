-- The squares of a direction's numbers and their product do not exceed the square of its denominator.
use Rattle.std.proofs.Common.{◌≡◌, ◌⊎◌, inl, inr, refl, sym, subst, ℕ, ◌+◌, ◌*◌, ◌≤◌, ◌<◌, ℤ, pos, negsuc, ◌+ℤ◌, ◌*ℤ◌, arith}
use Rattle.std.specs.Prelude.{unsigned_abs}
use Rattle.std.proofs.Math.Nat.{mul-le-mul}
use Rattle.std.proofs.lemmas.Bool.{cases_lt}
use Rattle.std.proofs.lemmas.Int.{ints, unsigned_abs-mul}
use Rattle.lam_direction.specs.Circle.{CirclePoint, IsDirection}
use Rattle.lam_direction.specs.Squares.{squares_of, AreWithinSize}
use Rattle.lam_direction.specs.declared.squares.DirectionSquares.{DirectionSquares}

square-size : (x : ℤ) → x *ℤ x ≡ pos (unsigned_abs x * unsigned_abs x)
square-size (pos n) = refl
square-size (negsuc n) = refl

mixed : (a b c : ℕ) → a * a + b * b ≡ c * c → b * a ≤ c * c
mixed a b c e = go (cases_lt a b)
  where
    go : (a < b) ⊎ (b ≤ a) → b * a ≤ c * c
    go (inl less) = let more : b * a ≤ b * b = mul-le-mul (omega arith) (omega (arith, less)) in omega (arith, e, more)
    go (inr few) = let more : b * a ≤ a * a = mul-le-mul few (omega arith) in omega (arith, e, more)

whole-circle : (p q h : ℤ) → (p *ℤ p) +ℤ (q *ℤ q) ≡ h *ℤ h
    → unsigned_abs p * unsigned_abs p + unsigned_abs q * unsigned_abs q ≡ unsigned_abs h * unsigned_abs h
whole-circle p q h e = omega (arith, ints, e, square-size p, square-size q, square-size h)

pub squares-within : {d : CirclePoint} {t : DirectionSquares} → IsDirection d → t ≡ squares_of d → AreWithinSize t
squares-within {d} {t} k e =
    let circle = whole-circle d.p d.q d.h k.on_circle in
    let product = mixed (unsigned_abs d.p) (unsigned_abs d.q) (unsigned_abs d.h) circle in
    let some : 1 ≤ unsigned_abs d.h = omega (arith, ints, k.least_size) in
    let few : unsigned_abs d.h ≤ 1000 = omega (arith, ints, k.least_size, k.greatest_size) in
    let least : 1 * 1 ≤ unsigned_abs d.h * unsigned_abs d.h = mul-le-mul some some in
    let greatest : unsigned_abs d.h * unsigned_abs d.h ≤ 1000 * 1000 = mul-le-mul few few in
    let size = square-size d.h in
    subst AreWithinSize (sym e) (record {
      least = omega (arith, ints, size, least);
      greatest = omega (arith, ints, size, greatest);
      cosine_square = rw (unsigned_abs-mul d.p d.p, unsigned_abs-mul d.h d.h) (omega (arith, circle));
      sine_square = rw (unsigned_abs-mul d.q d.q, unsigned_abs-mul d.h d.h) (omega (arith, circle));
      product = rw (unsigned_abs-mul d.q d.p, unsigned_abs-mul d.h d.h) product;
    })
