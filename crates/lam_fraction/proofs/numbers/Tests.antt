-- Tests that a bound or a room passes when it is computed.
use Rattle.std.proofs.Common.{◌≡◌, refl, ℕ, ◌*◌, ◌^◌, ◌≤◌, Bool, true, false, ◌&&◌, leb, leb-true, ℤ, pos, ◌≤ℤ◌, ◌<ℤ◌, unsigned_abs, int_le, int_lt, arith}
use Rattle.std.proofs.lemmas.Int.{ints}
use Rattle.lam_fraction.specs.numbers.Numbers.{RatioRoom}

pub both-left : (a b : Bool) → (a && b) ≡ true → a ≡ true
both-left true b h = refl
both-left false b h = h

pub both-right : (a b : Bool) → (a && b) ≡ true → b ≡ true
both-right true b h = h
both-right false b h = absurd (cc)

pub tested : (m n : ℕ) → leb m n ≡ true → m ≤ n
tested m n h = leb-true m n h

pub at_least_one : (k : ℤ) → int_le (pos 1) k ≡ true → pos 1 ≤ℤ k
at_least_one k h = omega (arith, ints)

pub above_zero : (k : ℤ) → int_lt (pos 0) k ≡ true → pos 0 <ℤ k
above_zero k h = omega (arith, ints)

-- of a numerator and a denominator
abbrev pub ratio_fits : ℤ → ℤ → Bool
ratio_fits num den = int_lt (pos 0) den && (leb (unsigned_abs den) (2 ^ 66) && (leb (unsigned_abs num) (2 ^ 66) && leb (unsigned_abs num) (6 * unsigned_abs den)))

pub ratio_room : (num den : ℤ) → ratio_fits num den ≡ true → RatioRoom num den
ratio_room num den h =
    let sizes = both-right _ _ h in
    record {
      positive = above_zero den (both-left _ _ h);
      den = tested (unsigned_abs den) (2 ^ 66) (both-left _ _ sizes);
      num = tested (unsigned_abs num) (2 ^ 66) (both-left _ _ (both-right _ _ sizes));
      room = tested (unsigned_abs num) (6 * unsigned_abs den) (both-right _ _ (both-right _ _ sizes));
    }
