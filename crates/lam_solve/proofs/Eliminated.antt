-- Steps of the elimination: what is shifted, and what is divided.
use Rattle.std.proofs.Common.{◌≡◌, refl, sym, subst, ℕ, ◌^◌, ◌≤◌, ℤ, pos, negsuc, ◌*ℤ◌, ◌≤ℤ◌, ◌<ℤ◌, int_lt, Bool, true, false, cond, unsigned_abs, FitsSigned, w64, arith}
use Rattle.std.proofs.Math.Nat.{div-le_self}
use Rattle.std.proofs.lemmas.Int.{ints}
use Rattle.lam_fraction.specs.numbers.Rounding.{floor_over}
use Rattle.lam_fraction.specs.inside.Size.{AtMost}
use Rattle.lam_fraction.proofs.numbers.Machine.{product_small}
use Rattle.lam_solve.specs.inside.Elimination.{quotient}
use Rattle.lam_solve.proofs.Machine.{ranged_small}
use Rattle.lam_solve.specs.inside.Steps.{cut}

pub floor-small : (z : ℤ) (n : ℕ) → unsigned_abs (floor_over z n) ≤ unsigned_abs z
unfolding floor_over
floor-small (pos a) n = let h = div-le_self a n in omega (arith, ints, h)
floor-small (negsuc a) n = let h = div-le_self a n in omega (arith, ints, h)

pub quotient-none : (bits : ℕ) (most value over : ℤ) → over ≤ℤ pos 0 → quotient bits most value over ≡ pos 0
unfolding quotient
quotient-none bits most value over h = by_test (int_lt (pos 0) over) refl
  where
    by_test : (b : Bool) → int_lt (pos 0) over ≡ b → cond b (cut most (floor_over (value *ℤ pos (2 ^ bits)) (unsigned_abs over))) (pos 0) ≡ pos 0
    by_test true e = absurd (omega (arith, ints, h, e))
    by_test false e = refl

pub quotient-some : (bits : ℕ) (most value over : ℤ) → pos 0 <ℤ over → quotient bits most value over ≡ cut most (floor_over (value *ℤ pos (2 ^ bits)) (unsigned_abs over))
unfolding quotient
quotient-some bits most value over h = by_test (int_lt (pos 0) over) refl
  where
    by_test : (b : Bool) → int_lt (pos 0) over ≡ b → cond b (cut most (floor_over (value *ℤ pos (2 ^ bits)) (unsigned_abs over))) (pos 0) ≡ cut most (floor_over (value *ℤ pos (2 ^ bits)) (unsigned_abs over))
    by_test true e = refl
    by_test false e = absurd (omega (arith, ints, h, e))

product_128 : (a b : ℤ) → FitsSigned w64 a → FitsSigned w64 b → unsigned_abs (a *ℤ b) ≤ 2 ^ 126
product_128 a b f g = let h = product_small (2 ^ 63) (2 ^ 63) a b (ranged_small a f) (ranged_small b g) in omega (arith, h)

pub shifted-small : (a b z : ℤ) (n : ℕ) → FitsSigned w64 a → FitsSigned w64 b → z ≡ floor_over (a *ℤ b) n → AtMost (2 ^ 126) z
shifted-small a b z n f g e = record { size = (let h = product_128 a b f g in let s = floor-small (a *ℤ b) n in subst (λ t. unsigned_abs t ≤ 2 ^ 126) (sym e) (omega (arith, h, s))) }
