-- The steps of the search for the scale's power of two.
use Rattle.std.proofs.Common.{◌≡◌, ◌<◌, ◌≤◌, ◌*◌, ◌^◌, ℕ, zero, suc, true, false, nat_le, refl, arith}
use Rattle.std.proofs.lemmas.Bool.Decides.{nat_tests}
use Rattle.std.proofs.Math.Nat.{pow-suc}
use Rattle.lam_stock.specs.Scale.{first_power}

-- the search for a power of two goes on from the double of a power that is too small, and ends at one that is not
pub power-more : (k p n : ℕ) → p * 2 ^ k ≡ 2 ^ 64 → p < n → n ≤ 1600000
    → (j : ℕ) × (p * 2 * 2 ^ j ≡ 2 ^ 64) × (first_power k p n ≡ first_power j (p * 2) n)
unfolding first_power
power-more zero p n e less few = absurd (omega arith)
power-more (suc j) p n e less few =
    let small : nat_le n p ≡ false = grind (arith, nat_tests) in
    let power : 2 ^ suc j ≡ 2 ^ j * 2 = pow-suc 2 j in
    let whole : p * (2 ^ j * 2) ≡ 2 ^ 64 = rw (← power) e in
    let twice : 2 * p ≡ p * 2 = omega arith in
    (j, omega (arith, whole), rw (small, twice) refl)

pub power-found : (k p n : ℕ) → n ≤ p → first_power k p n ≡ p
unfolding first_power
power-found zero p n h = refl
power-found (suc k) p n h = let test : nat_le n p ≡ true = grind (arith, nat_tests) in rw test refl
