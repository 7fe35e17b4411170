-- One in units, and sizes of whole numbers.
use Rattle.std.proofs.Common.{◌≡◌, sym, ◌∙◌, ap, subst, ℕ, ◌*◌, ◌%◌, ◌^◌, ◌≤◌, ℤ, pos, ◌≤ℤ◌, unsigned_abs, to_z, w64, arith}
use Rattle.std.specs.Int.{int_min, int_max}
use Rattle.std.proofs.Math.Nat.{pow-le-pow_right, mul-le-mul, mul-le-mul_left}
use Rattle.std.proofs.lemmas.Int.{ints, clamps}
use Rattle.lam_fraction.specs.numbers.Numbers.{Numbers, Lawful, unit}
use Rattle.lam_fraction.specs.inside.Size.{AtMost}
use Rattle.lam_fraction.proofs.numbers.Steps.{over_up, over_up-most}

-- ---- one, in units

power_most : (s : ℕ) → s ≤ 60 → 2 ^ s ≤ 2 ^ 60
power_most s h = pow-le-pow_right {n = 2} (omega arith) {i = s} {j = 60} h

pub unit_most : {A : Type 0} {n : Numbers A} → Lawful n → unit n ≤ 2 ^ 60
unit_most {n = n} laws = power_most n.scale laws.fits

pub unit_least : {A : Type 0} {n : Numbers A} → Lawful n → 2 ^ 28 ≤ unit n
unit_least {n = n} laws = pow-le-pow_right {n = 2} (omega arith) {i = 28} {j = n.scale} laws.fine

pub shifted_one : (s : ℕ) → s ≤ 60 → to_z w64 (1 * 2 ^ s % 18446744073709551616) ≡ pos (2 ^ s)
shifted_one s h = let b = power_most s h in omega (arith, ints, b)

pub one-is : (s t r : ℕ) → s ≤ 60 → s ≡ t → r ≡ t → to_z w64 (1 * 2 ^ r % 18446744073709551616) ≡ pos (2 ^ s)
one-is s t r h e f = subst (λ x. to_z w64 (1 * 2 ^ x % 18446744073709551616) ≡ pos (2 ^ s)) (e ∙ sym f) (shifted_one s h)

pub one-small : {A : Type 0} {n : Numbers A} → Lawful n → (z : ℤ) → z ≡ pos (unit n) → AtMost (2 ^ 60) z
one-small laws z e = record { size = (let b = unit_most laws in omega (arith, ints, b)) }

pub one-least : {A : Type 0} {n : Numbers A} → Lawful n → (z : ℤ) → z ≡ pos (unit n) → pos 1 ≤ℤ z
one-least laws z e = let b = unit_least laws in omega (arith, ints, b)

pub power-small : (s : ℕ) (z : ℤ) → s ≤ 60 → z ≡ pos (2 ^ s) → AtMost (2 ^ 60) z
power-small s z h e = record { size = (let b = power_most s h in omega (arith, ints, b)) }

pub four-sign : (u : ℕ) (z : ℤ) → z ≡ pos (4 * u) → pos 0 ≤ℤ z
four-sign u z e = omega (arith, ints, e)

pub four-small : {A : Type 0} {n : Numbers A} → Lawful n → (z : ℤ) → z ≡ pos (4 * unit n) → AtMost (2 ^ 62) z
four-small laws z e = record { size = (let b = unit_most laws in omega (arith, ints, b)) }

-- ---- the least and the greatest of two, and what is cut

pub least_small : (m : ℕ) (a b : ℤ) → unsigned_abs a ≤ m → unsigned_abs b ≤ m → unsigned_abs (int_min a b) ≤ m
least_small m a b h k = omega (arith, ints, clamps, h, k)

pub greatest_small : (m : ℕ) (a b : ℤ) → unsigned_abs a ≤ m → unsigned_abs b ≤ m → unsigned_abs (int_max a b) ≤ m
greatest_small m a b h k = omega (arith, ints, clamps, h, k)

-- ---- a size over one in units, and times q0 over the floor

pub wide-is : (s t r : ℕ) → s ≡ t → r ≡ 2 ^ t → r ≡ 2 ^ s
wide-is s t r e f = f ∙ ap (λ k. 2 ^ k) (sym e)

pub over_unit_small : (m u : ℕ) → m ≤ 50 * 2 ^ 120 → 2 ^ 28 ≤ u → over_up m u ≤ 50 * 2 ^ 92
over_unit_small m u h least =
    let times : (50 * 2 ^ 92) * 2 ^ 28 ≤ (50 * 2 ^ 92) * u = mul-le-mul_left (50 * 2 ^ 92) least in
    over_up-most m u (50 * 2 ^ 92) (omega (arith, least)) (omega (arith, h, times))

pub left_small : (m q : ℕ) → m ≤ 50 * 2 ^ 92 → q ≤ 2097152 → m * q ≤ 50 * 2 ^ 113
left_small m q h k = let both : m * q ≤ (50 * 2 ^ 92) * 2097152 = mul-le-mul h k in omega (arith, both)

pub over_floor_small : (m f : ℕ) → m ≤ 50 * 2 ^ 113 → 500 ≤ f → over_up m f ≤ 2 ^ 112
over_floor_small m f h least =
    let times : (2 ^ 112) * 500 ≤ (2 ^ 112) * f = mul-le-mul_left (2 ^ 112) least in
    over_up-most m f (2 ^ 112) (omega (arith, least)) (omega (arith, h, times))
