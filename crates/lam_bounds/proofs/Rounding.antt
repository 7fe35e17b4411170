-- Quotients that are rounded up, and the least of them.
use Rattle.std.proofs.Common.{◌≡◌, ◌∙◌, ap, ℕ, ◌+◌, ◌*◌, ◌/◌, ◌%◌, ◌<◌, ◌≤◌, min, arith}
use Rattle.std.proofs.Math.Nat.{le_of_mul-le-mul_right, lt_of_mul-lt-mul_right, mul-le-mul_right}
use Rattle.std.proofs.lemmas.Grind.{div_ceil_times}
use Rattle.lam_tree.specs.ForceBalance.{rounded_up}

-- it is the least number whose product with the divisor is not below
pub up_enough : (a b : ℕ) → 1 ≤ b → a ≤ rounded_up a b * b
up_enough a b some = omega arith

pub up_least : (a b m : ℕ) → 1 ≤ b → a ≤ m * b → rounded_up a b ≤ m
up_least a b m some enough =
    let below : rounded_up a b * b < (m + 1) * b = omega (arith, enough) in
    let h : rounded_up a b < m + 1 = lt_of_mul-lt-mul_right b below in
    omega (arith, h)

-- as a machine rounds
pub rounded-is : (a b : ℕ) → 1 ≤ b → a / b + min 1 (a % b) ≡ rounded_up a b
rounded-is a b some =
    let d = div_ceil_times a b some in
    let q = a / b + min 1 (a % b) in
    let below : q * b < (rounded_up a b + 1) * b = let e = up_enough a b some in omega (arith, d.1, e) in
    let h : q < rounded_up a b + 1 = lt_of_mul-lt-mul_right b below in
    let k = up_least a b q some d.0 in
    omega (arith, h, k)

-- it grows with the quotient
pub up_monotone : (a b c d : ℕ) → 1 ≤ b → 1 ≤ d → a * d ≤ c * b → rounded_up a b ≤ rounded_up c d
up_monotone a b c d some other order =
    let m = rounded_up c d in
    let up : c ≤ m * d = up_enough c d other in
    let times : c * b ≤ (m * d) * b = mul-le-mul_right b up in
    let all : a * d ≤ (m * b) * d = omega (arith, order, times) in
    up_least a b m some (le_of_mul-le-mul_right {k = d} all other)

pub up_zero : (b : ℕ) → 1 ≤ b → rounded_up 0 b ≡ 0
up_zero b some = let h = up_least 0 b 0 some (omega arith) in omega (arith, h)

pub up_nothing : (best b : ℕ) → 1 ≤ b → rounded_up (0 * best) b ≡ 0
up_nothing best b some = let none : 0 * best ≡ 0 = omega arith in ap (λ n. rounded_up n b) none ∙ up_zero b some
