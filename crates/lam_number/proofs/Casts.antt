-- Whole numbers that went to bits and came back.
use Rattle.std.proofs.Common.{◌≡◌, sym, ap, ◌∙◌, subst, ℕ, ◌<◌, ◌≤◌, ◌^◌, ◌+◌, ◌*◌, pos, arith, ℤ, FitsSigned, ◌+ℤ◌, ◌-ℤ◌, ◌*ℤ◌, ◌≤ℤ◌, unsigned_abs, to_z, of_z}
use Rattle.std.proofs.lemmas.Int.{ints, to_z-of_z, fits_signed_from_abs}
use Rattle.std.specs.Int.{w64, w128}
use Rattle.lam_fraction.specs.inside.FixedEnds.{product_centre, product_spread, product_low, product_high, ratio_low, ratio_high}
use Rattle.lam_fraction.specs.numbers.Rounding.{floor_over, ceil_over}
use Rattle.lam_number.proofs.Sizes.{unit_square, unit_bound}

-- a number of 128 bits that is read again fits 64 bits where it does
pub narrows : (r z : ℤ) → FitsSigned w128 r → r ≡ z → unsigned_abs z < 2 ^ 63 → FitsSigned w64 (to_z w128 (of_z w128 r))
narrows r z fit e small = subst (FitsSigned w64) (sym (to_z-of_z w128 r fit ∙ e)) (fits_signed_from_abs w64 z small)

-- two ends that are read again
pub two_ends : {A : Type 0} (f : ℤ → ℤ → A) (a b : ℤ) → FitsSigned w64 a → FitsSigned w64 b → f (to_z w64 (of_z w64 a)) (to_z w64 (of_z w64 b)) ≡ f a b
two_ends f a b p q = ap (λ x. f x (to_z w64 (of_z w64 b))) (to_z-of_z w64 a p) ∙ ap (f a) (to_z-of_z w64 b q)

-- a number of 64 bits that is read again, made from one of 128
pub reads : (r z : ℤ) → FitsSigned w64 r → FitsSigned w128 z → r ≡ to_z w128 (of_z w128 z) → to_z w64 (of_z w64 r) ≡ z
reads r z p q e = to_z-of_z w64 r p ∙ e ∙ to_z-of_z w128 z q

-- what lies a spread below or above a centre, rounded and read again
pub lowered : (r centre : ℤ) (spread n s : ℕ) → FitsSigned w128 centre → s ≤ 60 → unsigned_abs centre + spread ≤ 24 * (2 ^ s * 2 ^ s) → r ≡ floor_over (to_z w128 (of_z w128 (to_z w128 (of_z w128 centre) -ℤ to_z w128 spread))) n → r ≡ floor_over (centre -ℤ pos spread) n
lowered r centre spread n s fit h room e = e ∙ ap (λ z. floor_over z n) (omega (arith, ints, unit_square s h))

pub raised : (r centre : ℤ) (spread n s : ℕ) → FitsSigned w128 centre → s ≤ 60 → unsigned_abs centre + spread ≤ 24 * (2 ^ s * 2 ^ s) → r ≡ ceil_over (to_z w128 (of_z w128 (to_z w128 (of_z w128 centre) +ℤ to_z w128 spread))) n → r ≡ ceil_over (centre +ℤ pos spread) n
raised r centre spread n s fit h room e = e ∙ ap (λ z. ceil_over z n) (omega (arith, ints, unit_square s h))

-- a product of two numbers that are read again
pub product_read : (f : ℤ → Type 0) (r s a b : ℤ) → FitsSigned w128 r → FitsSigned w128 s → r ≡ a → s ≡ b → f (a *ℤ b) → f (to_z w128 (of_z w128 r) *ℤ to_z w128 (of_z w128 s))
product_read f r s a b p q d e h =
    subst (λ z. f (z *ℤ to_z w128 (of_z w128 s))) (sym (to_z-of_z w128 r p ∙ d)) (subst (λ z. f (a *ℤ z)) (sym (to_z-of_z w128 s q ∙ e)) h)

-- a number of 128 bits that is read again
pub read_wide : (r z : ℤ) → FitsSigned w128 r → r ≡ z → to_z w128 (of_z w128 r) ≡ z
read_wide r z p e = to_z-of_z w128 r p ∙ e

pub read_narrow : (r z : ℤ) → FitsSigned w64 r → r ≡ z → to_z w64 (of_z w64 r) ≡ z
read_narrow r z p e = to_z-of_z w64 r p ∙ e

-- the units of a scale, as a signed number
pub unit_read : (n s : ℕ) → s ≤ 60 → n ≡ 2 ^ s → to_z w128 n ≡ pos (2 ^ s)
unit_read n s h e = omega (arith, ints, unit_bound s h, e)

pub product_low_read : (s : ℕ) (low high low' high' centre r : ℤ) (spread : ℕ) → FitsSigned w128 centre → FitsSigned w64 r → centre ≡ product_centre low high low' high' → spread ≡ product_spread low high low' high' → r ≡ floor_over (to_z w128 (of_z w128 centre) -ℤ pos spread) (2 ^ (s + 2)) → to_z w64 (of_z w64 r) ≡ product_low s low high low' high'
unfolding product_low
product_low_read s low high low' high' centre r spread p q d e f =
    read_narrow r _ q (f ∙ ap (λ z. floor_over (z -ℤ pos spread) (2 ^ (s + 2))) (read_wide centre _ p d)
    ∙ ap (λ k. floor_over (product_centre low high low' high' -ℤ pos k) (2 ^ (s + 2))) e)

pub product_high_read : (s : ℕ) (low high low' high' centre r : ℤ) (spread : ℕ) → FitsSigned w128 centre → FitsSigned w64 r → centre ≡ product_centre low high low' high' → spread ≡ product_spread low high low' high' → r ≡ ceil_over (to_z w128 (of_z w128 centre) +ℤ pos spread) (2 ^ (s + 2)) → to_z w64 (of_z w64 r) ≡ product_high s low high low' high'
unfolding product_high
product_high_read s low high low' high' centre r spread p q d e f =
    read_narrow r _ q (f ∙ ap (λ z. ceil_over (z +ℤ pos spread) (2 ^ (s + 2))) (read_wide centre _ p d)
    ∙ ap (λ k. ceil_over (product_centre low high low' high' +ℤ pos k) (2 ^ (s + 2))) e)

-- the order of two numbers that are read again
pub order_as : (a b p q : ℤ) → a ≡ p → b ≡ q → p ≤ℤ q → a ≤ℤ b
order_as a b p q e f h = subst (λ z. z ≤ℤ b) (sym e) (subst (λ z. p ≤ℤ z) (sym f) h)

-- a numerator in units, read again
pub units_read : (num : ℤ) (n s : ℕ) → FitsSigned w128 num → s ≤ 60 → n ≡ 2 ^ s → to_z w128 (of_z w128 num) *ℤ to_z w128 n ≡ num *ℤ pos (2 ^ s)
units_read num n s p h e = ap (λ x. x *ℤ to_z w128 n) (to_z-of_z w128 num p) ∙ ap (λ x. num *ℤ x) (unit_read n s h e)

-- a quotient of a numerator in units by a denominator that is read again, rounded by f
ratio_read : (f : ℤ → ℕ → ℤ) (s : ℕ) (num den r : ℤ) → FitsSigned w128 r → FitsSigned w128 num → FitsSigned w128 den → r ≡ to_z w128 (of_z w128 num) *ℤ pos (2 ^ s) → f (to_z w128 (of_z w128 r)) (unsigned_abs (to_z w128 (of_z w128 den))) ≡ f (num *ℤ pos (2 ^ s)) (unsigned_abs den)
ratio_read f s num den r p n q e =
    ap (λ z. f z (unsigned_abs (to_z w128 (of_z w128 den)))) (read_wide r _ p (e ∙ ap (λ z. z *ℤ pos (2 ^ s)) (to_z-of_z w128 num n)))
    ∙ ap (λ d. f (num *ℤ pos (2 ^ s)) (unsigned_abs d)) (to_z-of_z w128 den q)

pub ratio_low_read : (s : ℕ) (num den r : ℤ) → FitsSigned w128 r → FitsSigned w128 num → FitsSigned w128 den → r ≡ to_z w128 (of_z w128 num) *ℤ pos (2 ^ s) → floor_over (to_z w128 (of_z w128 r)) (unsigned_abs (to_z w128 (of_z w128 den))) ≡ ratio_low s num den
unfolding ratio_low
ratio_low_read = ratio_read floor_over

pub ratio_high_read : (s : ℕ) (num den r : ℤ) → FitsSigned w128 r → FitsSigned w128 num → FitsSigned w128 den → r ≡ to_z w128 (of_z w128 num) *ℤ pos (2 ^ s) → ceil_over (to_z w128 (of_z w128 r)) (unsigned_abs (to_z w128 (of_z w128 den))) ≡ ratio_high s num den
unfolding ratio_high
ratio_high_read = ratio_read ceil_over

-- an end over a whole number, both widened
pub widened : {A : Type 0} (f : ℤ → ℕ → A) (end k : ℤ) → FitsSigned w64 end → FitsSigned w64 k → f (to_z w128 (of_z w128 (to_z w64 (of_z w64 end)))) (unsigned_abs (to_z w128 (of_z w128 (to_z w64 (of_z w64 k))))) ≡ f end (unsigned_abs k)
widened f end k p q =
    let d : to_z w128 (of_z w128 (to_z w64 (of_z w64 end))) ≡ end = omega (arith, ints) in
    let e : to_z w128 (of_z w128 (to_z w64 (of_z w64 k))) ≡ k = omega (arith, ints) in
    ap (λ z. f z (unsigned_abs (to_z w128 (of_z w128 (to_z w64 (of_z w64 k)))))) d ∙ ap (λ z. f end (unsigned_abs z)) e

-- two numbers of 128 bits that are read again
pub two_wide : {A : Type 0} (f : ℤ → ℤ → A) (a b : ℤ) → FitsSigned w128 a → FitsSigned w128 b → f (to_z w128 (of_z w128 a)) (to_z w128 (of_z w128 b)) ≡ f a b
two_wide f a b p q = ap (λ x. f x (to_z w128 (of_z w128 b))) (to_z-of_z w128 a p) ∙ ap (f a) (to_z-of_z w128 b q)
