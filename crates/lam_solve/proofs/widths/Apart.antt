-- Two ends and how far they are apart: of products, of sums, and of what is left of a load; and how far ends lie from 0
-- where their middle is near it.
use Rattle.std.proofs.Common.{◌≡◌, refl, ◌∙◌, ap, ℕ, ◌+◌, ◌*◌, ◌≤◌, ◌<◌, ℤ, pos, ◌+ℤ◌, ◌-ℤ◌, ◌*ℤ◌, ◌≤ℤ◌, unsigned_abs, arith}
use Rattle.std.proofs.Math.Nat.{mul-le-mul_left, mul-le-mul_right}
use Rattle.std.proofs.lemmas.Int.{ints, clamps, unsigned_abs-mul}
use Rattle.std.specs.Int.{int_min, int_max}
use Rattle.lam_fraction.specs.numbers.Ends as ends
use Rattle.lam_fraction.specs.numbers.Rounding.{floor_over}
use Rattle.lam_fraction.proofs.Expression.{◌⊕◌, ◌⊖◌, ◌⊗◌}
use Rattle.lam_fraction.proofs.Integers as Z
use Rattle.lam_fraction.proofs.Integers.{◌*ₙ◌}
use Rattle.lam_fraction.proofs.Solver.{◌≐◌}
use Rattle.lam_fraction.proofs.numbers.Rounded.{floor-at_most, floor-near}

-- two ends in their order, at most so far apart
pub record Apart (d : ℕ) (low high : ℤ) : Type 0 where
  pub order : low ≤ℤ high
  pub near : high ≤ℤ (low +ℤ pos d)

-- ---- the products of two ends with a number
products-apart : (low high c : ℤ) → unsigned_abs (high *ℤ c -ℤ low *ℤ c) ≡ ends.width low high * unsigned_abs c
unfolding ends.width
products-apart low high c = ap unsigned_abs (Z.solve 3 (λ l h c. h ⊗ c ⊖ l ⊗ c ≐ (h ⊖ l) ⊗ c) refl low high c) ∙ unsigned_abs-mul (high -ℤ low) c

in-order : (a b : ℤ) (d : ℕ) → unsigned_abs (b -ℤ a) ≤ d → Apart d (int_min a b) (int_max a b)
in-order a b d h = record { order = omega (arith, ints, clamps); near = omega (arith, ints, clamps, h) }

pub share-apart : (low high c : ℤ) (d : ℕ) → ends.width low high ≤ d → Apart (d * unsigned_abs c) (int_min (low *ℤ c) (high *ℤ c)) (int_max (low *ℤ c) (high *ℤ c))
share-apart low high c d h =
    let wide : ends.width low high * unsigned_abs c ≤ d * unsigned_abs c = mul-le-mul_right (unsigned_abs c) h in
    in-order (low *ℤ c) (high *ℤ c) (d * unsigned_abs c) (omega (arith, products-apart low high c, wide))

-- ---- sums of six, and what is left of a load
pub sum-apart : {a b c d e f : ℕ} {p q r s t u p' q' r' s' t' u' : ℤ} → Apart a p p' → Apart b q q' → Apart c r r' → Apart d s s' → Apart e t t' → Apart f u u'
    → Apart (a + b + c + d + e + f) (p +ℤ q +ℤ r +ℤ s +ℤ t +ℤ u) (p' +ℤ q' +ℤ r' +ℤ s' +ℤ t' +ℤ u')
sum-apart h i j k l m = record {
  order = omega (arith, ints, h.order, i.order, j.order, k.order, l.order, m.order);
  near = omega (arith, ints, h.near, i.near, j.near, k.near, l.near, m.near);
}

-- six parts with one factor
pub parts-apart : (d a b c e f g most : ℕ) {low high : ℤ} → Apart (d * a + d * b + d * c + d * e + d * f + d * g) low high → a + b + c + e + f + g ≤ most → Apart (d * most) low high
parts-apart d a b c e f g most h few =
    let times : d * (a + b + c + e + f + g) ≤ d * most = mul-le-mul_left d few in
    record { order = h.order; near = omega (arith, ints, h.near, times) }

units-apart : {e : ℕ} {low high : ℤ} (unit : ℕ) → Apart e low high → Apart (e * unit) (low *ℤ pos unit) (high *ℤ pos unit)
units-apart {e} {low} {high} unit h =
    let size : pos (e * unit) ≡ pos e *ℤ pos unit = omega (arith, ints) in
    let near : (high *ℤ pos unit) ≤ℤ (low *ℤ pos unit +ℤ pos e *ℤ pos unit) =
    Z.at_most (Z.number unit *ₙ Z.above h.near) (Z.solve 4 (λ l h e u. l ⊗ u ⊕ e ⊗ u ⊖ h ⊗ u ≐ u ⊗ (l ⊕ e ⊖ h)) refl low high (pos e) (pos unit)) in
    record {
      order = Z.at_most (Z.number unit *ₙ Z.above h.order) (Z.solve 3 (λ l h u. h ⊗ u ⊖ l ⊗ u ≐ u ⊗ (h ⊖ l)) refl low high (pos unit));
      near = omega (arith, ints, near, size);
    }

pub left-apart : {d e : ℕ} {least greatest low high : ℤ} (unit : ℕ) → Apart e low high → Apart d least greatest → Apart (e * unit + d) (low *ℤ pos unit -ℤ greatest) (high *ℤ pos unit -ℤ least)
left-apart unit load rest =
    let scaled = units-apart unit load in
    record { order = omega (arith, ints, scaled.order, rest.order); near = omega (arith, ints, scaled.near, rest.near) }

-- ---- ends whose middle is near 0
pub near-middle : {d : ℕ} {low high : ℤ} (k m : ℕ) → 0 < k → Apart d low high → unsigned_abs (floor_over (low +ℤ high) k) ≤ m → 2 * ends.reach low high ≤ (m + 1) * k + d
unfolding ends.reach
near-middle {d} {low} {high} k m some h small =
    let below = floor-at_most (low +ℤ high) k some in
    let above = floor-near (low +ℤ high) k some in
    let size : unsigned_abs (floor_over (low +ℤ high) k) * k ≤ m * k = mul-le-mul_right k small in
    let product = unsigned_abs-mul (floor_over (low +ℤ high) k) (pos k) in
    omega (arith, ints, below, above, size, product, h.order, h.near)
