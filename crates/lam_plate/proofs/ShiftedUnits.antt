-- The load of a panel and the stiffness of its wall as whole numbers, and the shift by which 62 bits hold them.
use Rattle.std.proofs.Common.{◌≡◌, refl, ℕ, ◌+◌, ◌-◌, ◌*◌, ◌^◌, ◌<◌, ◌≤◌, ℤ, pos, negsuc, ◌+ℤ◌, ◌-ℤ◌, ◌*ℤ◌, ◌≤ℤ◌, ◌<ℤ◌, arith, SFits, w64, true}
use Rattle.std.specs.Prelude.{unsigned_abs}
use Rattle.std.specs.Int.{int_max, int_min, w128}
use Rattle.std.specs.Int.Count.{count_leading_zeros}
use Rattle.std.proofs.Math.Nat.{pow-le-pow_right}
use Rattle.std.proofs.lemmas.Int.{ints, clamps}
use Rattle.std.proofs.lemmas.Nat.{leading_length, pow-add, pow_pos}
use Rattle.lam_fraction.proofs.Expression.{int, ◌⊕◌, ◌⊖◌, ◌⊗◌}
use Rattle.lam_fraction.proofs.Integers as Z
use Rattle.lam_fraction.proofs.Solver.{◌≐◌}
use Rattle.lam_fraction.proofs.numbers.Machine.{Sized, within, size_at_most, stored-64}
use Rattle.lam_fraction.proofs.numbers.Rounded.{floor-at_most}
use Rattle.lam_fraction.specs.numbers.Rounding.{floor_over}
use Rattle.lam_job.specs.JobData.{PanelData}
use Rattle.lam_job.specs.Ranges.{IsPanel, IsPanelSide, IsFrom}
use Rattle.lam_plate.specs.inside.Formulas as by

-- ---- signs and sizes
pub product-not_negative : (a b : ℤ) → pos 0 ≤ℤ a → pos 0 ≤ℤ b → pos 0 ≤ℤ (a *ℤ b)
product-not_negative a b h k = Z.◌*ₙ◌ h k

size-most : (z : ℤ) (n : ℕ) → unsigned_abs z ≤ n → z ≤ℤ pos n
size-most z n h = omega (arith, ints, h)

pub most-sized : {z : ℤ} (n : ℕ) (s : Sized z) → within s n ≡ true → z ≤ℤ pos n
most-sized {z} n s h = size-most z n (size_at_most z n s h)

pub below-more : (z : ℤ) (m n : ℕ) → unsigned_abs z ≤ m → m < n → z <ℤ pos n
below-more z m n h k = omega (arith, ints, h, k)

pub load-least : (p : PanelData) → IsPanel p → pos 0 ≤ℤ by.load_units p
load-least p h =
    let width : pos 0 ≤ℤ p.width = omega (arith, ints, h.width.least) in
    let load : pos 0 ≤ℤ p.load = omega (arith, ints, h.load.least) in
    product-not_negative (p.load *ℤ (p.width *ℤ p.width)) (pos 11236000) (product-not_negative p.load (p.width *ℤ p.width) load (product-not_negative p.width p.width width width)) (omega (arith, ints))

pub positive-product : (a b : ℤ) → pos 1 ≤ℤ a → pos 1 ≤ℤ b → pos 1 ≤ℤ (a *ℤ b)
positive-product a b h k =
    let p : pos 0 ≤ℤ ((a +ℤ negsuc 0) *ℤ (b +ℤ negsuc 0)) = product-not_negative (a +ℤ negsuc 0) (b +ℤ negsuc 0) (omega (arith, ints, h)) (omega (arith, ints, k)) in
    let e : (a +ℤ negsuc 0) *ℤ (b +ℤ negsuc 0) ≡ a *ℤ b +ℤ negsuc 0 *ℤ a +ℤ negsuc 0 *ℤ b +ℤ pos 1 =
    Z.solve 2 (λ a b. (a ⊕ int (negsuc 0)) ⊗ (b ⊕ int (negsuc 0)) ≐ a ⊗ b ⊕ int (negsuc 0) ⊗ a ⊕ int (negsuc 0) ⊗ b ⊕ int (pos 1)) refl a b in
    omega (arith, ints, p, e, h, k)

-- ---- the shift
held-by : (n : ℕ) → n < 2 ^ 128 → n < 2 ^ 62 * 2 ^ (66 - count_leading_zeros 128 n)
held-by n h =
    let l = leading_length 128 n h in
    let z = count_leading_zeros 128 n in
    let more : 2 ^ l.0 ≤ 2 ^ (62 + (66 - z)) = pow-le-pow_right {n = 2} (omega arith) {i = l.0} {j = 62 + (66 - z)} (omega (arith, l.1)) in
    let product : 2 ^ (62 + (66 - z)) ≡ 2 ^ 62 * 2 ^ (66 - z) = pow-add 2 62 (66 - z) in
    omega (arith, l.2, more, product)

-- of two numbers that are not negative
greater-size : (a b : ℤ) → pos 0 ≤ℤ a → pos 0 ≤ℤ b → (unsigned_abs a ≤ unsigned_abs (int_max a b)) × (unsigned_abs b ≤ unsigned_abs (int_max a b))
greater-size a b h k = (omega (arith, ints, clamps, h, k), omega (arith, ints, clamps, h, k))

size-below : (a b : ℤ) → SFits w128 a → SFits w128 b → unsigned_abs (int_max a b) < 2 ^ 128
size-below a b f g = let h = f.sfits in let k = g.sfits in omega (arith, ints, clamps, h, k)

pub first-held : (a b : ℤ) → pos 0 ≤ℤ a → pos 0 ≤ℤ b → SFits w128 a → SFits w128 b → a <ℤ pos (2 ^ 62 * 2 ^ by.shift_for a b)
first-held a b h k f g = below-more a (unsigned_abs (int_max a b)) _ (greater-size a b h k).0 (held-by (unsigned_abs (int_max a b)) (size-below a b f g))

pub second-held : (a b : ℤ) → pos 0 ≤ℤ a → pos 0 ≤ℤ b → SFits w128 a → SFits w128 b → b <ℤ pos (2 ^ 62 * 2 ^ by.shift_for a b)
second-held a b h k f g = below-more b (unsigned_abs (int_max a b)) _ (greater-size a b h k).1 (held-by (unsigned_abs (int_max a b)) (size-below a b f g))

-- ---- a number that is shifted down
pub shifted-most : (z : ℤ) (k m : ℕ) → z <ℤ pos (m * 2 ^ k) → by.shifted z k <ℤ pos m
shifted-most z k m h =
    let p : 0 < 2 ^ k = pow_pos k in
    let below : (by.shifted z k *ℤ pos (2 ^ k)) <ℤ (pos m *ℤ pos (2 ^ k)) = omega (arith, ints, floor-at_most z (2 ^ k) p, h) in
    Z.below_over {k = pos (2 ^ k)} (omega (arith, ints, p)) (Z.strictly_above below) (Z.solve 3 (λ f m u. u ⊗ (m ⊖ f) ≐ m ⊗ u ⊖ f ⊗ u) refl (by.shifted z k) (pos m) (pos (2 ^ k)))

pub shifted-least : (z : ℤ) (k : ℕ) → pos 0 ≤ℤ z → pos 0 ≤ℤ by.shifted z k
unfolding floor_over
shifted-least (pos n) k h = omega (arith, ints)
shifted-least (negsuc n) k h = absurd (omega (arith, ints, h))

-- ---- what is passed
pub next-stored : (z : ℤ) → pos 0 ≤ℤ z → z <ℤ pos (2 ^ 62) → SFits w64 z → stored-64 (stored-64 z +ℤ pos 1) ≡ z +ℤ pos 1
next-stored z h k f = let g = f.sfits in omega (arith, ints, h, k, g)

pub factor-held : (factor load bound : ℤ) → factor ≤ℤ pos 20000 → pos 0 ≤ℤ load → (pos 20000 *ℤ load) <ℤ bound → (factor *ℤ load) <ℤ bound
factor-held factor load bound h k l =
    let most : (factor *ℤ load) ≤ℤ (pos 20000 *ℤ load) = Z.at_most (Z.◌*ₙ◌ (Z.above h) k) (Z.solve 2 (λ f l. int (pos 20000) ⊗ l ⊖ f ⊗ l ≐ (int (pos 20000) ⊖ f) ⊗ l) refl factor load) in
    omega (arith, ints, most, l)

pub small-fits : (z : ℤ) → pos 0 ≤ℤ z → z <ℤ pos (2 ^ 62) → SFits w64 z
small-fits (pos n) h k = record { sfits = omega (arith, ints, k) }
small-fits (negsuc n) h k = absurd (omega (arith, ints, h))

-- one more than a number that is at most 511
pub next-small : (z q : ℤ) → z ≡ int_min q (pos 511) → SFits w64 z → stored-64 (stored-64 z +ℤ pos 1) ≡ int_min q (pos 511) +ℤ pos 1
next-small z q e f = let g = f.sfits in let most : z ≤ℤ pos 511 = omega (arith, ints, clamps, e) in omega (arith, ints, most, g, e)

-- the square of a side of a panel
pub side-square : (z : ℤ) → IsPanelSide z → IsFrom (pos 2500) (pos 400000000) (z *ℤ z)
side-square z h =
    let low = h.least in
    let high = h.greatest in
    let above : pos 0 ≤ℤ ((z +ℤ negsuc 49) *ℤ (z +ℤ pos 50)) = product-not_negative (z +ℤ negsuc 49) (z +ℤ pos 50) (omega (arith, ints, low)) (omega (arith, ints, low)) in
    let first : (z +ℤ negsuc 49) *ℤ (z +ℤ pos 50) ≡ z *ℤ z +ℤ negsuc 2499 = Z.solve 1 (λ z. (z ⊕ int (negsuc 49)) ⊗ (z ⊕ int (pos 50)) ≐ z ⊗ z ⊕ int (negsuc 2499)) refl z in
    let below : pos 0 ≤ℤ ((pos 20000 -ℤ z) *ℤ (pos 20000 +ℤ z)) = product-not_negative (pos 20000 -ℤ z) (pos 20000 +ℤ z) (omega (arith, ints, high)) (omega (arith, ints, low)) in
    let second : (pos 20000 -ℤ z) *ℤ (pos 20000 +ℤ z) ≡ pos 400000000 -ℤ z *ℤ z = Z.solve 1 (λ z. (int (pos 20000) ⊖ z) ⊗ (int (pos 20000) ⊕ z) ≐ int (pos 400000000) ⊖ z ⊗ z) refl z in
    record { least = omega (arith, ints, above, first); greatest = omega (arith, ints, below, second) }
