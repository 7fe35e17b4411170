-- What the formulas' ends hold.
use Rattle.std.proofs.Common.{◌≡◌, refl, sym, ap, ◌∙◌, subst, ℕ, ◌+◌, ◌*◌, ◌^◌, ◌<◌, arith, ℤ, pos, negsuc, ◌+ℤ◌, ◌-ℤ◌, ◌*ℤ◌, ◌≤ℤ◌, ◌<ℤ◌, unsigned_abs}
use Rattle.std.proofs.lemmas.Int.{ints, clamps}
use Rattle.std.specs.Int.{int_min, int_max}
use Rattle.std.proofs.lemmas.Nat.{pow_pos}
use Rattle.lam_fraction.specs.Fraction.{ℚ, whole, ◌+ℚ◌, ◌-ℚ◌, ◌*ℚ◌, ◌/ℚ◌, fraction, opposite, ◌≤ℚ◌, ◌<ℚ◌}
use Rattle.lam_fraction.proofs.FractionRing.{whole-sum, whole-product}
use Rattle.lam_fraction.proofs.Expression.{int, ◌⊕◌, ◌⊖◌, ◌⊗◌, minus}
use Rattle.lam_fraction.proofs.Solver.{◌≐◌}
use Rattle.lam_fraction.specs.numbers.Ends.{width}
use Rattle.lam_fraction.specs.numbers.Encloses.{Encloses}
use Rattle.lam_fraction.specs.inside.FixedEnds.{product_centre, product_spread, product_low, product_high, ratio_low, ratio_high}
use Rattle.lam_fraction.specs.numbers.Rounding.{floor_over, ceil_over, root_floor}
use Rattle.lam_fraction.proofs.FractionBounds.{quotient-times}
use Rattle.lam_fraction.proofs.FractionOrder.{exclusive}
use Rattle.lam_fraction.proofs.Rationals.{solve, above, at_most, at_most_over, ◌+ₙ◌, ◌*ₙ◌, number, weaken, transitive, reflexive, decide, product_within}
use Rattle.lam_fraction.proofs.WholeFractions.{whole_at_most, whole_below, whole_not_zero, whole-difference, size_below, size_above}
use Rattle.lam_fraction.proofs.numbers.Sizes.{four_units}
use Rattle.lam_fraction.proofs.numbers.Rounded.{floor-at_most, ceil-at_least, root_floor-is}
use Rattle.lam_fraction.proofs.numbers.Widths.{width-pos}

-- the units of a scale
abbrev pub units : ℕ → ℚ
units s = whole (pos (2 ^ s))

pub units_positive : (s : ℕ) → whole (pos 0) <ℚ units s
units_positive s = whole_below (omega (arith, ints, pow_pos s))

four_positive : (s : ℕ) → whole (pos 0) <ℚ whole (pos 4) *ℚ units s
four_positive s = subst (λ z. whole (pos 0) <ℚ z) (whole-product (pos 4) (pos (2 ^ s))) (whole_below (omega (arith, ints, pow_pos s)))

-- ---- sums and differences
pub sum_held : (s : ℕ) (low high low' high' : ℤ) (x y : ℚ) → Encloses s low high x → Encloses s low' high' y → Encloses s (low +ℤ low') (high +ℤ high') (x +ℚ y)
unfolding ◌-ℚ◌
sum_held s low high low' high' x y p q = record {
  from = subst (λ z. z ≤ℚ (x +ℚ y) *ℚ units s) (sym (whole-sum low low'))
      (at_most (above p.from +ₙ above q.from) (solve 5 (λ a c x y u. (x ⊕ y) ⊗ u ⊖ (a ⊕ c) ≐ (x ⊗ u ⊖ a) ⊕ (y ⊗ u ⊖ c)) refl (whole low) (whole low') x y (units s)));
  to = subst (λ z. (x +ℚ y) *ℚ units s ≤ℚ z) (sym (whole-sum high high'))
      (at_most (above p.to +ₙ above q.to) (solve 5 (λ a c x y u. (a ⊕ c) ⊖ (x ⊕ y) ⊗ u ≐ (a ⊖ x ⊗ u) ⊕ (c ⊖ y ⊗ u)) refl (whole high) (whole high') x y (units s)));
}

pub difference_held : (s : ℕ) (low high low' high' : ℤ) (x y : ℚ) → Encloses s low high x → Encloses s low' high' y → Encloses s (low -ℤ high') (high -ℤ low') (x -ℚ y)
unfolding ◌-ℚ◌
difference_held s low high low' high' x y p q = record {
  from = subst (λ z. z ≤ℚ (x -ℚ y) *ℚ units s) (sym (whole-difference low high'))
      (at_most (above p.from +ₙ above q.to) (solve 5 (λ a c x y u. (x ⊖ y) ⊗ u ⊖ (a ⊖ c) ≐ (x ⊗ u ⊖ a) ⊕ (c ⊖ y ⊗ u)) refl (whole low) (whole high') x y (units s)));
  to = subst (λ z. (x -ℚ y) *ℚ units s ≤ℚ z) (sym (whole-difference high low'))
      (at_most (above p.to +ₙ above q.from) (solve 5 (λ a c x y u. (a ⊖ c) ⊖ (x ⊖ y) ⊗ u ≐ (a ⊖ x ⊗ u) ⊕ (y ⊗ u ⊖ c)) refl (whole high) (whole low') x y (units s)));
}

-- ---- products
-- twice a held number, less the doubled middle, lies within the width
from_middle_low : (s : ℕ) (low high : ℤ) (x : ℚ) → low ≤ℤ high → Encloses s low high x → opposite (whole (pos (width low high))) ≤ℚ whole (pos 2) *ℚ (x *ℚ units s) +ℚ opposite (whole (low +ℤ high))
unfolding ◌-ℚ◌
from_middle_low s low high x h p =
    let r : whole (pos (width low high)) ≡ whole high +ℚ opposite (whole low) = ap whole (width-pos low high h) ∙ whole-difference high low in
    subst (λ z. opposite z ≤ℚ whole (pos 2) *ℚ (x *ℚ units s) +ℚ opposite (whole (low +ℤ high))) (sym r)
    (subst (λ z. opposite (whole high +ℚ opposite (whole low)) ≤ℚ whole (pos 2) *ℚ (x *ℚ units s) +ℚ opposite z) (sym (whole-sum low high))
    (at_most (number 2 *ₙ above p.from) (solve 3 (λ l h x. (int (pos 2) ⊗ x ⊖ (l ⊕ h)) ⊖ minus (h ⊖ l) ≐ int (pos 2) ⊗ (x ⊖ l)) refl (whole low) (whole high) (x *ℚ units s))))

from_middle_high : (s : ℕ) (low high : ℤ) (x : ℚ) → low ≤ℤ high → Encloses s low high x → whole (pos 2) *ℚ (x *ℚ units s) +ℚ opposite (whole (low +ℤ high)) ≤ℚ whole (pos (width low high))
unfolding ◌-ℚ◌
from_middle_high s low high x h p =
    let r : whole (pos (width low high)) ≡ whole high +ℚ opposite (whole low) = ap whole (width-pos low high h) ∙ whole-difference high low in
    subst (λ z. whole (pos 2) *ℚ (x *ℚ units s) +ℚ opposite (whole (low +ℤ high)) ≤ℚ z) (sym r)
    (subst (λ z. whole (pos 2) *ℚ (x *ℚ units s) +ℚ opposite z ≤ℚ whole high +ℚ opposite (whole low)) (sym (whole-sum low high))
    (at_most (number 2 *ₙ above p.to) (solve 3 (λ l h x. (h ⊖ l) ⊖ (int (pos 2) ⊗ x ⊖ (l ⊕ h)) ≐ int (pos 2) ⊗ (h ⊖ x)) refl (whole low) (whole high) (x *ℚ units s))))

-- A product of two numbers near m and n: p and q are twice the numbers less m and n, within r and t.
near_product_low : (m n r t a b x y : ℚ) → opposite r ≤ℚ whole (pos 2) *ℚ x +ℚ opposite m → whole (pos 2) *ℚ x +ℚ opposite m ≤ℚ r → opposite t ≤ℚ whole (pos 2) *ℚ y +ℚ opposite n → whole (pos 2) *ℚ y +ℚ opposite n ≤ℚ t
    → opposite a ≤ℚ m → m ≤ℚ a → opposite b ≤ℚ n → n ≤ℚ b → m *ℚ n +ℚ opposite (a *ℚ t +ℚ b *ℚ r +ℚ r *ℚ t) ≤ℚ whole (pos 4) *ℚ (x *ℚ y)
unfolding ◌-ℚ◌
near_product_low m n r t a b x y p p' q q' h h' k k' =
    at_most (above (product_within p p' q q').0 +ₙ above (product_within h h' q q').0 +ₙ above (product_within k k' p p').0)
    (solve 8 (λ m n r t a b x y. int (pos 4) ⊗ (x ⊗ y) ⊖ (m ⊗ n ⊖ (a ⊗ t ⊕ b ⊗ r ⊕ r ⊗ t))
    ≐ ((int (pos 2) ⊗ x ⊖ m) ⊗ (int (pos 2) ⊗ y ⊖ n) ⊖ minus (r ⊗ t)) ⊕ (m ⊗ (int (pos 2) ⊗ y ⊖ n) ⊖ minus (a ⊗ t)) ⊕ (n ⊗ (int (pos 2) ⊗ x ⊖ m) ⊖ minus (b ⊗ r))) refl m n r t a b x y)

near_product_high : (m n r t a b x y : ℚ) → opposite r ≤ℚ whole (pos 2) *ℚ x +ℚ opposite m → whole (pos 2) *ℚ x +ℚ opposite m ≤ℚ r → opposite t ≤ℚ whole (pos 2) *ℚ y +ℚ opposite n → whole (pos 2) *ℚ y +ℚ opposite n ≤ℚ t
    → opposite a ≤ℚ m → m ≤ℚ a → opposite b ≤ℚ n → n ≤ℚ b → whole (pos 4) *ℚ (x *ℚ y) ≤ℚ m *ℚ n +ℚ (a *ℚ t +ℚ b *ℚ r +ℚ r *ℚ t)
unfolding ◌-ℚ◌
near_product_high m n r t a b x y p p' q q' h h' k k' =
    at_most (above (product_within p p' q q').1 +ₙ above (product_within h h' q q').1 +ₙ above (product_within k k' p p').1)
    (solve 8 (λ m n r t a b x y. (m ⊗ n ⊕ (a ⊗ t ⊕ b ⊗ r ⊕ r ⊗ t)) ⊖ int (pos 4) ⊗ (x ⊗ y)
    ≐ (r ⊗ t ⊖ (int (pos 2) ⊗ x ⊖ m) ⊗ (int (pos 2) ⊗ y ⊖ n)) ⊕ (a ⊗ t ⊖ m ⊗ (int (pos 2) ⊗ y ⊖ n)) ⊕ (b ⊗ r ⊖ n ⊗ (int (pos 2) ⊗ x ⊖ m))) refl m n r t a b x y)

centre_less : (m n : ℤ) (e : ℕ) (f : ℚ) → whole (pos e) ≡ f → whole (m *ℤ n -ℤ pos e) ≡ whole m *ℚ whole n +ℚ opposite f
unfolding ◌-ℚ◌
centre_less m n e f g = whole-difference (m *ℤ n) (pos e) ∙ ap (λ z. z +ℚ opposite (whole (pos e))) (whole-product m n) ∙ ap (λ z. whole m *ℚ whole n +ℚ opposite z) g

centre_more : (m n : ℤ) (e : ℕ) (f : ℚ) → whole (pos e) ≡ f → whole (m *ℤ n +ℤ pos e) ≡ whole m *ℚ whole n +ℚ f
centre_more m n e f g = whole-sum (m *ℤ n) (pos e) ∙ ap (λ z. z +ℚ whole (pos e)) (whole-product m n) ∙ ap (λ z. whole m *ℚ whole n +ℚ z) g

-- a spread, as a number
spread-whole : (a t b r : ℕ) → whole (pos (a * t + b * r + r * t)) ≡ whole (pos a) *ℚ whole (pos t) +ℚ whole (pos b) *ℚ whole (pos r) +ℚ whole (pos r) *ℚ whole (pos t)
spread-whole a t b r =
    whole-sum (pos (a * t + b * r)) (pos (r * t))
    ∙ ap (λ z. z +ℚ whole (pos (r * t))) (whole-sum (pos (a * t)) (pos (b * r)))
    ∙ ap (λ z. z +ℚ whole (pos (b * r)) +ℚ whole (pos (r * t))) (whole-product (pos a) (pos t))
    ∙ ap (λ z. whole (pos a) *ℚ whole (pos t) +ℚ z +ℚ whole (pos (r * t))) (whole-product (pos b) (pos r))
    ∙ ap (λ z. whole (pos a) *ℚ whole (pos t) +ℚ whole (pos b) *ℚ whole (pos r) +ℚ z) (whole-product (pos r) (pos t))

-- ends over four units
four_units-whole : (s : ℕ) → whole (pos (2 ^ (s + 2))) ≡ whole (pos 4) *ℚ units s
four_units-whole s = ap (λ n. whole (pos n)) (four_units s) ∙ whole-product (pos 4) (pos (2 ^ s))

floor_held : (s : ℕ) (z : ℤ) (x y : ℚ) → whole z ≤ℚ whole (pos 4) *ℚ ((x *ℚ units s) *ℚ (y *ℚ units s)) → whole (floor_over z (2 ^ (s + 2))) ≤ℚ (x *ℚ y) *ℚ units s
unfolding ◌-ℚ◌
floor_held s z x y h =
    let f = floor_over z (2 ^ (s + 2)) in
    let e : whole (f *ℤ pos (2 ^ (s + 2))) ≡ whole f *ℚ (whole (pos 4) *ℚ units s) = whole-product f (pos (2 ^ (s + 2))) ∙ ap (λ u. whole f *ℚ u) (four_units-whole s) in
    let k : whole f *ℚ (whole (pos 4) *ℚ units s) ≤ℚ whole z = subst (λ t. t ≤ℚ whole z) e (whole_at_most (floor-at_most z (2 ^ (s + 2)) (pow_pos (s + 2)))) in
    at_most_over {k = whole (pos 4) *ℚ units s} (four_positive s) (above (transitive k h))
    (solve 4 (λ f x y u. (int (pos 4) ⊗ u) ⊗ ((x ⊗ y) ⊗ u ⊖ f) ≐ int (pos 4) ⊗ ((x ⊗ u) ⊗ (y ⊗ u)) ⊖ f ⊗ (int (pos 4) ⊗ u)) refl (whole f) x y (units s))

ceil_held : (s : ℕ) (z : ℤ) (x y : ℚ) → whole (pos 4) *ℚ ((x *ℚ units s) *ℚ (y *ℚ units s)) ≤ℚ whole z → (x *ℚ y) *ℚ units s ≤ℚ whole (ceil_over z (2 ^ (s + 2)))
unfolding ◌-ℚ◌
ceil_held s z x y h =
    let f = ceil_over z (2 ^ (s + 2)) in
    let e : whole (f *ℤ pos (2 ^ (s + 2))) ≡ whole f *ℚ (whole (pos 4) *ℚ units s) = whole-product f (pos (2 ^ (s + 2))) ∙ ap (λ u. whole f *ℚ u) (four_units-whole s) in
    let k : whole z ≤ℚ whole f *ℚ (whole (pos 4) *ℚ units s) = subst (λ t. whole z ≤ℚ t) e (whole_at_most (ceil-at_least z (2 ^ (s + 2)) (pow_pos (s + 2)))) in
    at_most_over {k = whole (pos 4) *ℚ units s} (four_positive s) (above (transitive h k))
    (solve 4 (λ f x y u. (int (pos 4) ⊗ u) ⊗ (f ⊖ (x ⊗ y) ⊗ u) ≐ f ⊗ (int (pos 4) ⊗ u) ⊖ int (pos 4) ⊗ ((x ⊗ u) ⊗ (y ⊗ u))) refl (whole f) x y (units s))

pub product_held : (s : ℕ) (low high low' high' : ℤ) (x y : ℚ) → low ≤ℤ high → low' ≤ℤ high' → Encloses s low high x → Encloses s low' high' y → Encloses s (product_low s low high low' high') (product_high s low high low' high') (x *ℚ y)
unfolding product_low product_high product_centre product_spread
product_held s low high low' high' x y h k p q =
    let c = (low +ℤ high) *ℤ (low' +ℤ high') in
    let e = product_spread low high low' high' in
    let m = low +ℤ high in
    let n = low' +ℤ high' in
    let r = width low high in
    let t = width low' high' in
    let a = unsigned_abs m in
    let b = unsigned_abs n in
    let spread = spread-whole a t b r in
    let low_sum = near_product_low (whole m) (whole n) (whole (pos r)) (whole (pos t)) (whole (pos a)) (whole (pos b)) (x *ℚ units s) (y *ℚ units s)
    (from_middle_low s low high x h p) (from_middle_high s low high x h p) (from_middle_low s low' high' y k q) (from_middle_high s low' high' y k q)
    (size_below m) (size_above m) (size_below n) (size_above n) in
    let high_sum = near_product_high (whole m) (whole n) (whole (pos r)) (whole (pos t)) (whole (pos a)) (whole (pos b)) (x *ℚ units s) (y *ℚ units s)
    (from_middle_low s low high x h p) (from_middle_high s low high x h p) (from_middle_low s low' high' y k q) (from_middle_high s low' high' y k q)
    (size_below m) (size_above m) (size_below n) (size_above n) in
    record {
      from = floor_held s (c -ℤ pos e) x y (subst (λ z. z ≤ℚ whole (pos 4) *ℚ ((x *ℚ units s) *ℚ (y *ℚ units s))) (sym (centre_less m n e _ spread)) low_sum);
      to = ceil_held s (c +ℤ pos e) x y (subst (λ z. whole (pos 4) *ℚ ((x *ℚ units s) *ℚ (y *ℚ units s)) ≤ℚ z) (sym (centre_more m n e _ spread)) high_sum);
    }

-- ---- quotients
divided_low : (s n : ℕ) (z : ℤ) (y : ℚ) → 0 < n → whole z ≤ℚ (y *ℚ whole (pos n)) *ℚ units s → whole (floor_over z n) ≤ℚ y *ℚ units s
unfolding ◌-ℚ◌
divided_low s n z y p h =
    let f = floor_over z n in
    let k : whole f *ℚ whole (pos n) ≤ℚ whole z = subst (λ t. t ≤ℚ whole z) (whole-product f (pos n)) (whole_at_most (floor-at_most z n p)) in
    at_most_over {k = whole (pos n)} (whole_below (omega (arith, ints, p))) (above (transitive k h))
    (solve 4 (λ f k y u. k ⊗ (y ⊗ u ⊖ f) ≐ (y ⊗ k) ⊗ u ⊖ f ⊗ k) refl (whole f) (whole (pos n)) y (units s))

divided_high : (s n : ℕ) (z : ℤ) (y : ℚ) → 0 < n → (y *ℚ whole (pos n)) *ℚ units s ≤ℚ whole z → y *ℚ units s ≤ℚ whole (ceil_over z n)
unfolding ◌-ℚ◌
divided_high s n z y p h =
    let f = ceil_over z n in
    let k : whole z ≤ℚ whole f *ℚ whole (pos n) = subst (λ t. whole z ≤ℚ t) (whole-product f (pos n)) (whole_at_most (ceil-at_least z n p)) in
    at_most_over {k = whole (pos n)} (whole_below (omega (arith, ints, p))) (above (transitive h k))
    (solve 4 (λ f k y u. k ⊗ (f ⊖ y ⊗ u) ≐ f ⊗ k ⊖ (y ⊗ k) ⊗ u) refl (whole f) (whole (pos n)) y (units s))

-- a quotient times its divisor
quotient-size : (x : ℚ) (k : ℤ) → pos 0 <ℤ k → (x /ℚ whole k) *ℚ whole (pos (unsigned_abs k)) ≡ x
quotient-size x k p =
    let e : pos (unsigned_abs k) ≡ k = omega (arith, ints, p) in
    ap (λ z. (x /ℚ whole k) *ℚ whole z) e ∙ quotient-times x (whole k) (whole_not_zero k p)

pub quotient_held : (s : ℕ) (low high k : ℤ) (x : ℚ) → pos 1 ≤ℤ k → Encloses s low high x → Encloses s (floor_over low (unsigned_abs k)) (ceil_over high (unsigned_abs k)) (x /ℚ whole k)
quotient_held s low high k x h p =
    let positive : 0 < unsigned_abs k = omega (arith, ints, h) in
    let e = quotient-size x k (omega (arith, ints, h)) in
    record {
      from = divided_low s (unsigned_abs k) low (x /ℚ whole k) positive (subst (λ z. whole low ≤ℚ z *ℚ units s) (sym e) p.from);
      to = divided_high s (unsigned_abs k) high (x /ℚ whole k) positive (subst (λ z. z *ℚ units s ≤ℚ whole high) (sym e) p.to);
    }

pub ratio_held : (s : ℕ) (num den : ℤ) → pos 0 <ℤ den → Encloses s (ratio_low s num den) (ratio_high s num den) (fraction num den)
unfolding ratio_low ratio_high fraction
ratio_held s num den h =
    let positive : 0 < unsigned_abs den = omega (arith, ints, h) in
    let e : whole (num *ℤ pos (2 ^ s)) ≡ ((whole num /ℚ whole den) *ℚ whole (pos (unsigned_abs den))) *ℚ units s =
    whole-product num (pos (2 ^ s)) ∙ ap (λ z. z *ℚ units s) (sym (quotient-size (whole num) den h)) in
    record {
      from = divided_low s (unsigned_abs den) (num *ℤ pos (2 ^ s)) (whole num /ℚ whole den) positive (subst (λ z. whole (num *ℤ pos (2 ^ s)) ≤ℚ z) e (reflexive _));
      to = divided_high s (unsigned_abs den) (num *ℤ pos (2 ^ s)) (whole num /ℚ whole den) positive (subst (λ z. z ≤ℚ whole (num *ℤ pos (2 ^ s))) e (reflexive _));
    }

-- ---- multiples
min-first : (a b : ℤ) → int_min a b ≤ℤ a
min-first a b = omega (arith, ints, clamps)

min-second : (a b : ℤ) → int_min a b ≤ℤ b
min-second a b = omega (arith, ints, clamps)

max-first : (a b : ℤ) → a ≤ℤ int_max a b
max-first a b = omega (arith, ints, clamps)

max-second : (a b : ℤ) → b ≤ℤ int_max a b
max-second a b = omega (arith, ints, clamps)

times_up : (s : ℕ) (low high k : ℤ) (x : ℚ) → pos 0 ≤ℤ k → Encloses s low high x → (whole (low *ℤ k) ≤ℚ (x *ℚ whole k) *ℚ units s) × ((x *ℚ whole k) *ℚ units s ≤ℚ whole (high *ℤ k))
unfolding ◌-ℚ◌
times_up s low high k x h p = (
  subst (λ z. z ≤ℚ (x *ℚ whole k) *ℚ units s) (sym (whole-product low k))
      (at_most (whole_at_most h *ₙ above p.from) (solve 4 (λ l k x u. (x ⊗ k) ⊗ u ⊖ l ⊗ k ≐ k ⊗ (x ⊗ u ⊖ l)) refl (whole low) (whole k) x (units s))),
  subst (λ z. (x *ℚ whole k) *ℚ units s ≤ℚ z) (sym (whole-product high k))
      (at_most (whole_at_most h *ₙ above p.to) (solve 4 (λ l k x u. l ⊗ k ⊖ (x ⊗ k) ⊗ u ≐ k ⊗ (l ⊖ x ⊗ u)) refl (whole high) (whole k) x (units s))),
)

times_down : (s : ℕ) (low high k : ℤ) (x : ℚ) → k ≤ℤ pos 0 → Encloses s low high x → (whole (high *ℤ k) ≤ℚ (x *ℚ whole k) *ℚ units s) × ((x *ℚ whole k) *ℚ units s ≤ℚ whole (low *ℤ k))
unfolding ◌-ℚ◌
times_down s low high k x h p = (
  subst (λ z. z ≤ℚ (x *ℚ whole k) *ℚ units s) (sym (whole-product high k))
      (at_most (above (whole_at_most h) *ₙ above p.to) (solve 4 (λ l k x u. (x ⊗ k) ⊗ u ⊖ l ⊗ k ≐ (int (pos 0) ⊖ k) ⊗ (l ⊖ x ⊗ u)) refl (whole high) (whole k) x (units s))),
  subst (λ z. (x *ℚ whole k) *ℚ units s ≤ℚ z) (sym (whole-product low k))
      (at_most (above (whole_at_most h) *ₙ above p.from) (solve 4 (λ l k x u. l ⊗ k ⊖ (x ⊗ k) ⊗ u ≐ (int (pos 0) ⊖ k) ⊗ (x ⊗ u ⊖ l)) refl (whole low) (whole k) x (units s))),
)

pub times_held : (s : ℕ) (low high k : ℤ) (x : ℚ) → Encloses s low high x → Encloses s (int_min (low *ℤ k) (high *ℤ k)) (int_max (low *ℤ k) (high *ℤ k)) (x *ℚ whole k)
times_held s low high (pos n) x p =
    let k = pos n in
    let t = times_up s low high k x (omega (arith, ints)) p in
    record { from = transitive (whole_at_most (min-first (low *ℤ k) (high *ℤ k))) t.0; to = transitive t.1 (whole_at_most (max-second (low *ℤ k) (high *ℤ k))) }
times_held s low high (negsuc n) x p =
    let k = negsuc n in
    let t = times_down s low high k x (omega (arith, ints)) p in
    record { from = transitive (whole_at_most (min-second (low *ℤ k) (high *ℤ k))) t.0; to = transitive t.1 (whole_at_most (max-first (low *ℤ k) (high *ℤ k))) }

-- ---- hulls
pub hull_first : (s : ℕ) (low high low' high' : ℤ) (x : ℚ) → Encloses s low high x → Encloses s (int_min low low') (int_max high high') x
hull_first s low high low' high' x p = record { from = transitive (whole_at_most (min-first low low')) p.from; to = transitive p.to (whole_at_most (max-first high high')) }

pub hull_second : (s : ℕ) (low high low' high' : ℤ) (x : ℚ) → Encloses s low' high' x → Encloses s (int_min low low') (int_max high high') x
hull_second s low high low' high' x p = record { from = transitive (whole_at_most (min-second low low')) p.from; to = transitive p.to (whole_at_most (max-second high high')) }

-- ---- roots
-- of two numbers that are not negative the greater has the greater square
squares : (x y : ℚ) → whole (pos 0) ≤ℚ x → whole (pos 0) ≤ℚ y → x ≤ℚ y → x *ℚ x ≤ℚ y *ℚ y
unfolding ◌-ℚ◌
squares x y p q h = at_most (above h *ₙ (p +ₙ q)) (solve 2 (λ x y. y ⊗ y ⊖ x ⊗ x ≐ (y ⊖ x) ⊗ (x ⊕ y)) refl x y)

root_over : (s r : ℕ) (low high : ℤ) (x : ℚ) → pos 0 ≤ℤ high → unsigned_abs high * 2 ^ s < (r + 1) * (r + 1) → whole (pos 0) ≤ℚ x → Encloses s low high (x *ℚ x) → Encloses s (pos 0) (pos (r + 1)) x
unfolding ◌-ℚ◌
root_over s r low high x h near sign p =
    let scaled : whole (pos 0) ≤ℚ x *ℚ units s = sign *ₙ weaken (units_positive s) in
    let square_most : (x *ℚ units s) *ℚ (x *ℚ units s) ≤ℚ whole high *ℚ units s =
    at_most (weaken (units_positive s) *ₙ above p.to) (solve 3 (λ h x u. h ⊗ u ⊖ (x ⊗ u) ⊗ (x ⊗ u) ≐ u ⊗ (h ⊖ (x ⊗ x) ⊗ u)) refl (whole high) x (units s)) in
    let size : high ≡ pos (unsigned_abs high) = omega (arith, ints, h) in
    let product : whole high *ℚ units s ≡ whole (pos (unsigned_abs high * 2 ^ s)) = ap (λ z. whole z *ℚ units s) size ∙ sym (whole-product (pos (unsigned_abs high)) (pos (2 ^ s))) in
    let below : whole (pos (unsigned_abs high * 2 ^ s)) <ℚ whole (pos (r + 1)) *ℚ whole (pos (r + 1)) =
    subst (λ z. whole (pos (unsigned_abs high * 2 ^ s)) <ℚ z) (whole-product (pos (r + 1)) (pos (r + 1))) (whole_below (omega (arith, ints, near))) in
    let most : (x *ℚ units s) *ℚ (x *ℚ units s) ≤ℚ whole (pos (unsigned_abs high * 2 ^ s)) = subst (λ z. (x *ℚ units s) *ℚ (x *ℚ units s) ≤ℚ z) product square_most in
    record {
      from = scaled;
      to = decide (x *ℚ units s) (whole (pos (r + 1))) (λ k. k)
          (λ k. absurd (exclusive (whole (pos (r + 1)) *ℚ whole (pos (r + 1))) (whole (pos (unsigned_abs high * 2 ^ s)))
          (transitive (squares (whole (pos (r + 1))) (x *ℚ units s) (number (r + 1)) scaled (weaken k)) most) below));
    }

pub root_held : (s : ℕ) (low high : ℤ) (x : ℚ) → pos 0 ≤ℤ high → whole (pos 0) ≤ℚ x → Encloses s low high (x *ℚ x) → Encloses s (pos 0) (pos (root_floor (unsigned_abs high * 2 ^ s) + 1)) x
root_held s low high x h sign p = root_over s _ low high x h (root_floor-is (unsigned_abs high * 2 ^ s)).next sign p

-- ---- a high end that is raised to the low one where it is below it
pub raised_held : {s : ℕ} {low high : ℤ} {x : ℚ} → Encloses s low high x → Encloses s low (int_max low high) x
raised_held {low = low} {high = high} p = record { from = p.from; to = transitive p.to (whole_at_most (max-second low high)) }
