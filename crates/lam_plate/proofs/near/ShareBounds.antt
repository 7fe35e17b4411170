-- The shares of two whole numbers in their sum: together they are one, and their product is at least one part in 2^40, for
-- the numbers that a plate has.
use Rattle.std.proofs.Common.{◌≡◌, refl, sym, ◌∙◌, ap, subst₂, ℤ, pos, ◌+ℤ◌, ◌*ℤ◌, ◌≤ℤ◌, ◌<ℤ◌, arith}
use Rattle.std.proofs.lemmas.Int.{ints}
use Rattle.lam_fraction.specs.Fraction.{ℚ, whole, opposite, ◌+ℚ◌, ◌*ℚ◌, ◌≤ℚ◌, ◌<ℚ◌, ◌-ℚ◌}
use Rattle.lam_fraction.specs.numbers.Arithmetic.{exact}
use Rattle.lam_fraction.proofs.Expression.{int, ◌⊕◌, ◌⊖◌, ◌⊗◌, minus}
use Rattle.lam_fraction.proofs.Solver.{◌≐◌}
use Rattle.lam_fraction.proofs.Integers as Z
use Rattle.lam_fraction.proofs.Rationals.{solve, from₁, from₂, above, square, at_most, at_most_over, same_without_factor, fraction_times, ◌+ₙ◌, ◌*ₚ◌}
use Rattle.lam_fraction.proofs.FractionBounds.{whole_positive}
use Rattle.lam_fraction.proofs.FractionRing.{whole-product, whole-sum}
use Rattle.lam_fraction.proofs.WholeFractions.{whole_at_most}
use Rattle.lam_plate.specs.inside.Formulas as by

-- ---- whole numbers

pub cross-least : (x y : ℤ) → pos 1 ≤ℤ x → x ≤ℤ pos 2000000000000000 → pos 2500 ≤ℤ y → y ≤ℤ pos 400000000 → ((x +ℤ y) *ℤ (x +ℤ y)) ≤ℤ (pos 1099511627776 *ℤ (x *ℤ y))
cross-least x y some most least few =
    let wide : x ≤ℤ (pos 800000000000 *ℤ y) = omega (arith, ints, most, least) in
    let long : y ≤ℤ (pos 400000000 *ℤ x) = omega (arith, ints, few, some) in
    let x_least : pos 0 ≤ℤ x = omega (arith, ints, some) in
    let y_least : pos 0 ≤ℤ y = omega (arith, ints, least) in
    Z.at_most (Z.◌+ₙ◌ (Z.◌+ₙ◌ (Z.◌*ₙ◌ x_least (Z.above wide)) (Z.◌*ₙ◌ y_least (Z.above long))) (Z.◌*ₙ◌ (Z.number 299111627774) (Z.◌*ₙ◌ x_least y_least)))
    (Z.solve 2 (λ x y. int (pos 1099511627776) ⊗ (x ⊗ y) ⊖ (x ⊕ y) ⊗ (x ⊕ y)
    ≐ x ⊗ (int (pos 800000000000) ⊗ y ⊖ x) ⊕ y ⊗ (int (pos 400000000) ⊗ x ⊖ y) ⊕ int (pos 299111627774) ⊗ (x ⊗ y)) refl x y)

-- ---- fractions: s and t are x and y over n

product_at_least : (s t x y n : ℚ) → whole (pos 0) <ℚ n → n *ℚ s ≡ x → n *ℚ t ≡ y → n *ℚ n ≤ℚ whole (pos 1099511627776) *ℚ (x *ℚ y) → whole (pos 1) ≤ℚ whole (pos 1099511627776) *ℚ (s *ℚ t)
unfolding ◌-ℚ◌
product_at_least s t x y n positive e f cross =
    at_most_over (positive *ₚ positive) (above cross)
    (from₂ (whole (pos 1099511627776) *ℚ (n *ℚ t)) e (whole (pos 1099511627776) *ℚ x) f
    (solve 5 (λ s t x y n. n ⊗ n ⊗ (int (pos 1099511627776) ⊗ (s ⊗ t) ⊖ int (pos 1))
    ≐ (int (pos 1099511627776) ⊗ (x ⊗ y) ⊖ n ⊗ n)
    ⊕ (int (pos 1099511627776) ⊗ (n ⊗ t)) ⊗ (n ⊗ s ⊖ x) ⊕ (int (pos 1099511627776) ⊗ x) ⊗ (n ⊗ t ⊖ y)) refl s t x y n))

pub product_at_most : (s t : ℚ) → s +ℚ t ≡ whole (pos 1) → whole (pos 0) ≤ℚ s *ℚ t → s *ℚ t ≤ℚ whole (pos 1)
unfolding ◌-ℚ◌
product_at_most s t one shares =
    at_most (square s +ₙ square t +ₙ shares)
    (from₁ (opposite (s +ℚ t +ℚ whole (pos 1))) one (solve 2 (λ s t. int (pos 1) ⊖ s ⊗ t ≐ (s ⊗ s ⊕ t ⊗ t ⊕ s ⊗ t) ⊕ minus (s ⊕ t ⊕ int (pos 1)) ⊗ ((s ⊕ t) ⊖ int (pos 1))) refl s t))

module _ (x y : ℤ) (some : pos 1 ≤ℤ x) (most : x ≤ℤ pos 2000000000000000) (least : pos 2500 ≤ℤ y) (few : y ≤ℤ pos 400000000) where
  abbrev s : ℚ
  s = by.share exact x y

  abbrev t : ℚ
  t = by.share exact y x

  abbrev n : ℚ
  n = whole (x +ℤ y)

  sum_above : pos 0 <ℤ (x +ℤ y)
  sum_above = omega (arith, ints, some, least)

  first_is : n *ℚ s ≡ whole x
  first_is = fraction_times x (x +ℤ y) sum_above

  second_is : n *ℚ t ≡ whole y
  second_is =
      let e : x +ℤ y ≡ y +ℤ x = omega (arith, ints) in
      ap (λ (z : ℤ). whole z *ℚ t) e ∙ fraction_times y (y +ℤ x) (omega (arith, ints, some, least))

  together : (s t x y n : ℚ) → n *ℚ s ≡ x → n *ℚ t ≡ y → n ≡ x +ℚ y → n *ℚ (s +ℚ t) ≡ n *ℚ whole (pos 1)
  unfolding ◌-ℚ◌
  together s t x y n e f h = from₂ (whole (pos 1)) e (whole (pos 1)) f (solve 5 (λ s t x y n. n ⊗ (s ⊕ t) ≐ (x ⊕ y) ⊕ int (pos 1) ⊗ (n ⊗ s ⊖ x) ⊕ int (pos 1) ⊗ (n ⊗ t ⊖ y)) refl s t x y n) ∙ sym h ∙ solve 1 (λ n. n ≐ n ⊗ int (pos 1)) refl n

  pub shares_sum : s +ℚ t ≡ whole (pos 1)
  shares_sum = same_without_factor n (whole_positive sum_above) (together s t (whole x) (whole y) n first_is second_is (whole-sum x y))

  pub shares_least : whole (pos 1) ≤ℚ whole (pos 1099511627776) *ℚ (s *ℚ t)
  shares_least =
      product_at_least s t (whole x) (whole y) n (whole_positive sum_above) first_is second_is
      (subst₂ ◌≤ℚ◌ (whole-product (x +ℤ y) (x +ℤ y)) (whole-product (pos 1099511627776) (x *ℤ y) ∙ ap (λ z. whole (pos 1099511627776) *ℚ z) (whole-product x y))
      (whole_at_most (cross-least x y some most least few)))
