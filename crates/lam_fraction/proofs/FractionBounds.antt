-- Bounds of sums, opposites, products and quotients of fractions, and the ends of what encloses them.
use Rattle.std.proofs.Common.{◌≡◌, ◌≢◌, ◌↔◌, ◌⊎◌, inl, inr, refl, sym, ◌∙◌, ap, subst, subst₂, ℤ, pos, negsuc, ◌*ℤ◌, ◌≤ℤ◌, ◌<ℤ◌}
use Rattle.lam_fraction.specs.Fraction.{ℚ, whole, ◌+ℚ◌, ◌-ℚ◌, ◌*ℚ◌, ◌/ℚ◌, opposite, inverse, fraction, ◌≤ℚ◌, ◌<ℚ◌}
use Rattle.lam_fraction.proofs.FractionPairs.{whole-lt, whole-le}
use Rattle.lam_fraction.proofs.FractionRing.{product_comm, product_inverse, whole-product}
use Rattle.lam_fraction.proofs.Expression.{int, ◌⊕◌, ◌⊖◌, ◌⊗◌, minus}
use Rattle.lam_fraction.proofs.Solver.{◌≐◌}
use Rattle.lam_fraction.proofs.Rationals.{solve, from₁, from₂, above, strictly_above, at_most, below, weaken, antisym, decide, reflexive, transitive, below_then_at_most, ◌+ₙ◌, ◌*ₙ◌, ◌*ₚ◌, with_factor, without_factor, zero_factor, not_zero, inverse_positive, fraction_times}

-- equal numbers are at most each other
pub at_most_same : {x y : ℚ} → x ≡ y → x ≤ℚ y
at_most_same {x} e = subst (λ z. x ≤ℚ z) e (reflexive x)

-- ---- sums, opposites and factors
pub sum_monotone : {x y z w : ℚ} → x ≤ℚ y → z ≤ℚ w → x +ℚ z ≤ℚ y +ℚ w
unfolding ◌-ℚ◌
sum_monotone {x} {y} {z} {w} h k = at_most (above h +ₙ above k) (solve 4 (λ x y z w. (y ⊕ w) ⊖ (x ⊕ z) ≐ (y ⊖ x) ⊕ (w ⊖ z)) refl x y z w)

pub opposite_antitone : {x y : ℚ} → x ≤ℚ y → opposite y ≤ℚ opposite x
unfolding ◌-ℚ◌
opposite_antitone {x} {y} h = at_most (above h) (solve 2 (λ x y. minus x ⊖ minus y ≐ y ⊖ x) refl x y)

pub with_factor_below : {x y : ℚ} (k : ℚ) → whole (pos 0) <ℚ k → x <ℚ y → k *ℚ x <ℚ k *ℚ y
unfolding ◌-ℚ◌
with_factor_below {x} {y} k p h = below (p *ₚ strictly_above h) (solve 3 (λ k x y. k ⊗ y ⊖ k ⊗ x ≐ k ⊗ (y ⊖ x)) refl k x y)

-- a product is zero only where a factor is
pub zero_product : (x y : ℚ) → x *ℚ y ≡ whole (pos 0) → (x ≡ whole (pos 0)) ⊎ (y ≡ whole (pos 0))
unfolding ◌-ℚ◌
zero_product x y e = decide x (whole (pos 0))
    (λ h. decide (whole (pos 0)) x
    (λ k. inl (antisym h k))
    (λ k. inr (zero_factor (opposite x) (subst (λ z. whole (pos 0) <ℚ z) (solve 1 (λ x. int (pos 0) ⊖ x ≐ minus x) refl x) (strictly_above k))
    (from₁ (whole (negsuc 0)) e (solve 2 (λ x y. minus x ⊗ y ≐ int (pos 0) ⊕ int (negsuc 0) ⊗ (x ⊗ y ⊖ int (pos 0))) refl x y)))))
    (λ h. inr (zero_factor x h e))

-- ---- the product of two intervals

-- a product with a fixed factor is at least l where the products with the ends are
factor_at_least : (l k a b x : ℚ) → a ≤ℚ x → x ≤ℚ b → l ≤ℚ k *ℚ a → l ≤ℚ k *ℚ b → l ≤ℚ k *ℚ x
unfolding ◌-ℚ◌
factor_at_least l k a b x p q at_a at_b = decide (whole (pos 0)) k
    (λ h. transitive at_a (with_factor k h p))
    (λ h. transitive at_b (at_most (above (weaken h) *ₙ above q) (solve 3 (λ k b x. k ⊗ x ⊖ k ⊗ b ≐ (int (pos 0) ⊖ k) ⊗ (b ⊖ x)) refl k b x)))

factor_at_most : (u k a b x : ℚ) → a ≤ℚ x → x ≤ℚ b → k *ℚ a ≤ℚ u → k *ℚ b ≤ℚ u → k *ℚ x ≤ℚ u
unfolding ◌-ℚ◌
factor_at_most u k a b x p q at_a at_b = decide (whole (pos 0)) k
    (λ h. transitive (with_factor k h q) at_b)
    (λ h. transitive (at_most (above (weaken h) *ₙ above p) (solve 3 (λ k a x. k ⊗ a ⊖ k ⊗ x ≐ (int (pos 0) ⊖ k) ⊗ (x ⊖ a)) refl k a x)) at_a)

-- the product of two intervals lies where the four products of their ends lie
pub product_of_intervals : (l u a b c d x y : ℚ) → a ≤ℚ x → x ≤ℚ b → c ≤ℚ y → y ≤ℚ d
    → (l ≤ℚ a *ℚ c) × (l ≤ℚ a *ℚ d) × (l ≤ℚ b *ℚ c) × (l ≤ℚ b *ℚ d)
    → (a *ℚ c ≤ℚ u) × (a *ℚ d ≤ℚ u) × (b *ℚ c ≤ℚ u) × (b *ℚ d ≤ℚ u)
    → (l ≤ℚ y *ℚ x) × (y *ℚ x ≤ℚ u)
product_of_intervals l u a b c d x y p q r s lows highs = (
  factor_at_least l y a b x p q (turned_low a (factor_at_least l a c d y r s lows.0 lows.1)) (turned_low b (factor_at_least l b c d y r s lows.2 lows.3)),
  factor_at_most u y a b x p q (turned_high a (factor_at_most u a c d y r s highs.0 highs.1)) (turned_high b (factor_at_most u b c d y r s highs.2 highs.3)),
)
  where
    turned_low : (v : ℚ) → l ≤ℚ v *ℚ y → l ≤ℚ y *ℚ v
    turned_low v h = subst (λ t. l ≤ℚ t) (product_comm v y) h

    turned_high : (v : ℚ) → v *ℚ y ≤ℚ u → y *ℚ v ≤ℚ u
    turned_high v h = subst (λ t. t ≤ℚ u) (product_comm v y) h

-- ---- quotients
pub times-inverse : {x : ℚ} → whole (pos 0) <ℚ x → x *ℚ inverse x ≡ whole (pos 1)
times-inverse {x} h = product_inverse x (not_zero h)

pub quotient-times : (x y : ℚ) → y ≢ whole (pos 0) → x /ℚ y *ℚ y ≡ x
unfolding ◌-ℚ◌ ◌/ℚ◌
quotient-times x y h = from₁ x (product_inverse y h) (solve 3 (λ x y i. x ⊗ i ⊗ y ≐ x ⊕ x ⊗ (y ⊗ i ⊖ int (pos 1))) refl x y (inverse y))

-- a fraction times its denominator is its numerator
pub fraction-times : (n d : ℤ) → pos 0 <ℤ d → fraction n d *ℚ whole d ≡ whole n
fraction-times n d h = product_comm (fraction n d) (whole d) ∙ fraction_times n d h

-- a quotient is the one number that gives the dividend back
pub quotient_only : (x y z : ℚ) → y ≢ whole (pos 0) → z *ℚ y ≡ x → z ≡ x /ℚ y
unfolding ◌-ℚ◌ ◌/ℚ◌
quotient_only x y z h e =
    from₂ (opposite z) (product_inverse y h) (inverse y) e
    (solve 4 (λ x y z i. z ≐ x ⊗ i ⊕ minus z ⊗ (y ⊗ i ⊖ int (pos 1)) ⊕ i ⊗ (z ⊗ y ⊖ x)) refl x y z (inverse y))

-- a quotient is at most y where the dividend is at most y times the divisor
pub quotient_at_most : (x k y : ℚ) → whole (pos 0) <ℚ k → (x /ℚ k ≤ℚ y) ↔ (x ≤ℚ y *ℚ k)
unfolding ◌-ℚ◌ ◌/ℚ◌
quotient_at_most x k y h = (
  (λ le. at_most (weaken h *ₙ above le) (from₁ x (times-inverse h) (solve 4 (λ x k y i. y ⊗ k ⊖ x ≐ k ⊗ (y ⊖ x ⊗ i) ⊕ x ⊗ (k ⊗ i ⊖ int (pos 1))) refl x k y (inverse k)))),
  (λ le. at_most (weaken (inverse_positive h) *ₙ above le) (from₁ (opposite y) (times-inverse h)
      (solve 4 (λ x k y i. y ⊖ x ⊗ i ≐ i ⊗ (y ⊗ k ⊖ x) ⊕ minus y ⊗ (k ⊗ i ⊖ int (pos 1))) refl x k y (inverse k)))),
)

pub at_most_quotient : (x k y : ℚ) → whole (pos 0) <ℚ k → (y ≤ℚ x /ℚ k) ↔ (y *ℚ k ≤ℚ x)
unfolding ◌-ℚ◌ ◌/ℚ◌
at_most_quotient x k y h = (
  (λ le. at_most (weaken h *ₙ above le) (from₁ (opposite x) (times-inverse h)
      (solve 4 (λ x k y i. x ⊖ y ⊗ k ≐ k ⊗ (x ⊗ i ⊖ y) ⊕ minus x ⊗ (k ⊗ i ⊖ int (pos 1))) refl x k y (inverse k)))),
  (λ le. at_most (weaken (inverse_positive h) *ₙ above le) (from₁ y (times-inverse h)
      (solve 4 (λ x k y i. x ⊗ i ⊖ y ≐ i ⊗ (x ⊖ y ⊗ k) ⊕ y ⊗ (k ⊗ i ⊖ int (pos 1))) refl x k y (inverse k)))),
)

pub inverse_antitone : {x y : ℚ} → whole (pos 0) <ℚ x → x ≤ℚ y → inverse y ≤ℚ inverse x
unfolding ◌-ℚ◌
inverse_antitone {x} {y} h le =
    let k : whole (pos 0) <ℚ y = below_then_at_most h le in
    at_most (weaken (inverse_positive h) *ₙ weaken (inverse_positive k) *ₙ above le)
    (from₂ (inverse y) (times-inverse h) (opposite (inverse x)) (times-inverse k)
    (solve 4 (λ x y i j. i ⊖ j ≐ i ⊗ j ⊗ (y ⊖ x) ⊕ j ⊗ (x ⊗ i ⊖ int (pos 1)) ⊕ minus i ⊗ (y ⊗ j ⊖ int (pos 1))) refl x y (inverse x) (inverse y)))

-- ---- an end over u, and a numerator over a denominator: low ≤ n / d · u just where low · d ≤ n · u
pub whole_positive : {d : ℤ} → pos 0 <ℤ d → whole (pos 0) <ℚ whole d
whole_positive {d} h = (whole-lt (pos 0) d).1 h

scaled : (n d u : ℤ) → pos 0 <ℤ d → whole d *ℚ (fraction n d *ℚ whole u) ≡ whole (n *ℤ u)
scaled n d u h = solve 3 (λ d f u. d ⊗ (f ⊗ u) ≐ d ⊗ f ⊗ u) refl (whole d) (fraction n d) (whole u) ∙ ap (λ x. x *ℚ whole u) (fraction_times n d h) ∙ sym (whole-product n u)

ends : (d z : ℤ) → whole d *ℚ whole z ≡ whole (z *ℤ d)
ends d z = solve 2 (λ d z. d ⊗ z ≐ z ⊗ d) refl (whole d) (whole z) ∙ sym (whole-product z d)

pub low_end : (low n d u : ℤ) → pos 0 <ℤ d → (whole low ≤ℚ fraction n d *ℚ whole u) ↔ ((low *ℤ d) ≤ℤ (n *ℤ u))
low_end low n d u h = (
  (λ le. (whole-le (low *ℤ d) (n *ℤ u)).0 (subst₂ ◌≤ℚ◌ (ends d low) (scaled n d u h) (with_factor (whole d) (weaken (whole_positive h)) le))),
  (λ le. without_factor (whole d) (whole_positive h) (subst₂ ◌≤ℚ◌ (sym (ends d low)) (sym (scaled n d u h)) ((whole-le (low *ℤ d) (n *ℤ u)).1 le))),
)

pub high_end : (high n d u : ℤ) → pos 0 <ℤ d → (fraction n d *ℚ whole u ≤ℚ whole high) ↔ ((n *ℤ u) ≤ℤ (high *ℤ d))
high_end high n d u h = (
  (λ le. (whole-le (n *ℤ u) (high *ℤ d)).0 (subst₂ ◌≤ℚ◌ (scaled n d u h) (ends d high) (with_factor (whole d) (weaken (whole_positive h)) le))),
  (λ le. without_factor (whole d) (whole_positive h) (subst₂ ◌≤ℚ◌ (sym (scaled n d u h)) (sym (ends d high)) ((whole-le (n *ℤ u) (high *ℤ d)).1 le))),
)
