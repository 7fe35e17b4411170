-- Comparisons by cross products of shifted numbers: what they say of the numbers themselves, and of what is held.
use Rattle.std.proofs.Common.{◌≡◌, refl, sym, subst, subst₂, ℕ, ◌^◌, Bool, true, false, T, ℤ, pos, ◌+ℤ◌, ◌-ℤ◌, ◌*ℤ◌, ◌≤ℤ◌, ◌<ℤ◌, arith}
use Rattle.std.specs.Prelude.{int_lt, int_le}
use Rattle.std.proofs.lemmas.Int.{ints, by_lt_z}
use Rattle.std.proofs.lemmas.Nat.{pow_pos}
use Rattle.lam_fraction.specs.Fraction.{ℚ, whole, fraction, ◌*ℚ◌, ◌≤ℚ◌, ◌<ℚ◌, ◌-ℚ◌}
use Rattle.lam_fraction.specs.numbers.Numbers.{Numbers, Holds, unit}
use Rattle.lam_fraction.proofs.Expression.{int, ◌⊕◌, ◌⊖◌, ◌⊗◌}
use Rattle.lam_fraction.proofs.Solver.{◌≐◌}
use Rattle.lam_fraction.proofs.Integers as Z
use Rattle.lam_fraction.proofs.Rationals.{solve, from₁, above, strictly_above, weaken, below_over, below_then_at_most, transitive, ◌*ₙ◌, ◌+ₚ◌, ◌*ₚ◌}
use Rattle.lam_fraction.proofs.FractionBounds.{whole_positive, fraction-times}
use Rattle.lam_fraction.proofs.FractionPairs.{whole-lt, whole-le}
use Rattle.lam_fraction.proofs.FractionRing.{whole-product}
use Rattle.lam_fraction.proofs.WholeFractions.{whole_at_most, whole_below}
use Rattle.lam_fraction.proofs.numbers.Rounded.{floor-at_most, floor-near}
use Rattle.lam_plate.specs.inside.Formulas as by
use Rattle.lam_plate.proofs.ShiftedUnits.{product-not_negative}

-- ---- tests

pub is_true : (b : Bool) → T b → b ≡ true
is_true true t = refl
is_true false t = absurd t

pub below-of_test : (a b : ℤ) → int_lt a b ≡ true → a <ℤ b
below-of_test a b e = record { lt = subst T (sym e) tt }

pub test-of_below : (a b : ℤ) → a <ℤ b → int_lt a b ≡ true
test-of_below a b h = is_true (int_lt a b) h.lt

pub at_most-of_test : (a b : ℤ) → int_le a b ≡ true → a ≤ℤ b
at_most-of_test a b e = record { le = subst T (sym e) tt }

pub test-of_at_most : (a b : ℤ) → a ≤ℤ b → int_le a b ≡ true
test-of_at_most a b h = is_true (int_le a b) h.le

-- ---- whole numbers

positive-factor : (a b : ℤ) → pos 0 ≤ℤ b → pos 0 <ℤ (a *ℤ b) → pos 0 <ℤ a
positive-factor a b h p = by_lt_z (pos 0) a (λ (k : pos 0 <ℤ a). k) (λ (k : a ≤ℤ pos 0).
    let n : pos 0 ≤ℤ ((pos 0 -ℤ a) *ℤ b) = product-not_negative (pos 0 -ℤ a) b (omega (arith, ints, k)) h in
    let e : (pos 0 -ℤ a) *ℤ b ≡ pos 0 -ℤ a *ℤ b = Z.solve 2 (λ a b. (int (pos 0) ⊖ a) ⊗ b ≐ int (pos 0) ⊖ a ⊗ b) refl a b in
    absurd (omega (arith, ints, n, e, p)))

-- a number over the steps of a shift
pub below-next : (z : ℤ) (k : ℕ) → z <ℤ ((by.shifted z k +ℤ pos 1) *ℤ pos (2 ^ k))
below-next z k =
    let near = floor-near z (2 ^ k) (pow_pos k) in
    let e : (by.shifted z k +ℤ pos 1) *ℤ pos (2 ^ k) ≡ by.shifted z k *ℤ pos (2 ^ k) +ℤ pos (2 ^ k) = Z.solve 2 (λ f u. (f ⊕ int (pos 1)) ⊗ u ≐ f ⊗ u ⊕ u) refl (by.shifted z k) (pos (2 ^ k)) in
    omega (arith, ints, near, e)

pub shifted-within : (z : ℤ) (k : ℕ) → (by.shifted z k *ℤ pos (2 ^ k)) ≤ℤ z
shifted-within z k = floor-at_most z (2 ^ k) (pow_pos k)

pub power-above : (k : ℕ) → pos 0 <ℤ pos (2 ^ k)
power-above k = omega (arith, ints, pow_pos k)

-- what is shifted keeps its order
pub shifted-order : (y z : ℤ) (k : ℕ) → y ≤ℤ z → by.shifted y k ≤ℤ by.shifted z k
shifted-order y z k h =
    let low = shifted-within y k in
    let high = below-next z k in
    let less : (by.shifted y k *ℤ pos (2 ^ k)) <ℤ ((by.shifted z k +ℤ pos 1) *ℤ pos (2 ^ k)) = omega (arith, ints, low, high, h) in
    let below : by.shifted y k <ℤ (by.shifted z k +ℤ pos 1) = Z.below_over {k = pos (2 ^ k)} (power-above k) (Z.strictly_above less)
    (Z.solve 3 (λ f g u. u ⊗ (g ⊖ f) ≐ g ⊗ u ⊖ f ⊗ u) refl (by.shifted y k) (by.shifted z k +ℤ pos 1) (pos (2 ^ k))) in
    omega (arith, ints, below)

-- num over den is below low over high, where it is so of the shifted ones
meets-cross : (num den load stiffness low high u : ℤ) → pos 0 ≤ℤ load → pos 0 ≤ℤ stiffness → pos 0 <ℤ high → pos 0 <ℤ u
    → num <ℤ ((load +ℤ pos 1) *ℤ u) → (stiffness *ℤ u) ≤ℤ den → ((load +ℤ pos 1) *ℤ high) <ℤ (low *ℤ stiffness) → (num *ℤ high) <ℤ (low *ℤ den)
meets-cross num den load stiffness low high u load_least stiffness_least high_above u_above num_most den_least cross =
    let next : pos 0 ≤ℤ (load +ℤ pos 1) = omega (arith, ints, load_least) in
    let some = product-not_negative (load +ℤ pos 1) high next (Z.weaken high_above) in
    let low_above : pos 0 <ℤ low = positive-factor low stiffness stiffness_least (omega (arith, ints, some, cross)) in
    Z.below (Z.◌+ₚ◌ (Z.◌+ₚ◌ (Z.◌*ₚ◌ u_above (Z.strictly_above cross)) (Z.◌*ₙ◌ (Z.weaken low_above) (Z.above den_least))) (Z.◌*ₙ◌ (Z.weaken high_above) (Z.above (Z.weaken num_most))))
    (Z.solve 7 (λ num den load stiffness low high u. low ⊗ den ⊖ num ⊗ high
    ≐ u ⊗ (low ⊗ stiffness ⊖ (load ⊕ int (pos 1)) ⊗ high) ⊕ low ⊗ (den ⊖ stiffness ⊗ u) ⊕ high ⊗ ((load ⊕ int (pos 1)) ⊗ u ⊖ num)) refl num den load stiffness low high u)

fails-cross : (num den load stiffness low high u : ℤ) → pos 0 ≤ℤ load → pos 0 ≤ℤ stiffness → pos 0 ≤ℤ high → pos 0 <ℤ u
    → (load *ℤ u) ≤ℤ num → den <ℤ ((stiffness +ℤ pos 1) *ℤ u) → (high *ℤ (stiffness +ℤ pos 1)) <ℤ (load *ℤ low) → (high *ℤ den) <ℤ (num *ℤ low)
fails-cross num den load stiffness low high u load_least stiffness_least high_least u_above num_least den_most cross =
    let next : pos 0 ≤ℤ (stiffness +ℤ pos 1) = omega (arith, ints, stiffness_least) in
    let some = product-not_negative high (stiffness +ℤ pos 1) high_least next in
    let turned : load *ℤ low ≡ low *ℤ load = Z.solve 2 (λ a b. a ⊗ b ≐ b ⊗ a) refl load low in
    let low_above : pos 0 <ℤ low = positive-factor low load load_least (omega (arith, ints, some, cross, turned)) in
    Z.below (Z.◌+ₚ◌ (Z.◌+ₚ◌ (Z.◌*ₚ◌ u_above (Z.strictly_above cross)) (Z.◌*ₙ◌ (Z.weaken low_above) (Z.above num_least))) (Z.◌*ₙ◌ high_least (Z.above (Z.weaken den_most))))
    (Z.solve 7 (λ num den load stiffness low high u. num ⊗ low ⊖ high ⊗ den
    ≐ u ⊗ (load ⊗ low ⊖ high ⊗ (stiffness ⊕ int (pos 1))) ⊕ low ⊗ (num ⊖ load ⊗ u) ⊕ high ⊗ ((stiffness ⊕ int (pos 1)) ⊗ u ⊖ den)) refl num den load stiffness low high u)

-- ---- what is held

-- f is num / den; e and s are g and t times u
exact-meets : (g t u f num den low high : ℚ) → whole (pos 0) <ℚ u → whole (pos 0) <ℚ den → whole (pos 0) ≤ℚ num → f *ℚ den ≡ num
    → low ≤ℚ g *ℚ u → t *ℚ u ≤ℚ high → num *ℚ high <ℚ low *ℚ den → f *ℚ t <ℚ g
unfolding ◌-ℚ◌
exact-meets g t u f num den low high u_above den_above num_least e from to cross =
    below_over (den_above *ₚ u_above) (strictly_above cross +ₚ (weaken den_above *ₙ above from) +ₚ (num_least *ₙ above to))
    (from₁ (whole (pos 0) -ℚ t *ℚ u) e
    (solve 8 (λ g t u f num den low high. den ⊗ u ⊗ (g ⊖ f ⊗ t)
    ≐ (low ⊗ den ⊖ num ⊗ high) ⊕ den ⊗ (g ⊗ u ⊖ low) ⊕ num ⊗ (high ⊖ t ⊗ u) ⊕ (int (pos 0) ⊖ t ⊗ u) ⊗ (f ⊗ den ⊖ num)) refl g t u f num den low high))

exact-fails : (g t u f num den low high : ℚ) → whole (pos 0) <ℚ u → whole (pos 0) <ℚ den → whole (pos 0) ≤ℚ num → f *ℚ den ≡ num
    → g *ℚ u ≤ℚ high → low ≤ℚ t *ℚ u → high *ℚ den <ℚ num *ℚ low → g <ℚ f *ℚ t
unfolding ◌-ℚ◌
exact-fails g t u f num den low high u_above den_above num_least e to from cross =
    below_over (den_above *ₚ u_above) (strictly_above cross +ₚ (num_least *ₙ above from) +ₚ (weaken den_above *ₙ above to))
    (from₁ (t *ℚ u) e
    (solve 8 (λ g t u f num den low high. den ⊗ u ⊗ (f ⊗ t ⊖ g)
    ≐ (num ⊗ low ⊖ high ⊗ den) ⊕ num ⊗ (t ⊗ u ⊖ low) ⊕ den ⊗ (high ⊖ g ⊗ u) ⊕ (t ⊗ u) ⊗ (f ⊗ den ⊖ num)) refl g t u f num den low high))

products-below : (a b c d : ℤ) → (a *ℤ b) <ℤ (c *ℤ d) → whole a *ℚ whole b <ℚ whole c *ℚ whole d
products-below a b c d h = subst₂ ◌<ℚ◌ (whole-product a b) (whole-product c d) (whole_below h)

module _ {A : Type 0} (n : Numbers A) {form shares : A} {g t : ℚ} (form_holds : Holds n form g) (shares_hold : Holds n shares t)
    (g_least : whole (pos 0) ≤ℚ g) (t_above : whole (pos 0) <ℚ t) where
  unit_above : whole (pos 0) <ℚ whole (pos (unit n))
  unit_above = whole_positive (power-above n.scale)

  pub shares-high : pos 0 <ℤ n.high shares
  shares-high = (whole-lt (pos 0) (n.high shares)).0 (below_then_at_most (t_above *ₚ unit_above) shares_hold.encloses.to)

  form-high : pos 0 ≤ℤ n.high form
  form-high = (whole-le (pos 0) (n.high form)).0 (transitive (g_least *ₙ weaken unit_above) form_holds.encloses.to)

  module _ (num den : ℤ) (k : ℕ) (num_least : pos 0 ≤ℤ num) (den_above : pos 0 <ℤ den) (load_least : pos 0 ≤ℤ by.shifted num k) (stiffness_least : pos 0 ≤ℤ by.shifted den k) where
    pub load-below : ((by.shifted num k +ℤ pos 1) *ℤ n.high shares) <ℤ (n.low form *ℤ by.shifted den k) → fraction num den *ℚ t <ℚ g
    load-below cross =
        exact-meets g t (whole (pos (unit n))) (fraction num den) (whole num) (whole den) (whole (n.low form)) (whole (n.high shares))
        unit_above (whole_positive den_above) (whole_at_most num_least) (fraction-times num den den_above) form_holds.encloses.from shares_hold.encloses.to
        (products-below num (n.high shares) (n.low form) den
        (meets-cross num den (by.shifted num k) (by.shifted den k) (n.low form) (n.high shares) (pos (2 ^ k)) load_least stiffness_least shares-high (power-above k) (below-next num k) (shifted-within den k) cross))

    pub load-above : (n.high form *ℤ (by.shifted den k +ℤ pos 1)) <ℤ (by.shifted num k *ℤ n.low shares) → g <ℚ fraction num den *ℚ t
    load-above cross =
        exact-fails g t (whole (pos (unit n))) (fraction num den) (whole num) (whole den) (whole (n.low shares)) (whole (n.high form))
        unit_above (whole_positive den_above) (whole_at_most num_least) (fraction-times num den den_above) form_holds.encloses.to shares_hold.encloses.from
        (products-below (n.high form) den num (n.low shares)
        (fails-cross num den (by.shifted num k) (by.shifted den k) (n.low shares) (n.high form) (pos (2 ^ k)) load_least stiffness_least form-high (power-above k) (shifted-within num k) (below-next den k) cross))
