-- Steps of a reach in fixed point: the root from above and from below, and what both say of the greatest slope.
use Rattle.std.proofs.Common.{◌≡◌, refl, sym, ap, subst, [], ◌∷◌, ◌⊎◌, inl, inr, ℕ, ◌+◌, ◌-◌, ◌*◌, ◌^◌, ◌<◌, ◌≤◌, ℤ, pos, ◌*ℤ◌, ◌≤ℤ◌, unsigned_abs, arith}
use Rattle.std.proofs.lemmas.Bool.{cases_lt}
use Rattle.std.proofs.lemmas.Int.{ints, clamps}
use Rattle.lam_fraction.specs.Fraction.{ℚ, whole, ◌+ℚ◌, ◌-ℚ◌, ◌*ℚ◌, opposite, ◌≤ℚ◌, ◌<ℚ◌}
use Rattle.lam_fraction.specs.numbers.Rounding.{root_floor}
use Rattle.lam_fraction.proofs.numbers.Rounded.{root_floor-is}
use Rattle.lam_fraction.proofs.Rationals.{by_ring, from₁, at_most_over, above, weaken, number, positive_number, ◌+ₙ◌, ◌*ₙ◌, ◌*ₚ◌}
use Rattle.lam_fraction.proofs.Solver.{quotes}
use Rattle.lam_number.specs.declared.fix.Fix.{Fix}
use Rattle.lam_number.specs.inside.FixNumbers.{fix_numbers, fix_of}

-- ---- the whole root

-- the high end of a root: one above the whole root, in units
pub record RootOf (high : ℤ) (z : ℤ) (r : ℕ) : Type 0 where
  pub is : high ≡ pos (r + 1)
  pub below : pos (r * r) ≤ℤ (z *ℤ pos (2 ^ 60))
  pub above : (z *ℤ pos (2 ^ 60)) ≤ℤ pos ((r + 1) * (r + 1))

root-high : (z : Fix 60) → ((fix_numbers 60).root z).high ≡ pos (root_floor (unsigned_abs z.high * 2 ^ 60) + 1)
unfolding fix_of
root-high z = omega (arith, ints, clamps)

pub root_of : (z : Fix 60) → pos 0 ≤ℤ z.high → RootOf ((fix_numbers 60).root z).high z.high (root_floor (unsigned_abs z.high * 2 ^ 60))
root_of z sign =
    let is = root_floor-is (unsigned_abs z.high * 2 ^ 60) in
    let size : pos (unsigned_abs z.high * 2 ^ 60) ≡ z.high *ℤ pos (2 ^ 60) = omega (arith, ints, sign) in
    record { is = root-high z; below = omega (arith, ints, size, is.square); above = omega (arith, ints, size, is.next) }

-- a root that is shortened by 2^36 has a square that is less by 2^72
pub shortened : (r : ℕ) → ((r - 2 ^ 36) * (r - 2 ^ 36) + 2 ^ 72 ≤ r * r) ⊎ (r - 2 ^ 36 ≡ 0)
shortened r = go (cases_lt r (2 ^ 36))
  where
    go : (r < 2 ^ 36) ⊎ (2 ^ 36 ≤ r) → ((r - 2 ^ 36) * (r - 2 ^ 36) + 2 ^ 72 ≤ r * r) ⊎ (r - 2 ^ 36 ≡ 0)
    go (inl h) = inr (omega (arith, h))
    go (inr h) =
        let k : r ≡ (r - 2 ^ 36) + 2 ^ 36 = omega (arith, h) in
        inl (subst (λ x. (r - 2 ^ 36) * (r - 2 ^ 36) + 2 ^ 72 ≤ x) (sym (ap (λ x. x * x) k)) (wider (r - 2 ^ 36)))
      where
        wider : (k : ℕ) → k * k + 2 ^ 72 ≤ (k + 2 ^ 36) * (k + 2 ^ 36)
        wider k = omega arith

-- ---- in fractions, with u units to one and i its inverse

-- the root is large enough
pub large_enough : (x z r u i : ℚ) → whole (pos 0) <ℚ u → u *ℚ i ≡ whole (pos 1) → x *ℚ u ≤ℚ z → z *ℚ u ≤ℚ r *ℚ r
    → whole (pos 64) *ℚ whole (pos 64) *ℚ x ≤ℚ (whole (pos 64) *ℚ (r *ℚ i)) *ℚ (whole (pos 64) *ℚ (r *ℚ i))
unfolding ◌-ℚ◌
large_enough x z r u i positive e p q =
    at_most_over {k = u *ℚ u} (positive *ₚ positive) (number 4096 *ₙ (above q +ₙ above p *ₙ weaken positive))
    (from₁ (whole (pos 4096) *ℚ (r *ℚ r) *ℚ (u *ℚ i +ℚ whole (pos 1))) e (by_ring (x ∷ z ∷ r ∷ u ∷ i ∷ []) (search quotes depth 40 fits 9000) refl))

-- so the slope is at most the reach
pub slope_at_most : (g d lean u i high low : ℚ) → u *ℚ i ≡ whole (pos 1) → whole (pos 0) <ℚ u → low ≤ℚ lean *ℚ u
    → whole (pos 2) *ℚ (whole (pos 16) *ℚ g) *ℚ d +ℚ whole (pos 64) *ℚ lean ≤ℚ whole (pos 64) *ℚ (high *ℚ i)
    → (g *ℚ u) *ℚ d ≤ℚ whole (pos 2) *ℚ (high -ℚ low)
unfolding ◌-ℚ◌
slope_at_most g d lean u i high low e positive p q =
    at_most_over {k = whole (pos 32)} (positive_number 31) (weaken positive *ₙ above q +ₙ number 64 *ₙ above p)
    (from₁ (opposite (whole (pos 64) *ℚ high)) e (by_ring (g ∷ d ∷ lean ∷ u ∷ i ∷ high ∷ low ∷ []) (search quotes depth 40 fits 9000) refl))

-- a shortened root is small enough
pub small_enough : (x k u i : ℚ) → whole (pos 0) <ℚ u → u *ℚ i ≡ whole (pos 1) → k *ℚ k ≤ℚ x *ℚ u *ℚ u
    → (whole (pos 64) *ℚ (k *ℚ i)) *ℚ (whole (pos 64) *ℚ (k *ℚ i)) ≤ℚ whole (pos 64) *ℚ whole (pos 64) *ℚ x
unfolding ◌-ℚ◌
small_enough x k u i positive e p =
    at_most_over {k = u *ℚ u} (positive *ₚ positive) (number 4096 *ₙ above p)
    (from₁ (opposite (whole (pos 4096) *ℚ (k *ℚ k) *ℚ (u *ℚ i +ℚ whole (pos 1)))) e (by_ring (x ∷ k ∷ u ∷ i ∷ []) (search quotes depth 40 fits 9000) refl))

-- so a slope comes near the reach
pub slope_near : (g d lean u i k high low w : ℚ) → u *ℚ i ≡ whole (pos 1) → high ≤ℚ k +ℚ w → lean *ℚ u ≤ℚ low +ℚ w
    → whole (pos 2) *ℚ (whole (pos 16) *ℚ g) *ℚ d +ℚ whole (pos 64) *ℚ lean ≡ whole (pos 64) *ℚ (k *ℚ i)
    → whole (pos 2) *ℚ (high -ℚ low) ≤ℚ (g *ℚ u) *ℚ d +ℚ whole (pos 4) *ℚ w
unfolding ◌-ℚ◌
slope_near g d lean u i k high low w e p q f =
    at_most_over {k = whole (pos 32)} (positive_number 31) (number 64 *ₙ above p +ₙ number 64 *ₙ above q)
    (from₁ u f (from₁ (whole (pos 64) *ℚ k) e (by_ring (g ∷ d ∷ lean ∷ u ∷ i ∷ k ∷ high ∷ low ∷ w ∷ []) (search quotes depth 40 fits 9000) refl)))
