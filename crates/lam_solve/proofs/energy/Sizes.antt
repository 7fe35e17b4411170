-- Fractions that are at most so large in size, or so near to others.
use Rattle.std.proofs.Common.{◌≡◌, refl, subst, pos}
use Rattle.lam_fraction.specs.Fraction.{ℚ, whole, ◌+ℚ◌, ◌-ℚ◌, ◌*ℚ◌, opposite, ◌≤ℚ◌, ◌<ℚ◌}
use Rattle.lam_fraction.proofs.Expression.{int, ◌⊕◌, ◌⊖◌, ◌⊗◌, minus}
use Rattle.lam_fraction.proofs.Solver.{◌≐◌}
use Rattle.lam_fraction.proofs.Rationals.{solve, from₁, above, strictly_above, at_most, at_most_over, decide, positive_number, transitive, ◌+ₙ◌, ◌*ₙ◌, ◌+ₚ◌}
use Rattle.lam_solve.specs.StrainBounds.{IsWithin, IsNear}

-- a bound of a size is not negative
pub within-above : {r x : ℚ} → IsWithin r x → whole (pos 0) ≤ℚ r
unfolding ◌-ℚ◌
within-above {r} {x} w = at_most_over (positive_number 1) (above w.from +ₙ above w.to)
    (solve 2 (λ r x. int (pos 2) ⊗ (r ⊖ int (pos 0)) ≐ (x ⊖ minus r) ⊕ (r ⊖ x)) refl r x)

-- its square is at most that of the bound
pub within-square : {r x : ℚ} → IsWithin r x → whole (pos 0) ≤ℚ r *ℚ r -ℚ x *ℚ x
unfolding ◌-ℚ◌
within-square {r} {x} w = subst (λ s. whole (pos 0) ≤ℚ s)
    (solve 2 (λ r x. (x ⊖ minus r) ⊗ (r ⊖ x) ≐ r ⊗ r ⊖ x ⊗ x) refl r x) (above w.from *ₙ above w.to)

-- a number below a square's root: where x² is at most t², and t is not negative, x is at most t
root_at_most : (t x : ℚ) → whole (pos 0) ≤ℚ t → x *ℚ x ≤ℚ t *ℚ t → x ≤ℚ t
unfolding ◌-ℚ◌
root_at_most t x h k = decide x t (λ l. l)
    (λ l. at_most_over (strictly_above l +ₚ (h +ₙ h)) (above k) (solve 2 (λ t x. ((x ⊖ t) ⊕ (t ⊕ t)) ⊗ (t ⊖ x) ≐ t ⊗ t ⊖ x ⊗ x) refl t x))

pub within-root : {t x : ℚ} → whole (pos 0) ≤ℚ t → x *ℚ x ≤ℚ t *ℚ t → IsWithin t x
unfolding ◌-ℚ◌
within-root {t} {x} h k = record {
  from = at_most (above (root_at_most t (opposite x) h (subst (λ s. s ≤ℚ t *ℚ t) (solve 1 (λ x. x ⊗ x ≐ minus x ⊗ minus x) refl x) k)))
      (solve 2 (λ t x. x ⊖ minus t ≐ t ⊖ minus x) refl t x);
  to = root_at_most t x h k;
}

-- a greater bound
pub within-weaker : {r t x : ℚ} → r ≤ℚ t → IsWithin r x → IsWithin t x
unfolding ◌-ℚ◌
within-weaker {r} {t} {x} h w = record {
  from = at_most (above w.from +ₙ above h) (solve 3 (λ r t x. x ⊖ minus t ≐ (x ⊖ minus r) ⊕ (t ⊖ r)) refl r t x);
  to = transitive w.to h;
}

-- a number is small where a multiple of it is near a multiple of a small one
pub within-peeled : {a b r x n : ℚ} (p q : ℚ) → whole (pos 0) <ℚ p → whole (pos 0) ≤ℚ q → p *ℚ b ≡ a +ℚ q *ℚ r
    → IsWithin a (p *ℚ x -ℚ q *ℚ n) → IsWithin r n → IsWithin b x
unfolding ◌-ℚ◌
within-peeled {a} {b} {r} {x} {n} p q above_p not_below_q e w v = record {
  from = at_most_over above_p (above w.from +ₙ not_below_q *ₙ above v.from)
      (from₁ (whole (pos 1)) e (solve 7 (λ p q a b r x n.
      p ⊗ (x ⊖ minus b) ≐ ((p ⊗ x ⊖ q ⊗ n) ⊖ minus a) ⊕ q ⊗ (n ⊖ minus r) ⊕ int (pos 1) ⊗ (p ⊗ b ⊖ (a ⊕ q ⊗ r))) refl p q a b r x n));
  to = at_most_over above_p (above w.to +ₙ not_below_q *ₙ above v.to)
      (from₁ (whole (pos 1)) e (solve 7 (λ p q a b r x n.
      p ⊗ (b ⊖ x) ≐ (a ⊖ (p ⊗ x ⊖ q ⊗ n)) ⊕ q ⊗ (r ⊖ n) ⊕ int (pos 1) ⊗ (p ⊗ b ⊖ (a ⊕ q ⊗ r))) refl p q a b r x n));
}

-- a factor that is above 0 goes
pub within-unscaled : {x : ℚ} (c p r : ℚ) → whole (pos 0) <ℚ p → IsWithin (c *ℚ (p *ℚ r)) (p *ℚ x) → IsWithin (c *ℚ r) x
unfolding ◌-ℚ◌
within-unscaled {x} c p r h w = record {
  from = at_most_over h (above w.from) (solve 4 (λ c p r x. p ⊗ (x ⊖ minus (c ⊗ r)) ≐ p ⊗ x ⊖ minus (c ⊗ (p ⊗ r))) refl c p r x);
  to = at_most_over h (above w.to) (solve 4 (λ c p r x. p ⊗ (c ⊗ r ⊖ x) ≐ c ⊗ (p ⊗ r) ⊖ p ⊗ x) refl c p r x);
}

-- ---- what lies near

pub within-near : {r c x : ℚ} → IsNear r c x → IsWithin r (c -ℚ x)
unfolding ◌-ℚ◌
within-near {r} {c} {x} w = record {
  from = at_most (above w.to) (solve 3 (λ r c x. (c ⊖ x) ⊖ minus r ≐ (c ⊕ r) ⊖ x) refl r c x);
  to = at_most (above w.from) (solve 3 (λ r c x. r ⊖ (c ⊖ x) ≐ x ⊖ (c ⊖ r)) refl r c x);
}

-- what is left of c when x is taken off
pub near-residual : {r c x : ℚ} → IsWithin r (c -ℚ x) → IsNear r c x
unfolding ◌-ℚ◌
near-residual {r} {c} {x} w = record {
  from = at_most (above w.to) (solve 3 (λ r c x. x ⊖ (c ⊖ r) ≐ r ⊖ (c ⊖ x)) refl r c x);
  to = at_most (above w.from) (solve 3 (λ r c x. (c ⊕ r) ⊖ x ≐ (c ⊖ x) ⊖ minus r) refl r c x);
}

pub near-within : {r c x : ℚ} → IsWithin r (x -ℚ c) → IsNear r c x
unfolding ◌-ℚ◌
near-within {r} {c} {x} w = record {
  from = at_most (above w.from) (solve 3 (λ r c x. x ⊖ (c ⊖ r) ≐ (x ⊖ c) ⊖ minus r) refl r c x);
  to = at_most (above w.to) (solve 3 (λ r c x. (c ⊕ r) ⊖ x ≐ r ⊖ (x ⊖ c)) refl r c x);
}
