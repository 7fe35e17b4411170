-- How far a value is from 1 that an enclosure about 0 holds, by its slopes and how wide the strains are.
use Rattle.std.proofs.Common.{◌≡◌, refl, pos, negsuc}
use Rattle.lam_fraction.specs.Fraction.{ℚ, whole, ◌+ℚ◌, ◌-ℚ◌, ◌*ℚ◌, ◌≤ℚ◌, ◌<ℚ◌}
use Rattle.lam_fraction.proofs.Expression.{int, ◌⊕◌, ◌⊖◌, ◌⊗◌}
use Rattle.lam_fraction.proofs.Rationals.{solve, from₁, above, strictly_above, weaken, at_most_over, below_over, decide, square, number, positive_number, ◌+ₙ◌, ◌*ₙ◌, ◌+ₚ◌, ◌*ₚ◌}
use Rattle.lam_fraction.proofs.Solver.{◌≐◌}

-- of the slopes times the distances, t, for half a part, h, and an excess e of the value at the middle
steep-most : (t h e : ℚ) → whole (pos 0) ≤ℚ h → t *ℚ t ≤ℚ (h *ℚ h) *ℚ (whole (pos 352) +ℚ whole (pos 19) *ℚ e) → whole (pos 1000) *ℚ e ≤ℚ whole (pos 2000) *ℚ t +ℚ whole (pos 1)
    → whole (pos 2000) *ℚ h ≤ℚ whole (pos 1) → whole (pos 378) *ℚ h <ℚ whole (pos 20) *ℚ t → whole (pos 20) *ℚ t ≤ℚ whole (pos 378) *ℚ h
unfolding ◌-ℚ◌
steep-most t h e hh circle excess small more =
    let tt : whole (pos 0) <ℚ t = below_over {k = whole (pos 20)} (positive_number 19) (strictly_above more +ₚ number 378 *ₙ hh) (solve 2 (λ t h. int (pos 20) ⊗ (t ⊖ int (pos 0)) ≐ (int (pos 20) ⊗ t ⊖ int (pos 378) ⊗ h) ⊕ int (pos 378) ⊗ h) refl t h) in
    let scale : whole (pos 0) <ℚ whole (pos 1000) *ℚ t +ℚ whole (pos 18881) *ℚ h = (positive_number 999 *ₚ tt) +ₚ number 18881 *ₙ hh in
    at_most_over {k = whole (pos 1000) *ℚ t +ℚ whole (pos 18881) *ℚ h} scale
    (number 20 *ₙ (number 1000 *ₙ above circle +ₙ number 19 *ₙ (square h *ₙ above excess) +ₙ number 19 *ₙ (hh *ₙ weaken tt *ₙ above small)) +ₙ number 96638 *ₙ square h)
    (solve 3 (λ t h e.
    (int (pos 1000) ⊗ t ⊕ int (pos 18881) ⊗ h) ⊗ (int (pos 378) ⊗ h ⊖ int (pos 20) ⊗ t)
    ≐ int (pos 20) ⊗ (int (pos 1000) ⊗ ((h ⊗ h) ⊗ (int (pos 352) ⊕ int (pos 19) ⊗ e) ⊖ t ⊗ t) ⊕ int (pos 19) ⊗ ((h ⊗ h) ⊗ ((int (pos 2000) ⊗ t ⊕ int (pos 1)) ⊖ int (pos 1000) ⊗ e)) ⊕ int (pos 19) ⊗ (h ⊗ t ⊗ (int (pos 1) ⊖ int (pos 2000) ⊗ h)))
    ⊕ int (pos 96638) ⊗ (h ⊗ h)) refl t h e)

pub slopes-most : (t h e : ℚ) → whole (pos 0) ≤ℚ h → t *ℚ t ≤ℚ (h *ℚ h) *ℚ (whole (pos 352) +ℚ whole (pos 19) *ℚ e) → whole (pos 1000) *ℚ e ≤ℚ whole (pos 2000) *ℚ t +ℚ whole (pos 1)
    → whole (pos 2000) *ℚ h ≤ℚ whole (pos 1) → whole (pos 20) *ℚ t ≤ℚ whole (pos 378) *ℚ h
slopes-most t h e hh circle excess small = decide (whole (pos 20) *ℚ t) (whole (pos 378) *ℚ h) (λ k. k) (steep-most t h e hh circle excess small)

-- ---- in units u, of a width w

-- 4096 times the width, and a margin, are what the excess is in units
pub excess-small : (w t h e d u : ℚ) → whole (pos 1152921504606846976) ≤ℚ u → e *ℚ u ≤ℚ whole (pos 4096) *ℚ (w +ℚ whole (pos 16777224)) → whole (pos 4096) *ℚ w ≤ℚ whole (pos 2) *ℚ (u *ℚ t) +ℚ u *ℚ d +ℚ whole (pos 8388608)
    → whole (pos 16) *ℚ d ≤ℚ whole (pos 3) *ℚ h → whole (pos 2000) *ℚ h ≤ℚ whole (pos 1) → whole (pos 0) <ℚ u → whole (pos 1000) *ℚ e ≤ℚ whole (pos 2000) *ℚ t +ℚ whole (pos 1)
unfolding ◌-ℚ◌
excess-small w t h e d u fine scaled wide few small uu =
    at_most_over {k = whole (pos 32) *ℚ u} (positive_number 31 *ₚ uu)
    (number 32000 *ₙ above scaled +ₙ number 32000 *ₙ above wide +ₙ number 2000 *ₙ (above few *ₙ weaken uu) +ₙ number 3 *ₙ (above small *ₙ weaken uu) +ₙ number 1 *ₙ above fine +ₙ number 28 *ₙ weaken uu +ₙ number 1150722211867262976)
    (solve 6 (λ w t h e d u.
    (int (pos 32) ⊗ u) ⊗ ((int (pos 2000) ⊗ t ⊕ int (pos 1)) ⊖ int (pos 1000) ⊗ e)
    ≐ int (pos 32000) ⊗ (int (pos 4096) ⊗ (w ⊕ int (pos 16777224)) ⊖ e ⊗ u) ⊕ int (pos 32000) ⊗ ((int (pos 2) ⊗ (u ⊗ t) ⊕ u ⊗ d ⊕ int (pos 8388608)) ⊖ int (pos 4096) ⊗ w)
    ⊕ int (pos 2000) ⊗ ((int (pos 3) ⊗ h ⊖ int (pos 16) ⊗ d) ⊗ u) ⊕ int (pos 3) ⊗ ((int (pos 1) ⊖ int (pos 2000) ⊗ h) ⊗ u)
    ⊕ int (pos 1) ⊗ (u ⊖ int (pos 1152921504606846976)) ⊕ int (pos 28) ⊗ u ⊕ int (pos 1150722211867262976)) refl w t h e d u)

-- how far a value is from 1 in parts of one: a, of which a band of 19 parts and a millionth is no less, where half a part, and what
-- rounding adds, is h
pub band-most : (w t h a d p u : ℚ) → whole (pos 1152921504606846976) ≤ℚ u → a *ℚ u ≤ℚ whole (pos 4096) *ℚ (w +ℚ whole (pos 16777224)) → whole (pos 4096) *ℚ w ≤ℚ whole (pos 2) *ℚ (u *ℚ t) +ℚ u *ℚ d +ℚ whole (pos 8388608)
    → whole (pos 16) *ℚ d ≤ℚ whole (pos 3) *ℚ h → whole (pos 20) *ℚ t ≤ℚ whole (pos 378) *ℚ h → whole (pos 67108864) *ℚ h ≡ whole (pos 33554432) *ℚ p +ℚ whole (pos 1) → whole (pos 0) ≤ℚ p → whole (pos 0) <ℚ u
    → whole (pos 1000000) *ℚ a ≤ℚ whole (pos 19000000) *ℚ p +ℚ whole (pos 1)
unfolding ◌-ℚ◌
band-most w t h a d p u fine scaled wide few steep half pp uu =
    at_most_over {k = whole (pos 16777216) *ℚ u} (positive_number 16777215 *ₚ uu)
    (number 16777216000000 *ₙ above scaled +ₙ number 16777216000000 *ₙ above wide +ₙ number 1048576000000 *ₙ (above few *ₙ weaken uu) +ₙ number 1677721600000 *ₙ (above steep *ₙ weaken uu) +ₙ number 104857600000 *ₙ (pp *ₙ weaken uu) +ₙ number 7280341 *ₙ above fine +ₙ number 7240598907919900728098816)
    (from₁ (whole (negsuc 9496874) *ℚ u) half
    (solve 7 (λ w t h a d p u.
    (int (pos 16777216) ⊗ u) ⊗ ((int (pos 19000000) ⊗ p ⊕ int (pos 1)) ⊖ int (pos 1000000) ⊗ a)
    ≐ (int (pos 16777216000000) ⊗ (int (pos 4096) ⊗ (w ⊕ int (pos 16777224)) ⊖ a ⊗ u) ⊕ int (pos 16777216000000) ⊗ ((int (pos 2) ⊗ (u ⊗ t) ⊕ u ⊗ d ⊕ int (pos 8388608)) ⊖ int (pos 4096) ⊗ w)
    ⊕ int (pos 1048576000000) ⊗ ((int (pos 3) ⊗ h ⊖ int (pos 16) ⊗ d) ⊗ u) ⊕ int (pos 1677721600000) ⊗ ((int (pos 378) ⊗ h ⊖ int (pos 20) ⊗ t) ⊗ u) ⊕ int (pos 104857600000) ⊗ (p ⊗ u)
    ⊕ int (pos 7280341) ⊗ (u ⊖ int (pos 1152921504606846976)) ⊕ int (pos 7240598907919900728098816)) ⊕ (int (negsuc 9496874) ⊗ u) ⊗ (int (pos 67108864) ⊗ h ⊖ (int (pos 33554432) ⊗ p ⊕ int (pos 1)))) refl w t h a d p u))
