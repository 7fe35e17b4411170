-- The slopes at a point times half the widths: a move from the point by so much, to the side where the slopes lead.
use Rattle.std.proofs.Common.{◌≡◌, refl, sym, ◌∙◌, ap, subst, subst₂, ℕ, ◌+◌, ◌*◌, ◌^◌, ◌≤◌, ℤ, pos, negsuc, neg_ℤ, ◌+ℤ◌, ◌*ℤ◌, ◌≤ℤ◌, ◌<ℤ◌, arith}
use Rattle.std.proofs.lemmas.Int.{ints}
use Rattle.lam_fraction.specs.Fraction.{ℚ, whole, opposite, ◌+ℚ◌, ◌-ℚ◌, ◌*ℚ◌, ◌≤ℚ◌, ◌<ℚ◌}
use Rattle.lam_fraction.specs.numbers.Ends as ends
use Rattle.lam_fraction.specs.numbers.Numbers.{Numbers, Lawful, Holds, reach, unit, width}
use Rattle.lam_fraction.proofs.Expression.{int, ◌⊕◌, ◌⊖◌, ◌⊗◌, minus}
use Rattle.lam_fraction.proofs.FractionRing.{whole-product}
use Rattle.lam_fraction.proofs.Rationals.{solve, above, weaken, at_most, at_most_over, number, ◌+ₙ◌, ◌*ₙ◌}
use Rattle.lam_fraction.proofs.Solver.{◌≐◌}
use Rattle.lam_fraction.proofs.WholeFractions.{whole-difference, whole-opposite, at_most_images, sum_image, product_image}
use Rattle.lam_fraction.proofs.numbers.Widths.{width-pos}
use Rattle.lam_tsai.proofs.Ordered.{int_cases}

-- ---- a slope, and the side to which it leads

reach-up : (low high : ℤ) → low ≤ℤ high → neg_ℤ low ≤ℤ high → pos (ends.reach low high) ≡ high
unfolding ends.reach
reach-up low high h k = omega (arith, ints, h, k)

reach-down : (low high : ℤ) → low ≤ℤ high → high <ℤ neg_ℤ low → pos (ends.reach low high) ≡ neg_ℤ low
unfolding ends.reach
reach-down low high h k = omega (arith, ints, h, k)

pub record HasSide (reach wide : ℕ) (t u : ℚ) : Type 0 where
  pub sign : ℚ
  pub square : sign *ℚ sign ≡ whole (pos 1)
  pub most : whole (pos reach) ≤ℚ sign *ℚ (t *ℚ u) +ℚ whole (pos wide)

side-up : (low high t u : ℚ) → low ≤ℚ t *ℚ u → high ≤ℚ whole (pos 1) *ℚ (t *ℚ u) +ℚ (high -ℚ low)
unfolding ◌-ℚ◌
side-up low high t u h = at_most (above h) (solve 4 (λ l h t u. (int (pos 1) ⊗ (t ⊗ u) ⊕ (h ⊖ l)) ⊖ h ≐ t ⊗ u ⊖ l) refl low high t u)

side-down : (low high t u : ℚ) → t *ℚ u ≤ℚ high → opposite low ≤ℚ whole (negsuc 0) *ℚ (t *ℚ u) +ℚ (high -ℚ low)
unfolding ◌-ℚ◌
side-down low high t u h = at_most (above h) (solve 4 (λ l h t u. (int (negsuc 0) ⊗ (t ⊗ u) ⊕ (h ⊖ l)) ⊖ minus l ≐ h ⊖ t ⊗ u) refl low high t u)

pub has-side : {A : Type 0} {n : Numbers A} → Lawful n → (g : A) (t : ℚ) → Holds n g t → HasSide (reach n g) (width n g) t (whole (pos (unit n)))
has-side {n = n} laws g t h =
    let order = laws.ordered g in
    let u = whole (pos (unit n)) in
    let wide : whole (pos (width n g)) ≡ whole (n.high g) -ℚ whole (n.low g) = ap whole (width-pos (n.low g) (n.high g) order) ∙ whole-difference (n.high g) (n.low g) in
    int_cases (neg_ℤ (n.low g)) (n.high g)
    (λ up. record {
      sign = whole (pos 1);
      square = sym (whole-product (pos 1) (pos 1));
      most = subst₂ (λ r w. r ≤ℚ whole (pos 1) *ℚ (t *ℚ u) +ℚ w) (sym (ap whole (reach-up (n.low g) (n.high g) order up))) (sym wide) (side-up (whole (n.low g)) (whole (n.high g)) t u h.encloses.from);
    })
    (λ down. record {
      sign = whole (negsuc 0);
      square = sym (whole-product (negsuc 0) (negsuc 0));
      most = subst₂ (λ r w. r ≤ℚ whole (negsuc 0) *ℚ (t *ℚ u) +ℚ w) (sym (ap whole (reach-down (n.low g) (n.high g) order down) ∙ whole-opposite (n.low g))) (sym wide)
          (side-down (whole (n.low g)) (whole (n.high g)) t u h.encloses.to);
    })

-- ---- three of them

-- a natural number at most another, in fractions
pub round-wide-whole : (w u r1 r2 r3 h1 h2 h3 : ℕ) → 4096 * (w * u) ≤ 8192 * (r1 * h1 + r2 * h2 + r3 * h3) + (h1 + h2 + h3) * u + 2 ^ 22 * u
    → whole (pos 4096) *ℚ (whole (pos w) *ℚ whole (pos u))
    ≤ℚ whole (pos 8192) *ℚ (whole (pos r1) *ℚ whole (pos h1) +ℚ whole (pos r2) *ℚ whole (pos h2) +ℚ whole (pos r3) *ℚ whole (pos h3))
    +ℚ (whole (pos h1) +ℚ whole (pos h2) +ℚ whole (pos h3)) *ℚ whole (pos u) +ℚ whole (pos 4194304) *ℚ whole (pos u)
round-wide-whole w u r1 r2 r3 h1 h2 h3 h =
    let products = pos r1 *ℤ pos h1 +ℤ pos r2 *ℤ pos h2 +ℤ pos r3 *ℤ pos h3 in
    at_most_images {m = pos 4096 *ℤ (pos w *ℤ pos u)} {n = pos 8192 *ℤ products +ℤ (pos h1 +ℤ pos h2 +ℤ pos h3) *ℤ pos u +ℤ pos 4194304 *ℤ pos u} (omega (arith, ints, h))
    (product_image (pos 4096) (pos w *ℤ pos u) refl (product_image (pos w) (pos u) refl refl))
    (sum_image (pos 8192 *ℤ products +ℤ (pos h1 +ℤ pos h2 +ℤ pos h3) *ℤ pos u) (pos 4194304 *ℤ pos u)
    (sum_image (pos 8192 *ℤ products) ((pos h1 +ℤ pos h2 +ℤ pos h3) *ℤ pos u)
    (product_image (pos 8192) products refl (sum_image (pos r1 *ℤ pos h1 +ℤ pos r2 *ℤ pos h2) (pos r3 *ℤ pos h3)
    (sum_image (pos r1 *ℤ pos h1) (pos r2 *ℤ pos h2) (product_image (pos r1) (pos h1) refl refl) (product_image (pos r2) (pos h2) refl refl)) (product_image (pos r3) (pos h3) refl refl)))
    (product_image (pos h1 +ℤ pos h2 +ℤ pos h3) (pos u) (sum_image (pos h1 +ℤ pos h2) (pos h3) (sum_image (pos h1) (pos h2) refl refl) refl) refl))
    (product_image (pos 4194304) (pos u) refl refl))

-- of half widths of e parts of one
sides-most : (w u r1 r2 r3 t1 t2 t3 s1 s2 s3 e1 e2 e3 : ℚ) → whole (pos 0) <ℚ u
    → whole (pos 4096) *ℚ (w *ℚ u) ≤ℚ whole (pos 8192) *ℚ (r1 *ℚ (e1 *ℚ u) +ℚ r2 *ℚ (e2 *ℚ u) +ℚ r3 *ℚ (e3 *ℚ u)) +ℚ (e1 *ℚ u +ℚ e2 *ℚ u +ℚ e3 *ℚ u) *ℚ u +ℚ whole (pos 4194304) *ℚ u
    → r1 ≤ℚ s1 *ℚ (t1 *ℚ u) +ℚ whole (pos 64) → r2 ≤ℚ s2 *ℚ (t2 *ℚ u) +ℚ whole (pos 64) → r3 ≤ℚ s3 *ℚ (t3 *ℚ u) +ℚ whole (pos 64)
    → whole (pos 0) ≤ℚ e1 → whole (pos 0) ≤ℚ e2 → whole (pos 0) ≤ℚ e3
    → whole (pos 65536) *ℚ e1 ≤ℚ whole (pos 1) → whole (pos 65536) *ℚ e2 ≤ℚ whole (pos 1) → whole (pos 65536) *ℚ e3 ≤ℚ whole (pos 1)
    → whole (pos 4096) *ℚ w ≤ℚ whole (pos 8192) *ℚ (u *ℚ (t1 *ℚ (s1 *ℚ e1) +ℚ t2 *ℚ (s2 *ℚ e2) +ℚ t3 *ℚ (s3 *ℚ e3))) +ℚ u *ℚ (e1 +ℚ e2 +ℚ e3) +ℚ whole (pos 8388608)
unfolding ◌-ℚ◌
sides-most w u r1 r2 r3 t1 t2 t3 s1 s2 s3 e1 e2 e3 uu h k1 k2 k3 p1 p2 p3 q1 q2 q3 =
    let wu = weaken uu in
    at_most_over {k = u} uu
    (above h +ₙ number 8192 *ₙ (above k1 *ₙ (p1 *ₙ wu) +ₙ above k2 *ₙ (p2 *ₙ wu) +ₙ above k3 *ₙ (p3 *ₙ wu))
    +ₙ wu *ₙ (number 8 *ₙ (above q1 +ₙ above q2 +ₙ above q3) +ₙ number 4194280))
    (solve 14 (λ w u r1 r2 r3 t1 t2 t3 s1 s2 s3 e1 e2 e3.
    u ⊗ ((int (pos 8192) ⊗ (u ⊗ (t1 ⊗ (s1 ⊗ e1) ⊕ t2 ⊗ (s2 ⊗ e2) ⊕ t3 ⊗ (s3 ⊗ e3))) ⊕ u ⊗ (e1 ⊕ e2 ⊕ e3) ⊕ int (pos 8388608)) ⊖ int (pos 4096) ⊗ w)
    ≐ ((int (pos 8192) ⊗ (r1 ⊗ (e1 ⊗ u) ⊕ r2 ⊗ (e2 ⊗ u) ⊕ r3 ⊗ (e3 ⊗ u)) ⊕ (e1 ⊗ u ⊕ e2 ⊗ u ⊕ e3 ⊗ u) ⊗ u ⊕ int (pos 4194304) ⊗ u) ⊖ int (pos 4096) ⊗ (w ⊗ u))
    ⊕ int (pos 8192) ⊗ (((s1 ⊗ (t1 ⊗ u) ⊕ int (pos 64)) ⊖ r1) ⊗ (e1 ⊗ u) ⊕ ((s2 ⊗ (t2 ⊗ u) ⊕ int (pos 64)) ⊖ r2) ⊗ (e2 ⊗ u) ⊕ ((s3 ⊗ (t3 ⊗ u) ⊕ int (pos 64)) ⊖ r3) ⊗ (e3 ⊗ u))
    ⊕ u ⊗ (int (pos 8) ⊗ ((int (pos 1) ⊖ int (pos 65536) ⊗ e1) ⊕ (int (pos 1) ⊖ int (pos 65536) ⊗ e2) ⊕ (int (pos 1) ⊖ int (pos 65536) ⊗ e3)) ⊕ int (pos 4194280))) refl
    w u r1 r2 r3 t1 t2 t3 s1 s2 s3 e1 e2 e3)

pub tilted : (w u r1 r2 r3 t1 t2 t3 s1 s2 s3 e1 e2 e3 h1 h2 h3 : ℚ) → whole (pos 0) <ℚ u → e1 *ℚ u ≡ h1 → e2 *ℚ u ≡ h2 → e3 *ℚ u ≡ h3
    → whole (pos 4096) *ℚ (w *ℚ u) ≤ℚ whole (pos 8192) *ℚ (r1 *ℚ h1 +ℚ r2 *ℚ h2 +ℚ r3 *ℚ h3) +ℚ (h1 +ℚ h2 +ℚ h3) *ℚ u +ℚ whole (pos 4194304) *ℚ u
    → r1 ≤ℚ s1 *ℚ (t1 *ℚ u) +ℚ whole (pos 64) → r2 ≤ℚ s2 *ℚ (t2 *ℚ u) +ℚ whole (pos 64) → r3 ≤ℚ s3 *ℚ (t3 *ℚ u) +ℚ whole (pos 64)
    → whole (pos 0) ≤ℚ e1 → whole (pos 0) ≤ℚ e2 → whole (pos 0) ≤ℚ e3
    → whole (pos 65536) *ℚ e1 ≤ℚ whole (pos 1) → whole (pos 65536) *ℚ e2 ≤ℚ whole (pos 1) → whole (pos 65536) *ℚ e3 ≤ℚ whole (pos 1)
    → whole (pos 4096) *ℚ w ≤ℚ whole (pos 8192) *ℚ (u *ℚ (t1 *ℚ (s1 *ℚ e1) +ℚ t2 *ℚ (s2 *ℚ e2) +ℚ t3 *ℚ (s3 *ℚ e3))) +ℚ u *ℚ (e1 +ℚ e2 +ℚ e3) +ℚ whole (pos 8388608)
tilted w u r1 r2 r3 t1 t2 t3 s1 s2 s3 e1 e2 e3 h1 h2 h3 uu i1 i2 i3 h =
    sides-most w u r1 r2 r3 t1 t2 t3 s1 s2 s3 e1 e2 e3 uu
    (subst (λ z. whole (pos 4096) *ℚ (w *ℚ u) ≤ℚ whole (pos 8192) *ℚ (r1 *ℚ (e1 *ℚ u) +ℚ r2 *ℚ (e2 *ℚ u) +ℚ r3 *ℚ z) +ℚ (e1 *ℚ u +ℚ e2 *ℚ u +ℚ z) *ℚ u +ℚ whole (pos 4194304) *ℚ u) (sym i3)
    (subst (λ z. whole (pos 4096) *ℚ (w *ℚ u) ≤ℚ whole (pos 8192) *ℚ (r1 *ℚ (e1 *ℚ u) +ℚ r2 *ℚ z +ℚ r3 *ℚ h3) +ℚ (e1 *ℚ u +ℚ z +ℚ h3) *ℚ u +ℚ whole (pos 4194304) *ℚ u) (sym i2)
    (subst (λ z. whole (pos 4096) *ℚ (w *ℚ u) ≤ℚ whole (pos 8192) *ℚ (r1 *ℚ z +ℚ r2 *ℚ h2 +ℚ r3 *ℚ h3) +ℚ (z +ℚ h2 +ℚ h3) *ℚ u +ℚ whole (pos 4194304) *ℚ u) (sym i1) h)))
