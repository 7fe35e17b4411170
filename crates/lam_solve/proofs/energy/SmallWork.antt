-- Strains whose mean squares are at most the work of small forces and moments are small. Twelve times the mean squares,
-- less that of the work, is a sum of six squares less at most 48 times the square of the greatest force, so that each of
-- the squares is at most as large.
use Rattle.std.proofs.Common.{◌≡◌, refl, sym, subst, ℕ, suc, ℤ, pos}
use Rattle.lam_fraction.specs.Fraction.{ℚ, whole, fraction, inverse, ◌+ℚ◌, ◌-ℚ◌, ◌*ℚ◌, ◌/ℚ◌, ◌≤ℚ◌}
use Rattle.lam_fraction.proofs.Expression.{Expr, int, ◌⊕◌, ◌⊖◌, ◌⊗◌}
use Rattle.lam_fraction.proofs.Solver.{◌≐◌}
use Rattle.lam_fraction.proofs.Rationals.{solve, from₁, from₂, above, at_most, at_most_over, square, number, positive_number, ◌+ₙ◌, ◌*ₙ◌}
use Rattle.lam_fraction.proofs.FractionBounds.{times-inverse}
use Rattle.lam_fraction.proofs.WholeFractions.{twice_half}
use Rattle.lam_stock.specs.PlyLaw.{OffAxis}
use Rattle.lam_stock.specs.Energy.{twice_energy}
use Rattle.lam_wall.specs.Energy.{mean_squares}
use Rattle.lam_solve.specs.StrainBounds.{IsWithin, AreWithin, StrainsWithin, normal_bound, shear_bound, bending_bound, twist_bound}
use Rattle.lam_solve.proofs.energy.Sizes.{within-above, within-square, within-root, within-peeled}

abbrev squared : ℚ → ℚ
squared x = x *ℚ x

-- a multiple of a strain less a multiple of its force
abbrev left : ℤ → ℤ → ℚ → ℚ → ℚ
left p q x n = whole p *ℚ x -ℚ whole q *ℚ n

-- ---- parts of a sum, and a square with a weight

first_part : {a b c : ℚ} → whole (pos 0) ≤ℚ b → a +ℚ b ≤ℚ c → a ≤ℚ c
unfolding ◌-ℚ◌
first_part {a} {b} {c} h k = at_most (above k +ₙ h) (solve 3 (λ a b c. c ⊖ a ≐ (c ⊖ (a ⊕ b)) ⊕ b) refl a b c)

second_part : {a b c : ℚ} → whole (pos 0) ≤ℚ a → a +ℚ b ≤ℚ c → b ≤ℚ c
unfolding ◌-ℚ◌
second_part {a} {b} {c} h k = at_most (above k +ₙ h) (solve 3 (λ a b c. c ⊖ b ≐ (c ⊖ (a ⊕ b)) ⊕ a) refl a b c)

-- x is at most c r, where the weight makes 48 of c²
weighed : (w c : ℕ) {r x : ℚ} → whole (pos 0) ≤ℚ whole (pos (suc w)) *ℚ squared (whole (pos c)) -ℚ whole (pos 48)
    → whole (pos 0) ≤ℚ r → whole (pos (suc w)) *ℚ squared x ≤ℚ whole (pos 48) *ℚ squared r → IsWithin (whole (pos c) *ℚ r) x
unfolding ◌-ℚ◌
weighed w c {r} {x} enough not_below bounded = within-root (number c *ₙ not_below)
    (at_most_over (positive_number w) (above bounded +ₙ enough *ₙ square r)
    (solve 4 (λ w c r x. w ⊗ (c ⊗ r ⊗ (c ⊗ r) ⊖ x ⊗ x)
    ≐ (int (pos 48) ⊗ (r ⊗ r) ⊖ w ⊗ (x ⊗ x)) ⊕ (w ⊗ (c ⊗ c) ⊖ int (pos 48)) ⊗ (r ⊗ r)) refl
    (whole (pos (suc w))) (whole (pos c)) r x))

-- the weights make at least 48 of these
enough_of_four : whole (pos 0) ≤ℚ whole (pos 3) *ℚ squared (whole (pos 4)) -ℚ whole (pos 48)
unfolding ◌-ℚ◌
enough_of_four = subst (λ s. whole (pos 0) ≤ℚ s) (solve 0 (int (pos 0) ≐ int (pos 3) ⊗ (int (pos 4) ⊗ int (pos 4)) ⊖ int (pos 48)) refl) (number 0)

enough_of_three : whole (pos 0) ≤ℚ whole (pos 6) *ℚ squared (whole (pos 3)) -ℚ whole (pos 48)
unfolding ◌-ℚ◌
enough_of_three = subst (λ s. whole (pos 0) ≤ℚ s) (solve 0 (int (pos 6) ≐ int (pos 6) ⊗ (int (pos 3) ⊗ int (pos 3)) ⊖ int (pos 48)) refl) (number 6)

enough_of_seven : whole (pos 0) ≤ℚ whole (pos 1) *ℚ squared (whole (pos 7)) -ℚ whole (pos 48)
unfolding ◌-ℚ◌
enough_of_seven = subst (λ s. whole (pos 0) ≤ℚ s) (solve 0 (int (pos 1) ≐ int (pos 1) ⊗ (int (pos 7) ⊗ int (pos 7)) ⊖ int (pos 48)) refl) (number 1)

enough_of_five : whole (pos 0) ≤ℚ whole (pos 2) *ℚ squared (whole (pos 5)) -ℚ whole (pos 48)
unfolding ◌-ℚ◌
enough_of_five = subst (λ s. whole (pos 0) ≤ℚ s) (solve 0 (int (pos 2) ≐ int (pos 2) ⊗ (int (pos 5) ⊗ int (pos 5)) ⊖ int (pos 48)) refl) (number 2)

-- ---- the bounds, by those of what is left and of the force

normal : (r : ℚ) → whole (pos 2) *ℚ normal_bound r ≡ whole (pos 4) *ℚ r +ℚ whole (pos 1) *ℚ r
unfolding ◌-ℚ◌
normal r = from₁ r (sym (twice_half (pos 5)))
    (solve 2 (λ r h. int (pos 2) ⊗ (h ⊗ r) ≐ int (pos 4) ⊗ r ⊕ int (pos 1) ⊗ r ⊕ r ⊗ (int (pos 2) ⊗ h ⊖ int (pos 5))) refl r (fraction (pos 5) (pos 2)))

shear : (r : ℚ) → whole (pos 1) *ℚ shear_bound r ≡ whole (pos 3) *ℚ r +ℚ whole (pos 1) *ℚ r
shear r = solve 1 (λ r. int (pos 1) ⊗ (int (pos 4) ⊗ r) ≐ int (pos 3) ⊗ r ⊕ int (pos 1) ⊗ r) refl r

bending : (r : ℚ) → whole (pos 2) *ℚ bending_bound r ≡ whole (pos 7) *ℚ r +ℚ whole (pos 3) *ℚ r
bending r = solve 1 (λ r. int (pos 2) ⊗ (int (pos 5) ⊗ r) ≐ int (pos 7) ⊗ r ⊕ int (pos 3) ⊗ r) refl r

twist : (r : ℚ) → whole (pos 1) *ℚ twist_bound r ≡ whole (pos 5) *ℚ r +ℚ whole (pos 3) *ℚ r
twist r = solve 1 (λ r. int (pos 1) ⊗ (int (pos 8) ⊗ r) ≐ int (pos 5) ⊗ r ⊕ int (pos 3) ⊗ r) refl r

-- ---- the strains
module _ (r : ℚ) (e k n m : OffAxis) (forces : AreWithin r n) (moments : AreWithin r m)
    (work : mean_squares e k ≤ℚ twice_energy n e +ℚ twice_energy m k) where
  -- what is left of each when that of its force is taken off
  abbrev ex : ℚ
  ex = left (pos 2) (pos 1) e.x n.x

  abbrev ey : ℚ
  ey = left (pos 2) (pos 1) e.y n.y

  abbrev es : ℚ
  es = left (pos 1) (pos 1) e.s n.s

  abbrev kx : ℚ
  kx = left (pos 2) (pos 3) k.x m.x

  abbrev ky : ℚ
  ky = left (pos 2) (pos 3) k.y m.y

  abbrev ks : ℚ
  ks = left (pos 1) (pos 3) k.s m.s

  -- their squares, with weights
  abbrev strain_part : ℚ
  strain_part = whole (pos 3) *ℚ squared ex +ℚ whole (pos 3) *ℚ squared ey +ℚ whole (pos 6) *ℚ squared es

  abbrev bending_part : ℚ
  bending_part = whole (pos 1) *ℚ squared kx +ℚ whole (pos 1) *ℚ squared ky +ℚ whole (pos 2) *ℚ squared ks

  -- the spare work, and the spare squares of the forces
  abbrev spare : ℚ → ℚ
  spare x = r *ℚ r -ℚ x *ℚ x

  abbrev all_spare : ℚ
  all_spare =
      whole (pos 12) *ℚ ((twice_energy n e +ℚ twice_energy m k) -ℚ mean_squares e k)
      +ℚ (whole (pos 3) *ℚ spare n.x +ℚ whole (pos 3) *ℚ spare n.y +ℚ whole (pos 6) *ℚ spare n.s
      +ℚ (whole (pos 9) *ℚ spare m.x +ℚ whole (pos 9) *ℚ spare m.y +ℚ whole (pos 18) *ℚ spare m.s))

  all_spare-above : whole (pos 0) ≤ℚ all_spare
  all_spare-above =
      number 12 *ₙ above work
      +ₙ (number 3 *ₙ within-square forces.x +ₙ number 3 *ₙ within-square forces.y +ₙ number 6 *ₙ within-square forces.s
      +ₙ (number 9 *ₙ within-square moments.x +ₙ number 9 *ₙ within-square moments.y +ₙ number 18 *ₙ within-square moments.s))

  spared : whole (pos 48) *ℚ squared r -ℚ (strain_part +ℚ bending_part) ≡ all_spare
  unfolding ◌-ℚ◌ ◌/ℚ◌
  spared = from₂ {b = all_spare} (whole (pos 6) *ℚ squared e.s +ℚ whole (pos 2) *ℚ squared k.s) (sym (twice_half (pos 1)))
      (whole (pos 4) *ℚ (squared k.x +ℚ squared k.y +ℚ fraction (pos 1) (pos 2) *ℚ squared k.s)) (times-inverse (positive_number 2))
      (solve 15 (λ r ex ey es kx ky ks nx ny ns mx my ms h i.
      let sq : Expr → Expr = λ x. x ⊗ x in
      let less : ℕ → ℕ → Expr → Expr → Expr = λ p q x n. sq (int (pos p) ⊗ x ⊖ int (pos q) ⊗ n) in
      let gap : Expr → Expr = λ x. r ⊗ r ⊖ x ⊗ x in
      int (pos 48) ⊗ (r ⊗ r)
      ⊖ (int (pos 3) ⊗ less 2 1 ex nx ⊕ int (pos 3) ⊗ less 2 1 ey ny ⊕ int (pos 6) ⊗ less 1 1 es ns
      ⊕ (int (pos 1) ⊗ less 2 3 kx mx ⊕ int (pos 1) ⊗ less 2 3 ky my ⊕ int (pos 2) ⊗ less 1 3 ks ms))
      ≐ int (pos 12) ⊗ ((nx ⊗ ex ⊕ ny ⊗ ey ⊕ ns ⊗ es ⊕ (mx ⊗ kx ⊕ my ⊗ ky ⊕ ms ⊗ ks)) ⊖ ((sq ex ⊕ sq ey ⊕ h ⊗ sq es) ⊕ (sq kx ⊕ sq ky ⊕ h ⊗ sq ks) ⊗ i))
      ⊕ (int (pos 3) ⊗ gap nx ⊕ int (pos 3) ⊗ gap ny ⊕ int (pos 6) ⊗ gap ns ⊕ (int (pos 9) ⊗ gap mx ⊕ int (pos 9) ⊗ gap my ⊕ int (pos 18) ⊗ gap ms))
      ⊕ (int (pos 6) ⊗ sq es ⊕ int (pos 2) ⊗ sq ks) ⊗ (int (pos 2) ⊗ h ⊖ int (pos 1))
      ⊕ (int (pos 4) ⊗ (sq kx ⊕ sq ky ⊕ h ⊗ sq ks)) ⊗ (int (pos 3) ⊗ i ⊖ int (pos 1))) refl
      r e.x e.y e.s k.x k.y k.s n.x n.y n.s m.x m.y m.s (fraction (pos 1) (pos 2)) (inverse (whole (pos 3))))

  bounded : strain_part +ℚ bending_part ≤ℚ whole (pos 48) *ℚ squared r
  bounded = at_most all_spare-above spared

  -- the squares are not negative, so that each part is at most as large
  strain_bounded : strain_part ≤ℚ whole (pos 48) *ℚ squared r
  strain_bounded = first_part (number 1 *ₙ square kx +ₙ number 1 *ₙ square ky +ₙ number 2 *ₙ square ks) bounded

  bending_bounded : bending_part ≤ℚ whole (pos 48) *ℚ squared r
  bending_bounded = second_part (number 3 *ₙ square ex +ₙ number 3 *ₙ square ey +ₙ number 6 *ₙ square es) bounded

  pub small_work : StrainsWithin r e k
  small_work =
      let two = whole (pos 2) in
      let three = whole (pos 3) in
      let one = whole (pos 1) in
      let above_r = within-above forces.x in
      let normals = first_part (number 6 *ₙ square es) strain_bounded in
      let bends = first_part (number 2 *ₙ square ks) bending_bounded in record {
        ex = within-peeled two one (positive_number 1) (number 1) (normal r)
            (weighed 2 4 enough_of_four above_r (first_part (number 3 *ₙ square ey) normals)) forces.x;
        ey = within-peeled two one (positive_number 1) (number 1) (normal r)
            (weighed 2 4 enough_of_four above_r (second_part (number 3 *ₙ square ex) normals)) forces.y;
        es = within-peeled one one (positive_number 0) (number 1) (shear r)
            (weighed 5 3 enough_of_three above_r (second_part (number 3 *ₙ square ex +ₙ number 3 *ₙ square ey) strain_bounded)) forces.s;
        kx = within-peeled two three (positive_number 1) (number 3) (bending r)
            (weighed 0 7 enough_of_seven above_r (first_part (number 1 *ₙ square ky) bends)) moments.x;
        ky = within-peeled two three (positive_number 1) (number 3) (bending r)
            (weighed 0 7 enough_of_seven above_r (second_part (number 1 *ₙ square kx) bends)) moments.y;
        ks = within-peeled one three (positive_number 0) (number 3) (twist r)
            (weighed 1 5 enough_of_five above_r (second_part (number 1 *ₙ square kx +ₙ number 1 *ₙ square ky) bending_bounded)) moments.s;
      }
