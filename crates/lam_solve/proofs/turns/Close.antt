-- The matrices that the sums of ends make are close to twice the held ones in units: so is their quadratic form, which lies
-- where that of the held ones does.
use Rattle.std.proofs.Common.{◌≡◌, refl, ◌∙◌, ℕ, ◌≤◌, ℤ, pos, ◌+ℤ◌, ◌-ℤ◌, ◌*ℤ◌, ◌≤ℤ◌, ◌<ℤ◌, arith}
use Rattle.std.proofs.lemmas.Int.{ints}
use Rattle.lam_fraction.specs.Fraction.{ℚ, whole, fraction, inverse, ◌+ℚ◌, ◌-ℚ◌, ◌*ℚ◌, ◌/ℚ◌, opposite}
use Rattle.lam_fraction.specs.numbers.Ends as ends
use Rattle.lam_fraction.specs.numbers.Numbers.{Numbers, Holds, unit, width}
use Rattle.lam_fraction.proofs.Expression.{Expr, int, ◌⊕◌, ◌⊖◌, ◌⊗◌, minus}
use Rattle.lam_fraction.proofs.Solver.{◌≐◌}
use Rattle.lam_fraction.proofs.FractionBounds.{fraction-times, times-inverse, whole_positive}
use Rattle.lam_fraction.proofs.FractionPairs.{whole-le}
use Rattle.lam_fraction.proofs.FractionRing.{whole-sum, whole-product}
use Rattle.lam_fraction.proofs.Rationals.{solve, from₂, from₃, above, at_most, number, positive_number, weaken, product_within, ◌+ₙ◌, ◌*ₙ◌}
use Rattle.lam_fraction.proofs.WholeFractions.{whole-difference, whole-product₃, whole_at_most, twice_half, size_below, size_above, sum_image, product_image}
use Rattle.lam_stock.specs.PlyLaw.{OffAxis}
use Rattle.lam_lamina.specs.declared.stiffness.Sym3.{Sym3}
use Rattle.lam_lamina.specs.Held.{HoldsMatrix}
use Rattle.lam_wall.specs.declared.wall.Wall.{Wall}
use Rattle.lam_wall.specs.Energy.{mean_squares}
use Rattle.lam_wall.specs.Matrices.{Matrices, forces, moments}
use Rattle.lam_wall.specs.QuadraticForm.{quadratic_form, HasFormBetween}
use Rattle.lam_solve.specs.declared.six.Six.{Six}
use Rattle.lam_solve.specs.StrainBounds.{IsWithin}
use Rattle.lam_solve.specs.inside.Residual.{row_x, row_y, row_s}
use Rattle.lam_solve.specs.inside.Turns.{work, forces_at, ends_sum, matrix_sums}
use Rattle.lam_solve.proofs.turns.Sizes.{size_of, sizes, total, weighed}

-- ---- sums as fractions

sum-six : (a b c d e f : ℤ) → whole (a +ℤ b +ℤ c +ℤ d +ℤ e +ℤ f) ≡ whole a +ℚ whole b +ℚ whole c +ℚ whole d +ℚ whole e +ℚ whole f
sum-six a b c d e f = sum_image (a +ℤ b +ℤ c +ℤ d +ℤ e) f (sum_image (a +ℤ b +ℤ c +ℤ d) e (sum_image (a +ℤ b +ℤ c) d (sum_image (a +ℤ b) c (whole-sum a b) refl) refl) refl) refl

work-whole : (n y : Six ℤ) → whole (work n y) ≡ whole n.ex *ℚ whole y.ex +ℚ whole n.ey *ℚ whole y.ey +ℚ whole n.g *ℚ whole y.g +ℚ whole n.kx *ℚ whole y.kx +ℚ whole n.ky *ℚ whole y.ky +ℚ whole n.kg *ℚ whole y.kg
work-whole n y =
    sum-six (n.ex *ℤ y.ex) (n.ey *ℤ y.ey) (n.g *ℤ y.g) (n.kx *ℤ y.kx) (n.ky *ℤ y.ky) (n.kg *ℤ y.kg)
    ∙ (λ i. whole-product n.ex y.ex i +ℚ whole-product n.ey y.ey i +ℚ whole-product n.g y.g i +ℚ whole-product n.kx y.kx i +ℚ whole-product n.ky y.ky i +ℚ whole-product n.kg y.kg i)

total-whole : (y : Six ℤ) → whole (total y) ≡ whole y.ex +ℚ whole y.ey +ℚ whole y.g +ℚ whole y.kx +ℚ whole y.ky +ℚ whole y.kg
total-whole y = sum-six y.ex y.ey y.g y.kx y.ky y.kg

abbrev weight : ℕ → ℤ → ℚ
weight k y = whole (pos k) *ℚ (whole y *ℚ whole y)

weighed-whole : (y : Six ℤ) → whole (weighed y) ≡ weight 6 y.ex +ℚ weight 6 y.ey +ℚ weight 3 y.g +ℚ weight 2 y.kx +ℚ weight 2 y.ky +ℚ whole y.kg *ℚ whole y.kg
weighed-whole y =
    sum-six (pos 6 *ℤ (y.ex *ℤ y.ex)) (pos 6 *ℤ (y.ey *ℤ y.ey)) (pos 3 *ℤ (y.g *ℤ y.g)) (pos 2 *ℤ (y.kx *ℤ y.kx)) (pos 2 *ℤ (y.ky *ℤ y.ky)) (y.kg *ℤ y.kg)
    ∙ (λ i. whole-product₃ (pos 6) y.ex y.ex i +ℚ whole-product₃ (pos 6) y.ey y.ey i +ℚ whole-product₃ (pos 3) y.g y.g i
    +ℚ whole-product₃ (pos 2) y.kx y.kx i +ℚ whole-product₃ (pos 2) y.ky y.ky i +ℚ whole-product y.kg y.kg i)

-- ---- a row

-- numbers are close to u times others
pub record AreClose (close u : ℚ) (row : Six ℤ) (held : Six ℚ) : Type 0 where
  pub ex : IsWithin close (whole row.ex -ℚ u *ℚ held.ex)
  pub ey : IsWithin close (whole row.ey -ℚ u *ℚ held.ey)
  pub g : IsWithin close (whole row.g -ℚ u *ℚ held.g)
  pub kx : IsWithin close (whole row.kx -ℚ u *ℚ held.kx)
  pub ky : IsWithin close (whole row.ky -ℚ u *ℚ held.ky)
  pub kg : IsWithin close (whole row.kg -ℚ u *ℚ held.kg)

abbrev row_of : Six ℚ → Six ℤ → ℚ
row_of m y = (m.ex *ℚ whole y.ex +ℚ m.ey *ℚ whole y.ey +ℚ m.g *ℚ whole y.g) +ℚ (m.kx *ℚ whole y.kx +ℚ m.ky *ℚ whole y.ky +ℚ m.kg *ℚ whole y.kg)

module _ (close u : ℚ) where
  share : (k y : ℤ) (m : ℚ) → IsWithin close (whole k -ℚ u *ℚ m) → IsWithin (close *ℚ whole (size_of y)) ((whole k -ℚ u *ℚ m) *ℚ whole y)
  share k y m w = let p = product_within w.from w.to (size_below y) (size_above y) in record { from = p.0; to = p.1 }

  row-close : (row : Six ℤ) (m : Six ℚ) (y : Six ℤ) → AreClose close u row m → IsWithin (close *ℚ whole (total (sizes y))) (whole (work row y) -ℚ u *ℚ row_of m y)
  unfolding ◌-ℚ◌
  row-close row m y c =
      let p1 = share row.ex y.ex m.ex c.ex in
      let p2 = share row.ey y.ey m.ey c.ey in
      let p3 = share row.g y.g m.g c.g in
      let p4 = share row.kx y.kx m.kx c.kx in
      let p5 = share row.ky y.ky m.ky c.ky in
      let p6 = share row.kg y.kg m.kg c.kg in
      record {
        from = at_most (above p1.from +ₙ above p2.from +ₙ above p3.from +ₙ above p4.from +ₙ above p5.from +ₙ above p6.from)
            (from₂ (whole (pos 1)) (work-whole row y) close (total-whole (sizes y))
            (solve 28 (λ w s u d k1 k2 k3 k4 k5 k6 m1 m2 m3 m4 m5 m6 y1 y2 y3 y4 y5 y6 a1 a2 a3 a4 a5 a6.
            (w ⊖ u ⊗ ((m1 ⊗ y1 ⊕ m2 ⊗ y2 ⊕ m3 ⊗ y3) ⊕ (m4 ⊗ y4 ⊕ m5 ⊗ y5 ⊕ m6 ⊗ y6))) ⊖ minus (d ⊗ s)
            ≐ ((k1 ⊖ u ⊗ m1) ⊗ y1 ⊖ minus (d ⊗ a1)) ⊕ ((k2 ⊖ u ⊗ m2) ⊗ y2 ⊖ minus (d ⊗ a2)) ⊕ ((k3 ⊖ u ⊗ m3) ⊗ y3 ⊖ minus (d ⊗ a3)) ⊕ ((k4 ⊖ u ⊗ m4) ⊗ y4 ⊖ minus (d ⊗ a4)) ⊕ ((k5 ⊖ u ⊗ m5) ⊗ y5 ⊖ minus (d ⊗ a5)) ⊕ ((k6 ⊖ u ⊗ m6) ⊗ y6 ⊖ minus (d ⊗ a6))
            ⊕ int (pos 1) ⊗ (w ⊖ (k1 ⊗ y1 ⊕ k2 ⊗ y2 ⊕ k3 ⊗ y3 ⊕ k4 ⊗ y4 ⊕ k5 ⊗ y5 ⊕ k6 ⊗ y6)) ⊕ d ⊗ (s ⊖ (a1 ⊕ a2 ⊕ a3 ⊕ a4 ⊕ a5 ⊕ a6))) refl
            (whole (work row y)) (whole (total (sizes y))) u close
            (whole row.ex) (whole row.ey) (whole row.g) (whole row.kx) (whole row.ky) (whole row.kg) m.ex m.ey m.g m.kx m.ky m.kg
            (whole y.ex) (whole y.ey) (whole y.g) (whole y.kx) (whole y.ky) (whole y.kg)
            (whole (size_of y.ex)) (whole (size_of y.ey)) (whole (size_of y.g)) (whole (size_of y.kx)) (whole (size_of y.ky)) (whole (size_of y.kg))));
        to = at_most (above p1.to +ₙ above p2.to +ₙ above p3.to +ₙ above p4.to +ₙ above p5.to +ₙ above p6.to)
            (from₂ (opposite (whole (pos 1))) (work-whole row y) close (total-whole (sizes y))
            (solve 28 (λ w s u d k1 k2 k3 k4 k5 k6 m1 m2 m3 m4 m5 m6 y1 y2 y3 y4 y5 y6 a1 a2 a3 a4 a5 a6.
            d ⊗ s ⊖ (w ⊖ u ⊗ ((m1 ⊗ y1 ⊕ m2 ⊗ y2 ⊕ m3 ⊗ y3) ⊕ (m4 ⊗ y4 ⊕ m5 ⊗ y5 ⊕ m6 ⊗ y6)))
            ≐ (d ⊗ a1 ⊖ (k1 ⊖ u ⊗ m1) ⊗ y1) ⊕ (d ⊗ a2 ⊖ (k2 ⊖ u ⊗ m2) ⊗ y2) ⊕ (d ⊗ a3 ⊖ (k3 ⊖ u ⊗ m3) ⊗ y3) ⊕ (d ⊗ a4 ⊖ (k4 ⊖ u ⊗ m4) ⊗ y4) ⊕ (d ⊗ a5 ⊖ (k5 ⊖ u ⊗ m5) ⊗ y5) ⊕ (d ⊗ a6 ⊖ (k6 ⊖ u ⊗ m6) ⊗ y6)
            ⊕ minus (int (pos 1)) ⊗ (w ⊖ (k1 ⊗ y1 ⊕ k2 ⊗ y2 ⊕ k3 ⊗ y3 ⊕ k4 ⊗ y4 ⊕ k5 ⊗ y5 ⊕ k6 ⊗ y6)) ⊕ d ⊗ (s ⊖ (a1 ⊕ a2 ⊕ a3 ⊕ a4 ⊕ a5 ⊕ a6))) refl
            (whole (work row y)) (whole (total (sizes y))) u close
            (whole row.ex) (whole row.ey) (whole row.g) (whole row.kx) (whole row.ky) (whole row.kg) m.ex m.ey m.g m.kx m.ky m.kg
            (whole y.ex) (whole y.ey) (whole y.g) (whole y.kx) (whole y.ky) (whole y.kg)
            (whole (size_of y.ex)) (whole (size_of y.ey)) (whole (size_of y.g)) (whole (size_of y.kx)) (whole (size_of y.ky)) (whole (size_of y.kg))));
      }

-- ---- an entry

-- each entry of a matrix is at most so wide
pub record EachNarrow {A : Type 0} (n : Numbers A) (wide : ℕ) (z : Sym3 A) : Type 0 where
  pub xx : width n z.xx ≤ wide
  pub xy : width n z.xy ≤ wide
  pub yy : width n z.yy ≤ wide
  pub xs : width n z.xs ≤ wide
  pub ys : width n z.ys ≤ wide
  pub ss : width n z.ss ≤ wide

abbrev pub twice_unit : {A : Type 0} → Numbers A → ℚ
twice_unit n = whole (pos 2) *ℚ whole (pos (unit n))

-- the sum of its ends is close to twice the held one
pub record MatrixClose {A : Type 0} (n : Numbers A) (wide : ℕ) (z : Sym3 A) (m : Sym3 ℚ) : Type 0 where
  pub xx : IsWithin (whole (pos wide)) (whole (ends_sum n z.xx) -ℚ twice_unit n *ℚ m.xx)
  pub xy : IsWithin (whole (pos wide)) (whole (ends_sum n z.xy) -ℚ twice_unit n *ℚ m.xy)
  pub yy : IsWithin (whole (pos wide)) (whole (ends_sum n z.yy) -ℚ twice_unit n *ℚ m.yy)
  pub xs : IsWithin (whole (pos wide)) (whole (ends_sum n z.xs) -ℚ twice_unit n *ℚ m.xs)
  pub ys : IsWithin (whole (pos wide)) (whole (ends_sum n z.ys) -ℚ twice_unit n *ℚ m.ys)
  pub ss : IsWithin (whole (pos wide)) (whole (ends_sum n z.ss) -ℚ twice_unit n *ℚ m.ss)

module _ {A : Type 0} (n : Numbers A) (wide : ℕ) where
  entry-close : (z : A) (x : ℚ) → Holds n z x → width n z ≤ wide → IsWithin (whole (pos wide)) (whole (ends_sum n z) -ℚ twice_unit n *ℚ x)
  unfolding ends.width ◌-ℚ◌
  entry-close z x h narrow =
      let apart = above (whole_at_most (let w : (n.high z -ℤ n.low z) ≤ℤ pos wide = omega (arith, ints, narrow) in w)) in
      let sum = whole-sum (n.low z) (n.high z) in
      let difference = whole-difference (n.high z) (n.low z) in
      record {
        from = at_most (apart +ₙ number 2 *ₙ above h.encloses.to)
            (from₂ (whole (pos 1)) sum (whole (pos 1)) difference
            (solve 7 (λ w s d l h u x.
            (s ⊖ int (pos 2) ⊗ u ⊗ x) ⊖ minus w ≐ (w ⊖ d) ⊕ int (pos 2) ⊗ (h ⊖ x ⊗ u) ⊕ int (pos 1) ⊗ (s ⊖ (l ⊕ h)) ⊕ int (pos 1) ⊗ (d ⊖ (h ⊖ l))) refl
            (whole (pos wide)) (whole (ends_sum n z)) (whole (n.high z -ℤ n.low z)) (whole (n.low z)) (whole (n.high z)) (whole (pos (unit n))) x));
        to = at_most (apart +ₙ number 2 *ₙ above h.encloses.from)
            (from₂ (opposite (whole (pos 1))) sum (whole (pos 1)) difference
            (solve 7 (λ w s d l h u x.
            w ⊖ (s ⊖ int (pos 2) ⊗ u ⊗ x) ≐ (w ⊖ d) ⊕ int (pos 2) ⊗ (x ⊗ u ⊖ l) ⊕ minus (int (pos 1)) ⊗ (s ⊖ (l ⊕ h)) ⊕ int (pos 1) ⊗ (d ⊖ (h ⊖ l))) refl
            (whole (pos wide)) (whole (ends_sum n z)) (whole (n.high z -ℤ n.low z)) (whole (n.low z)) (whole (n.high z)) (whole (pos (unit n))) x));
      }

  pub matrix-close : (z : Sym3 A) (m : Sym3 ℚ) → HoldsMatrix n z m → EachNarrow n wide z → MatrixClose n wide z m
  matrix-close z m h k = record {
    xx = entry-close z.xx m.xx h.xx k.xx;
    xy = entry-close z.xy m.xy h.xy k.xy;
    yy = entry-close z.yy m.yy h.yy k.yy;
    xs = entry-close z.xs m.xs h.xs k.xs;
    ys = entry-close z.ys m.ys h.ys k.ys;
    ss = entry-close z.ss m.ss h.ss k.ss;
  }

-- ---- the quadratic form at whole strains

module _ {A : Type 0} (n : Numbers A) (wide : ℕ) (w : Wall A) (m : Matrices)
    (ca : MatrixClose n wide w.a m.a) (cb : MatrixClose n wide w.b m.b) (cd : MatrixClose n wide w.d m.d) (y : Six ℤ) where
  abbrev pub a : Sym3 ℤ
  a = matrix_sums n w.a

  abbrev pub b : Sym3 ℤ
  b = matrix_sums n w.b

  abbrev pub d : Sym3 ℤ
  d = matrix_sums n w.d

  abbrev pub strain : OffAxis
  strain = record { x = whole y.ex; y = whole y.ey; s = whole y.g }

  abbrev pub bending : OffAxis
  bending = record { x = whole y.kx; y = whole y.ky; s = whole y.kg }

  abbrev pub held : Six ℚ
  held = record {
    ex = (forces m strain bending).x;
    ey = (forces m strain bending).y;
    g = (forces m strain bending).s;
    kx = (moments m strain bending).x;
    ky = (moments m strain bending).y;
    kg = (moments m strain bending).s;
  }

  abbrev pub spread : ℚ
  spread = whole (pos wide) *ℚ whole (total (sizes y))

  rows-close : AreClose spread (twice_unit n) (forces_at a b d y) held
  rows-close = record {
    ex = row-close (whole (pos wide)) (twice_unit n) (row_x a b) (row_x m.a m.b) y (record { ex = ca.xx; ey = ca.xy; g = ca.xs; kx = cb.xx; ky = cb.xy; kg = cb.xs });
    ey = row-close (whole (pos wide)) (twice_unit n) (row_y a b) (row_y m.a m.b) y (record { ex = ca.xy; ey = ca.yy; g = ca.ys; kx = cb.xy; ky = cb.yy; kg = cb.ys });
    g = row-close (whole (pos wide)) (twice_unit n) (row_s a b) (row_s m.a m.b) y (record { ex = ca.xs; ey = ca.ys; g = ca.ss; kx = cb.xs; ky = cb.ys; kg = cb.ss });
    kx = row-close (whole (pos wide)) (twice_unit n) (row_x b d) (row_x m.b m.d) y (record { ex = cb.xx; ey = cb.xy; g = cb.xs; kx = cd.xx; ky = cd.xy; kg = cd.xs });
    ky = row-close (whole (pos wide)) (twice_unit n) (row_y b d) (row_y m.b m.d) y (record { ex = cb.xy; ey = cb.yy; g = cb.ys; kx = cd.xy; ky = cd.yy; kg = cd.ys });
    kg = row-close (whole (pos wide)) (twice_unit n) (row_s b d) (row_s m.b m.d) y (record { ex = cb.xs; ey = cb.ys; g = cb.ss; kx = cd.xs; ky = cd.ys; kg = cd.ss });
  }

  abbrev pub energy : ℤ
  energy = work (forces_at a b d y) y

  form-close : IsWithin (spread *ℚ whole (total (sizes y))) (whole energy -ℚ twice_unit n *ℚ quadratic_form m strain bending)
  form-close = row-close spread (twice_unit n) (forces_at a b d y) held y rows-close

  -- six times the mean squares
  weighed-is : whole (weighed y) ≡ whole (pos 6) *ℚ mean_squares strain bending
  unfolding ◌-ℚ◌ ◌/ℚ◌
  weighed-is =
      weighed-whole y
      ∙ from₂ (whole (pos 3) *ℚ (whole y.g *ℚ whole y.g) +ℚ whole y.kg *ℚ whole y.kg) (twice_half (pos 1))
      (opposite (whole (pos 2) *ℚ (whole y.kx *ℚ whole y.kx +ℚ whole y.ky *ℚ whole y.ky +ℚ fraction (pos 1) (pos 2) *ℚ (whole y.kg *ℚ whole y.kg)))) (times-inverse (positive_number 2))
      (solve 8 (λ a b c d e f h i.
      let sq : Expr → Expr = λ x. x ⊗ x in
      int (pos 6) ⊗ sq a ⊕ int (pos 6) ⊗ sq b ⊕ int (pos 3) ⊗ sq c ⊕ int (pos 2) ⊗ sq d ⊕ int (pos 2) ⊗ sq e ⊕ sq f
      ≐ int (pos 6) ⊗ ((sq a ⊕ sq b ⊕ h ⊗ sq c) ⊕ (sq d ⊕ sq e ⊕ h ⊗ sq f) ⊗ i)
      ⊕ (int (pos 3) ⊗ sq c ⊕ sq f) ⊗ (int (pos 1) ⊖ int (pos 2) ⊗ h)
      ⊕ minus (int (pos 2) ⊗ (sq d ⊕ sq e ⊕ h ⊗ sq f)) ⊗ (int (pos 3) ⊗ i ⊖ int (pos 1))) refl
      (whole y.ex) (whole y.ey) (whole y.g) (whole y.kx) (whole y.ky) (whole y.kg) (fraction (pos 1) (pos 2)) (inverse (whole (pos 3))))

  abbrev pub unit_twice : ℤ
  unit_twice = pos 2 *ℤ pos (unit n)

  abbrev pub spare : ℤ
  spare = pos wide *ℤ (total (sizes y) *ℤ total (sizes y))

  spare-whole : whole spare ≡ whole (pos wide) *ℚ (whole (total (sizes y)) *ℚ whole (total (sizes y)))
  spare-whole = whole-product₃ (pos wide) (total (sizes y)) (total (sizes y))

  module _ (floor q0 : ℤ) (scale_above : pos 0 <ℤ q0) (form : HasFormBetween floor q0 m strain bending) where
    abbrev pub form_of : ℚ
    form_of = quadratic_form m strain bending

    abbrev pub mean : ℚ
    mean = mean_squares strain bending

    pub stiffest : (pos 6 *ℤ energy) ≤ℤ (unit_twice *ℤ weighed y +ℤ pos 6 *ℤ spare)
    unfolding ◌-ℚ◌
    stiffest = (whole-le _ _).0 (at_most
        (number 6 *ₙ above form-close.to +ₙ number 6 *ₙ (number 2 *ₙ number (unit n) *ₙ above form.1))
        (from₃ (whole (pos 1))
        (sum_image (unit_twice *ℤ weighed y) (pos 6 *ℤ spare) (product_image unit_twice (weighed y) (whole-product (pos 2) (pos (unit n))) weighed-is) (product_image (pos 6) spare refl spare-whole))
        (opposite (whole (pos 1))) (whole-product (pos 6) energy) (whole (pos 0)) spare-whole
        (solve 11 (λ r l e u w s f m x v p.
        r ⊖ l
        ≐ int (pos 6) ⊗ (w ⊗ s ⊗ s ⊖ (e ⊖ int (pos 2) ⊗ u ⊗ f)) ⊕ int (pos 6) ⊗ (int (pos 2) ⊗ u ⊗ (m ⊖ f))
        ⊕ int (pos 1) ⊗ (r ⊖ (int (pos 2) ⊗ u ⊗ (int (pos 6) ⊗ m) ⊕ int (pos 6) ⊗ (w ⊗ (s ⊗ s))))
        ⊕ minus (int (pos 1)) ⊗ (l ⊖ int (pos 6) ⊗ e) ⊕ int (pos 0) ⊗ (p ⊖ w ⊗ (s ⊗ s))) refl
        (whole (unit_twice *ℤ weighed y +ℤ pos 6 *ℤ spare)) (whole (pos 6 *ℤ energy)) (whole energy) (whole (pos (unit n)))
        (whole (pos wide)) (whole (total (sizes y))) form_of mean (whole (pos 0)) (whole (pos 0)) (whole spare))))

    pub softest : (floor *ℤ (unit_twice *ℤ weighed y)) ≤ℤ (pos 6 *ℤ (q0 *ℤ energy) +ℤ pos 6 *ℤ (q0 *ℤ spare))
    unfolding ◌-ℚ◌
    softest = (whole-le _ _).0 (at_most
        (number 6 *ₙ (weaken (whole_positive scale_above) *ₙ above form-close.from) +ₙ number 6 *ₙ (number 2 *ₙ number (unit n) *ₙ (weaken (whole_positive scale_above) *ₙ above form.0)))
        (from₃ (whole (pos 1))
        (sum_image (pos 6 *ℤ (q0 *ℤ energy)) (pos 6 *ℤ (q0 *ℤ spare)) (whole-product₃ (pos 6) q0 energy) (product_image (pos 6) (q0 *ℤ spare) refl (product_image q0 spare refl spare-whole)))
        (opposite (whole (pos 1)))
        (product_image floor (unit_twice *ℤ weighed y) refl (product_image unit_twice (weighed y) (whole-product (pos 2) (pos (unit n))) weighed-is))
        (whole (pos 6) *ℚ (whole (pos 2) *ℚ whole (pos (unit n)) *ℚ mean)) (fraction-times floor q0 scale_above)
        (solve 11 (λ r l e u w s f m p q c.
        r ⊖ l
        ≐ int (pos 6) ⊗ (q ⊗ ((e ⊖ int (pos 2) ⊗ u ⊗ f) ⊖ minus (w ⊗ s ⊗ s))) ⊕ int (pos 6) ⊗ (int (pos 2) ⊗ u ⊗ (q ⊗ (f ⊖ p ⊗ m)))
        ⊕ int (pos 1) ⊗ (r ⊖ (int (pos 6) ⊗ (q ⊗ e) ⊕ int (pos 6) ⊗ (q ⊗ (w ⊗ (s ⊗ s)))))
        ⊕ minus (int (pos 1)) ⊗ (l ⊖ c ⊗ (int (pos 2) ⊗ u ⊗ (int (pos 6) ⊗ m)))
        ⊕ int (pos 6) ⊗ (int (pos 2) ⊗ u ⊗ m) ⊗ (p ⊗ q ⊖ c)) refl
        (whole (pos 6 *ℤ (q0 *ℤ energy) +ℤ pos 6 *ℤ (q0 *ℤ spare))) (whole (floor *ℤ (unit_twice *ℤ weighed y))) (whole energy) (whole (pos (unit n)))
        (whole (pos wide)) (whole (total (sizes y))) form_of mean (fraction floor q0) (whole q0) (whole floor))))
