-- The criterion round a point: how wide its value is, by the slopes there and how far it goes from it.
use Rattle.std.proofs.Common.{subst, ℕ, ◌+◌, ◌*◌, ◌^◌, ◌≤◌, max, ℤ, pos, neg_ℤ, ◌≤ℤ◌, unsigned_abs, arith}
use Rattle.std.specs.Int.{int_min, int_max}
use Rattle.std.proofs.Math.Nat.{mul-le-mul, mul-le-mul_right, le_of_mul-le-mul_right}
use Rattle.std.proofs.lemmas.Int.{ints, clamps}
use Rattle.lam_fraction.specs.inside.Reaches.{Reaches, sixteenths}
use Rattle.lam_fraction.specs.numbers.Ends as ends
use Rattle.lam_fraction.specs.numbers.Numbers.{Numbers, Lawful, reach, unit, width}
use Rattle.lam_fraction.proofs.FractionBounds.{fraction-times}
use Rattle.lam_fraction.proofs.FractionPairs.{whole-le}
use Rattle.lam_fraction.specs.Fraction.{whole, ◌≤ℚ◌}
use Rattle.lam_fraction.proofs.numbers.Rooms.{product_within, square_within, sum_within, reaches_product, reaches_sum, reaches_square, reaches_quotient}
use Rattle.lam_fraction.proofs.numbers.Steps.{one_unit}
use Rattle.lam_stock.specs.declared.item.Lamina.{Lamina}
use Rattle.lam_stock.specs.Limits.{KeepsStrengths}
use Rattle.lam_tsai.specs.declared.coefficients.Coefficients.{Coefficients}
use Rattle.lam_tsai.specs.declared.components.Components.{Components}
use Rattle.lam_tsai.specs.inside.Formulas as by
use Rattle.lam_tsai.specs.inside.Values as value
use Rattle.lam_tsai.proofs.Reaching.{reach-coefficients}
use Rattle.lam_tsai.proofs.Rounding.{parts-room, parts-reach}
use Rattle.lam_narrow.proofs.ThinStrains.{thin-product}
use Rattle.lam_narrow.proofs.PointWidths as points
use Rattle.lam_narrow.proofs.PointWidths.{IsMiddle, IsSlope, along-slope, across-slope, shear-slope, centre-wide, along_square-reach, across_square-reach, mixed-reach, along_square-wide, across_square-wide, mixed-wide}

-- ---- numbers

-- a product of distances, of widths of twice half a width each
distances-most : (g h u w : ℕ) → 2 ^ 60 ≤ u → 2 ^ 16 * g ≤ u → 2 ^ 16 * h ≤ u → w * u ≤ (g + 4) * (2 * h + 6) + (h + 4) * (2 * g + 6) + 2 * u → 2 ^ 14 * w ≤ h + 3 * 2 ^ 14
distances-most g h u w fine small tiny most =
    let product : (2 ^ 16 * g) * h ≤ u * h = mul-le-mul_right h small in
    le_of_mul-le-mul_right {k = u} (omega (arith, most, product, small, tiny, fine)) (omega (arith, fine))

-- .. and how far it reaches
distances-far : (g h u r : ℕ) → 2 ^ 60 ≤ u → 2 ^ 16 * g ≤ u → 2 ^ 16 * h ≤ u → r * u ≤ (g + 4) * (h + 4) + 2 * u → 4 * r ≤ u
distances-far g h u r fine small tiny most =
    let product : (2 ^ 16 * g) * h ≤ u * h = mul-le-mul_right h small in
    let second : (2 ^ 16 * h) * u ≤ u * u = mul-le-mul_right u tiny in
    let room : (2 ^ 60) * u ≤ u * u = mul-le-mul_right u fine in
    let first : (2 ^ 16 * g) * u ≤ u * u = mul-le-mul_right u small in
    le_of_mul-le-mul_right {k = u} (omega (arith, most, product, small, tiny, fine, first, second, room)) (omega (arith, fine))

-- times a coefficient of so many sixteenths, and one more
times-most : (a h u r w v s : ℕ) → 1 ≤ u → 16 * a ≤ s * u → 4 * r ≤ u → 2 ^ 14 * w ≤ h + 3 * 2 ^ 14 → v * u ≤ a * w + r * 2 + 2 * u → 2 ^ 18 * v ≤ s * h + (3 * s + 48) * 2 ^ 14
times-most a h u r w v s some size far wide most =
    let first : (16 * a) * w ≤ (s * u) * w = mul-le-mul_right w size in
    let second : (2 ^ 14 * w) * (s * u) ≤ (h + 3 * 2 ^ 14) * (s * u) = mul-le-mul_right (s * u) wide in
    le_of_mul-le-mul_right {k = u} (omega (arith, first, second, far, most)) (omega (arith, some))

module _ {A : Type 0} {n : Numbers A} (laws : Lawful n) (slops : n.slop ≤ 2) (fine : 2 ^ 60 ≤ unit n) where
  -- ---- distances to both sides of 0

  -- the ends of a ratio of whole units
  end-near : (z : ℤ) → unsigned_abs z ≤ 2 * unit n → let r = n.calc.ratio z (pos (unit n)) in (n.low r ≤ℤ z) × (z ≤ℤ n.high r) × (width n r ≤ 2)
  end-near z small =
      let is = laws.ratio z (pos (unit n)) (parts-room laws z small) in
      let turned = fraction-times z (pos (unit n)) (omega (arith, ints, one_unit laws)) in
      let from = subst (λ t. whole (n.low (n.calc.ratio z (pos (unit n)))) ≤ℚ t) turned is.held.encloses.from in
      let to = subst (λ t. t ≤ℚ whole (n.high (n.calc.ratio z (pos (unit n))))) turned is.held.encloses.to in
      ((whole-le _ z).0 from, (whole-le z _).0 to, omega (arith, is.narrow, slops))

  hull-ends : (a b c d z : ℤ) (w : ℕ) → pos 0 ≤ℤ z → a ≤ℤ z → z ≤ℤ b → c ≤ℤ neg_ℤ z → neg_ℤ z ≤ℤ d → ends.width a b ≤ 2 → ends.width c d ≤ 2
      → w ≤ ends.width (int_min a c) (int_max b d) + 2 → w ≤ 2 * unsigned_abs z + 6
  unfolding ends.width
  hull-ends a b c d z w zz az zb cz zd ab cd most = omega (arith, ints, clamps, zz, az, zb, cz, zd, ab, cd, most)

  far-ends : (a b c d z : ℤ) (r : ℕ) → pos 0 ≤ℤ z → a ≤ℤ z → z ≤ℤ b → c ≤ℤ neg_ℤ z → neg_ℤ z ≤ℤ d → ends.width a b ≤ 2 → ends.width c d ≤ 2
      → r ≤ max (ends.reach a b) (ends.reach c d) + 2 → r ≤ unsigned_abs z + 4
  unfolding ends.width ends.reach
  far-ends a b c d z r zz az zb cz zd ab cd most = omega (arith, ints, zz, az, zb, cz, zd, ab, cd, most)

  pub record IsDistance (d : A) (h : ℕ) : Type 0 where
    pub wide : width n d ≤ 2 * h + 6
    pub far : reach n d ≤ h + 4
    pub reaches : Reaches n (sixteenths 1 + 8) d
    pub small : 2 ^ 16 * h ≤ unit n

  pub is-distance : (z : ℤ) → pos 0 ≤ℤ z → 2 ^ 16 * unsigned_abs z ≤ unit n → Reaches n (sixteenths 1 + 8) (value.spread n z) → IsDistance (value.spread n z) (unsigned_abs z)
  is-distance z zz small reaches =
      let up_small : unsigned_abs z ≤ 2 * unit n = omega (arith, small) in
      let down_small : unsigned_abs (neg_ℤ z) ≤ 2 * unit n = omega (arith, ints, small) in
      let up = end-near z up_small in
      let down = end-near (neg_ℤ z) down_small in
      let hull = laws.hull (n.calc.ratio z (pos (unit n))) (n.calc.ratio (neg_ℤ z) (pos (unit n))) (record { first = parts-reach laws z up_small; second = parts-reach laws (neg_ℤ z) down_small }) in
      record {
        wide = hull-ends _ _ _ _ z (width n (value.spread n z)) zz up.0 up.1 down.0 down.1 up.2 down.2 (omega (arith, hull.narrow, slops));
        far = far-ends _ _ _ _ z (reach n (value.spread n z)) zz up.0 up.1 down.0 down.1 up.2 down.2 (omega (arith, hull.far, slops));
        reaches = reaches;
        small = small;
      }

  -- ---- the squares of the distances

  square-is : {d : A} {h : ℕ} → IsDistance d h → (2 ^ 14 * width n (n.calc.square d) ≤ h + 3 * 2 ^ 14) × (4 * reach n (n.calc.square d) ≤ unit n)
  square-is {d} {h} is =
      let s = laws.square d (square_within laws is.reaches (omega arith)) in
      let times : reach n d * width n d ≤ (h + 4) * (2 * h + 6) = mul-le-mul is.far is.wide in
      let reached : reach n d * reach n d ≤ (h + 4) * (h + 4) = mul-le-mul is.far is.far in
      let slop : n.slop * unit n ≤ 2 * unit n = mul-le-mul_right (unit n) slops in (
        distances-most h h (unit n) (width n (n.calc.square d)) fine is.small is.small (omega (arith, s.narrow, times, slop)),
        distances-far h h (unit n) (reach n (n.calc.square d)) fine is.small is.small (omega (arith, s.far, reached, slop)),
      )

  product-is : {d e : A} {g h : ℕ} → IsDistance d g → IsDistance e h → (2 ^ 14 * width n (n.calc.product d e) ≤ h + 3 * 2 ^ 14) × (4 * reach n (n.calc.product d e) ≤ unit n)
  product-is {d} {e} {g} {h} is also =
      let p = laws.product d e (product_within laws is.reaches also.reaches (omega arith)) in
      let first : reach n d * width n e ≤ (g + 4) * (2 * h + 6) = mul-le-mul is.far also.wide in
      let second : reach n e * width n d ≤ (h + 4) * (2 * g + 6) = mul-le-mul also.far is.wide in
      let reached : reach n d * reach n e ≤ (g + 4) * (h + 4) = mul-le-mul is.far also.far in
      let slop : n.slop * unit n ≤ 2 * unit n = mul-le-mul_right (unit n) slops in (
        distances-most g h (unit n) (width n (n.calc.product d e)) fine is.small also.small (omega (arith, p.narrow, first, second, slop)),
        distances-far g h (unit n) (reach n (n.calc.product d e)) fine is.small also.small (omega (arith, p.far, reached, slop)),
      )

  -- a coefficient times a square or a product of distances
  bent : {a z : A} {e f : ℕ} (s h : ℕ) → Reaches n e a → Reaches n f z → e * f ≤ 6 * (2 ^ 28 * 2 ^ 28) → 16 * reach n a ≤ s * unit n → width n a ≤ 2
      → (2 ^ 14 * width n z ≤ h + 3 * 2 ^ 14) × (4 * reach n z ≤ unit n) → 2 ^ 18 * width n (n.calc.product a z) ≤ s * h + (3 * s + 48) * 2 ^ 14
  bent {a} {z} s h fa fz room size wide is =
      times-most (reach n a) h (unit n) (reach n z) (width n z) (width n (n.calc.product a z)) s (one_unit laws) size is.1 is.0
      (thin-product laws slops (reach n a) 2 (reach n z) (width n z) fa fz room (omega arith) wide (omega arith) (omega arith))

  -- ---- a slope times a distance
  sloped : {g d : A} {h : ℕ} → Reaches n (sixteenths 80) g → width n g ≤ 64 → IsDistance d h → width n (n.calc.product g d) * unit n ≤ 2 * (reach n g * h) + 64 * h + 33 * unit n
  sloped {g} {d} {h} far wide is =
      let five : reach n g ≤ 5 * unit n = omega (arith, far.far) in
      let most = thin-product laws slops (reach n g) 64 (h + 4) (2 * h + 6) far is.reaches (omega arith) (omega arith) wide is.far is.wide in
      omega (arith, most, five, fine)

  gathered : (u r1 r2 r3 h1 h2 h3 w1 w2 w3 b1 b2 b3 b4 c t b w : ℕ) → 2 ^ 60 ≤ u
      → w1 * u ≤ 2 * (r1 * h1) + 64 * h1 + 33 * u → w2 * u ≤ 2 * (r2 * h2) + 64 * h2 + 33 * u → w3 * u ≤ 2 * (r3 * h3) + 64 * h3 + 33 * u
      → 2 ^ 16 * h1 ≤ u → 2 ^ 16 * h2 ≤ u → 2 ^ 16 * h3 ≤ u
      → 2 ^ 18 * b1 ≤ 17 * h1 + (3 * 17 + 48) * 2 ^ 14 → 2 ^ 18 * b2 ≤ 17 * h2 + (3 * 17 + 48) * 2 ^ 14 → 2 ^ 18 * b3 ≤ 29 * h2 + (3 * 29 + 48) * 2 ^ 14 → 2 ^ 18 * b4 ≤ 16 * h3 + (3 * 16 + 48) * 2 ^ 14
      → c ≤ 128 → t ≤ w1 + w2 + w3 + 4 → b ≤ b1 + b2 + (b3 + b4 + 2) + 4 → w ≤ c + t + b + 4
      → 4096 * (w * u) ≤ 8192 * (r1 * h1 + r2 * h2 + r3 * h3) + (h1 + h2 + h3) * u + 2 ^ 22 * u
  gathered u r1 r2 r3 h1 h2 h3 w1 w2 w3 b1 b2 b3 b4 c t b w fine s1 s2 s3 d1 d2 d3 q1 q2 q3 q4 cc tt bb ww =
      let few : 4096 * w ≤ 4096 * (w1 + w2 + w3) + 4096 * 200 + (h1 + h2 + h3) = omega (arith, q1, q2, q3, q4, cc, tt, bb, ww) in
      let times : (4096 * w) * u ≤ (4096 * (w1 + w2 + w3) + 4096 * 200 + (h1 + h2 + h3)) * u = mul-le-mul_right u few in
      omega (arith, times, s1, s2, s3, d1, d2, d3, fine)

  module _ {l : Lamina} (strengths : KeepsStrengths l) {x y s : ℤ} (hx : IsMiddle laws slops strengths x) (hy : IsMiddle laws slops strengths y) (hs : IsMiddle laws slops strengths s)
      {dx dy ds : A} {h1 h2 h3 : ℕ} (ix : IsDistance dx h1) (iy : IsDistance dy h2) (iz : IsDistance ds h3) where
    abbrev c : Coefficients A
    c = by.coefficients n.calc l

    abbrev m : Components A
    m = points.m laws slops strengths hx hy hs

    abbrev d : Components A
    d = record { along = dx; across = dy; shear = ds }

    abbrev pub g1 : A
    g1 = by.slope n.calc c.along c.along_square c.mixed m.along m.across

    abbrev pub g2 : A
    g2 = by.slope n.calc c.across c.across_square c.mixed m.across m.along

    abbrev pub g3 : A
    g3 = n.calc.quotient m.shear (pos 8)

    -- 4096 times the width of the value
    pub round-wide : 4096 * (width n (by.round_point n.calc c m d) * unit n) ≤ 8192 * (reach n g1 * h1 + reach n g2 * h2 + reach n g3 * h3) + (h1 + h2 + h3) * unit n + 2 ^ 22 * unit n
    round-wide =
        let rc = reach-coefficients laws strengths in
        let e1 = along-slope laws slops strengths hx hy hs in
        let e2 = across-slope laws slops strengths hx hy hs in
        let e3 = shear-slope laws slops strengths hx hy hs in
        let far1 = reaches_product laws e1.far ix.reaches (omega arith) in
        let far2 = reaches_product laws e2.far iy.reaches (omega arith) in
        let far3 = reaches_product laws e3.far iz.reaches (omega arith) in
        let t12 = laws.sum _ _ (sum_within laws far1 far2 (omega arith)) in
        let far12 = reaches_sum laws far1 far2 (omega arith) in
        let t = laws.sum _ _ (sum_within laws far12 far3 (omega arith)) in
        let far_t = reaches_sum laws far12 far3 (omega arith) in
        let fx = reaches_square laws ix.reaches (omega arith) in
        let fy = reaches_square laws iy.reaches (omega arith) in
        let fz = reaches_square laws iz.reaches (omega arith) in
        let fxy = reaches_product laws ix.reaches iy.reaches (omega arith) in
        let b1 = bent 17 h1 rc.along_square fx (omega arith) (along_square-reach laws slops strengths) (along_square-wide laws slops strengths) (square-is ix) in
        let b2 = bent 17 h2 rc.across_square fy (omega arith) (across_square-reach laws slops strengths) (across_square-wide laws slops strengths) (square-is iy) in
        let b3 = bent 29 h2 rc.mixed fxy (omega arith) (mixed-reach laws slops strengths) (mixed-wide laws slops strengths) (product-is ix iy) in
        let quotient = laws.quotient (n.calc.square ds) (pos 16) (omega (arith, ints)) in
        let squared = (square-is iz).0 in
        let b4 : 2 ^ 18 * width n (n.calc.quotient (n.calc.square ds) (pos 16)) ≤ 16 * h3 + (3 * 16 + 48) * 2 ^ 14 = omega (arith, quotient.narrow, squared, slops) in
        let far_b1 = reaches_product laws rc.along_square fx (omega arith) in
        let far_b2 = reaches_product laws rc.across_square fy (omega arith) in
        let far_b3 = reaches_product laws rc.mixed fxy (omega arith) in
        let far_b4 = reaches_quotient laws (pos 16) fz (omega (arith, ints)) in
        let b12 = laws.sum _ _ (sum_within laws far_b1 far_b2 (omega arith)) in
        let b34 = laws.sum _ _ (sum_within laws far_b3 far_b4 (omega arith)) in
        let far_b12 = reaches_sum laws far_b1 far_b2 (omega arith) in
        let far_b34 = reaches_sum laws far_b3 far_b4 (omega arith) in
        let b = laws.sum _ _ (sum_within laws far_b12 far_b34 (omega arith)) in
        let far_b = reaches_sum laws far_b12 far_b34 (omega arith) in
        let far_c = points.centre-far laws slops strengths hx hy hs in
        let ct = laws.sum _ _ (sum_within laws far_c far_t (omega arith)) in
        let far_ct = reaches_sum laws far_c far_t (omega arith) in
        let all = laws.sum _ _ (sum_within laws far_ct far_b (omega arith)) in
        gathered (unit n) (reach n g1) (reach n g2) (reach n g3) h1 h2 h3
        (width n (n.calc.product g1 dx)) (width n (n.calc.product g2 dy)) (width n (n.calc.product g3 ds))
        (width n (n.calc.product c.along_square (n.calc.square dx))) (width n (n.calc.product c.across_square (n.calc.square dy))) (width n (n.calc.product c.mixed (n.calc.product dx dy))) (width n (n.calc.quotient (n.calc.square ds) (pos 16)))
        (width n (by.centre n.calc c m)) (width n (by.tilt n.calc c m d)) (width n (by.bend n.calc c d)) (width n (by.round_point n.calc c m d)) fine
        (sloped e1.far e1.wide ix) (sloped e2.far e2.wide iy) (sloped e3.far e3.wide iz) ix.small iy.small iz.small b1 b2 b3 b4
        (centre-wide laws slops strengths hx hy hs) (omega (arith, t12.narrow, t.narrow, slops)) (omega (arith, b12.narrow, b34.narrow, b.narrow, slops)) (omega (arith, ct.narrow, all.narrow, slops))
