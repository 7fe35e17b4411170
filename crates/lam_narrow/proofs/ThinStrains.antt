-- How wide the strains of a face are in the axes of a ply, by how wide those of the wall are: in units, over 60 bits.
use Rattle.std.proofs.Common.{◌≡◌, refl, subst, ℕ, ◌+◌, ◌*◌, ◌/◌, ◌^◌, ◌≤◌, ℤ, pos, ◌+ℤ◌, ◌-ℤ◌, ◌*ℤ◌, ◌≤ℤ◌, unsigned_abs, arith}
use Rattle.std.proofs.Math.Nat.{mul-le-mul, mul-le-mul_right, le_of_mul-le-mul_right}
use Rattle.std.proofs.lemmas.Int.{ints}
use Rattle.lam_fraction.specs.inside.Reaches.{Reaches, sixteenths}
use Rattle.lam_fraction.specs.numbers.Numbers.{Numbers, Lawful, reach, unit, width}
use Rattle.lam_fraction.proofs.Expression.{int, ◌⊕◌, ◌⊖◌, ◌⊗◌}
use Rattle.lam_fraction.proofs.Integers as Z
use Rattle.lam_fraction.proofs.Solver.{◌≐◌}
use Rattle.lam_fraction.proofs.numbers.Rooms.{product_within, sum_within, multiple_within, reaches_product, reaches_sum, reaches_difference, reaches_multiple, reaches_quotient, reaches_more}
use Rattle.lam_direction.specs.Circle.{CirclePoint, IsDirection}
use Rattle.lam_direction.specs.Squares.{squares_of}
use Rattle.lam_direction.proofs.SquareBounds.{squares-within}
use Rattle.lam_number.specs.declared.strength.FaceStrain.{FaceStrain}
use Rattle.lam_tsai.specs.declared.angle.Angle.{Angle}
use Rattle.lam_tsai.specs.declared.components.Components.{Components}
use Rattle.lam_tsai.specs.declared.place.Side.{Side}
use Rattle.lam_tsai.specs.FaceStrains.{IsWithinSix}
use Rattle.lam_tsai.specs.inside.Formulas as by
use Rattle.lam_tsai.specs.inside.Reach.{ReachAngle}
use Rattle.lam_tsai.proofs.Reaching.{face_reach, reach-angle, signed-size, part-room, product-size, difference-size}
use Rattle.lam_tsai.proofs.Shifts.{power-small}
use Rattle.lam_narrow.specs.Straddling.{AreWithin}

-- ---- the numbers of a direction

-- twice the product of two numbers is at most the sum of their squares, with either sign
twice-most : (p q s : ℤ) → (p *ℤ p) +ℤ (q *ℤ q) ≡ s → (pos 2 *ℤ (q *ℤ p)) ≤ℤ s
twice-most p q s e = subst (λ z. (pos 2 *ℤ (q *ℤ p)) ≤ℤ z) e
    (Z.at_most (Z.square (p -ℤ q)) (Z.solve 2 (λ p q. (p ⊗ p ⊕ q ⊗ q) ⊖ int (pos 2) ⊗ (q ⊗ p) ≐ (p ⊖ q) ⊗ (p ⊖ q)) refl p q))

twice-least : (p q s : ℤ) → (p *ℤ p) +ℤ (q *ℤ q) ≡ s → pos 0 ≤ℤ (s +ℤ pos 2 *ℤ (q *ℤ p))
twice-least p q s e = subst (λ z. pos 0 ≤ℤ (z +ℤ pos 2 *ℤ (q *ℤ p))) e
    (Z.at_most (Z.square (p +ℤ q)) (Z.solve 2 (λ p q. ((p ⊗ p ⊕ q ⊗ q) ⊕ int (pos 2) ⊗ (q ⊗ p)) ⊖ int (pos 0) ≐ (p ⊕ q) ⊗ (p ⊕ q)) refl p q))

module _ {d : CirclePoint} (h : IsDirection d) where
  pub squares-sum : unsigned_abs (d.p *ℤ d.p) + unsigned_abs (d.q *ℤ d.q) ≡ unsigned_abs (d.h *ℤ d.h)
  squares-sum = omega (arith, ints, h.on_circle, Z.square d.p, Z.square d.q)

  pub twice-product : (side : Side) → 2 * unsigned_abs (by.signed side (d.q *ℤ d.p)) ≤ unsigned_abs (d.h *ℤ d.h)
  twice-product side =
      let most = twice-most d.p d.q (d.h *ℤ d.h) h.on_circle in
      let least = twice-least d.p d.q (d.h *ℤ d.h) h.on_circle in
      omega (arith, ints, signed-size side (d.q *ℤ d.p), most, least, Z.square d.h)

-- ---- calls

module _ {A : Type 0} {n : Numbers A} (laws : Lawful n) (slops : n.slop ≤ 2) where
  -- how wide a product is
  pub thin-product : {e f : ℕ} {z w : A} (a v b x : ℕ) → Reaches n e z → Reaches n f w → e * f ≤ 6 * (2 ^ 28 * 2 ^ 28) → reach n z ≤ a → width n z ≤ v → reach n w ≤ b → width n w ≤ x
      → width n (n.calc.product z w) * unit n ≤ a * x + b * v + 2 * unit n
  thin-product {z = z} {w} a v b x h k room far_z wide_z far_w wide_w =
      let first : reach n z * width n w ≤ a * x = mul-le-mul far_z wide_w in
      let second : reach n w * width n z ≤ b * v = mul-le-mul far_w wide_z in
      let two : n.slop * unit n ≤ 2 * unit n = mul-le-mul_right (unit n) slops in
      omega (arith, (laws.product z w (product_within laws h k room)).narrow, first, second, two)

  -- an eighth of a strain
  eighth-wide : (z : A) (m : ℕ) → width n z ≤ m → 8 * width n (n.calc.quotient z (pos 8)) ≤ m + 16
  eighth-wide z m h = omega (arith, ints, (laws.quotient z (pos 8) (omega (arith, ints))).narrow, h, slops)

  eighth-far : (z : A) → reach n z ≤ 6 * unit n → 8 * reach n (n.calc.quotient z (pos 8)) ≤ 6 * unit n + 16
  eighth-far z h = omega (arith, ints, (laws.quotient z (pos 8) (omega (arith, ints))).far, h, slops)

  -- ---- the angle of a side

  pub record ThinAngle (a : Angle A) : Type 0 where
    pub reaches : ReachAngle n a
    pub squares : reach n a.cosine_square + reach n a.sine_square ≤ unit n + 4
    pub product : 2 * reach n a.product ≤ unit n + 4
    pub difference : reach n a.difference ≤ unit n + 2
    pub cosine_wide : width n a.cosine_square ≤ 2
    pub sine_wide : width n a.sine_square ≤ 2
    pub product_wide : width n a.product ≤ 2
    pub difference_wide : width n a.difference ≤ 2

  -- two ratios whose numerators make a part of the denominator at most
  sum-far : (r s k l d u : ℕ) → 1 ≤ d → r * d ≤ k * u + 2 * d → s * d ≤ l * u + 2 * d → k + l ≤ d → r + s ≤ u + 4
  sum-far r s k l d u some h g most =
      let times : (k + l) * u ≤ d * u = mul-le-mul_right u most in
      le_of_mul-le-mul_right {k = d} (omega (arith, h, g, times)) (omega (arith, some))

  module _ {d : CirclePoint} (h : IsDirection d) where
    part-far : (k : ℤ) → unsigned_abs k ≤ unsigned_abs (d.h *ℤ d.h) → reach n (n.calc.ratio k (d.h *ℤ d.h)) * unsigned_abs (d.h *ℤ d.h) ≤ unsigned_abs k * unit n + 2 * unsigned_abs (d.h *ℤ d.h)
    part-far k small =
        let two : n.slop * unsigned_abs (d.h *ℤ d.h) ≤ 2 * unsigned_abs (d.h *ℤ d.h) = mul-le-mul_right (unsigned_abs (d.h *ℤ d.h)) slops in
        omega (arith, (laws.ratio k (d.h *ℤ d.h) (part-room h k small)).far, two)

    part-wide : (k : ℤ) → unsigned_abs k ≤ unsigned_abs (d.h *ℤ d.h) → width n (n.calc.ratio k (d.h *ℤ d.h)) ≤ 2
    part-wide k small = omega (arith, (laws.ratio k (d.h *ℤ d.h) (part-room h k small)).narrow, slops)

    pub thin-angle : (side : Side) → ThinAngle (by.angle n.calc side (squares_of d))
    thin-angle side =
        let t = squares-within h refl in
        let some : 1 ≤ unsigned_abs (d.h *ℤ d.h) = omega (arith, ints, t.least) in
        let size = unsigned_abs (d.h *ℤ d.h) in
        let k = by.signed side (d.q *ℤ d.p) in
        let l = (d.p *ℤ d.p) -ℤ (d.q *ℤ d.q) in
        let product = part-far k (product-size h side) in
        let difference = part-far l (difference-size h) in
        let rc = reach n (n.calc.ratio (d.p *ℤ d.p) (d.h *ℤ d.h)) in
        let rs = reach n (n.calc.ratio (d.q *ℤ d.q) (d.h *ℤ d.h)) in
        let rp = reach n (n.calc.ratio k (d.h *ℤ d.h)) in
        let rd = reach n (n.calc.ratio l (d.h *ℤ d.h)) in
        let both : rp + rp ≤ unit n + 4 = sum-far rp rp (unsigned_abs k) (unsigned_abs k) size (unit n) some product product (omega (arith, twice-product h side)) in
        let times : unsigned_abs l * unit n ≤ size * unit n = mul-le-mul_right (unit n) (difference-size h) in
        record {
          reaches = reach-angle h laws side;
          squares = sum-far rc rs (unsigned_abs (d.p *ℤ d.p)) (unsigned_abs (d.q *ℤ d.q)) size (unit n) some (part-far (d.p *ℤ d.p) t.cosine_square) (part-far (d.q *ℤ d.q) t.sine_square) (omega (arith, squares-sum h));
          product = omega (arith, both);
          difference = le_of_mul-le-mul_right {k = size} (omega (arith, difference, times)) (omega (arith, some));
          cosine_wide = part-wide (d.p *ℤ d.p) t.cosine_square;
          sine_wide = part-wide (d.q *ℤ d.q) t.sine_square;
          product_wide = part-wide k (product-size h side);
          difference_wide = part-wide l (difference-size h);
        }

  -- ---- an eighth of a strain, in ply axes

  -- sums of three products of parts of a circle with eighths of strains
  mixed-most : (a b c e m u w : ℕ) → 2 ^ 28 ≤ u → a + b ≤ u + 4 → 2 * c ≤ u + 4 → 8 * e ≤ m + 16 → m ≤ 12 * u
      → w * u ≤ (a * e + u * 2 + 2 * u) + (b * e + u * 2 + 2 * u) + (c * e + u * 2 + 2 * u) + 4 * u → 16 * w ≤ 3 * m + 449
  mixed-most a b c e m u w fine squares product eighth most h =
      let both : (2 * (a + b + c)) * (8 * e) ≤ (3 * u + 12) * (m + 16) = mul-le-mul (omega (arith, squares, product)) eighth in
      le_of_mul-le-mul_right {k = u} (omega (arith, h, both, most, fine)) (omega (arith, fine))

  turned-most : (c d e m u w : ℕ) → 2 ^ 28 ≤ u → 2 * c ≤ u + 4 → d ≤ u + 2 → 8 * e ≤ m + 16 → m ≤ 12 * u
      → w * u ≤ ((2 * c + 2) * (2 * e + 2) + (2 * u) * 6 + 2 * u) + (d * e + u * 2 + 2 * u) + 2 * u → 8 * w ≤ 3 * m + 449
  turned-most c d e m u w fine product difference eighth most h =
      let first : (2 * c + 2) * (8 * e) ≤ (u + 6) * (m + 16) = mul-le-mul (omega (arith, product)) eighth in
      let second : d * (8 * e) ≤ (u + 2) * (m + 16) = mul-le-mul difference eighth in
      le_of_mul-le-mul_right {k = u} (omega (arith, h, first, second, product, most, fine)) (omega (arith, fine))

  pub record ThinStrain (m : ℕ) (e : Components A) : Type 0 where
    pub along : 16 * width n e.along ≤ 3 * m + 449
    pub across : 16 * width n e.across ≤ 3 * m + 449
    pub shear : 8 * width n e.shear ≤ 3 * m + 449

  pub fine-unit : 2 ^ 28 ≤ unit n
  fine-unit = power-small 28 n.scale laws.fine

  module _ {a : Angle A} (angle : ThinAngle a) {at : FaceStrain A} (six : IsWithinSix n at) {m : ℕ} (narrow : AreWithin m n at) (most : m ≤ 12 * unit n) where
    abbrev x : A
    x = n.calc.quotient at.ex (pos 8)

    abbrev y : A
    y = n.calc.quotient at.ey (pos 8)

    abbrev g : A
    g = n.calc.quotient at.g (pos 8)

    abbrev e : ℕ
    e = (m + 16) / 8

    eighth : 8 * e ≤ m + 16
    eighth = omega arith

    in-eighths : (w : ℕ) → 8 * w ≤ m + 16 → w ≤ e
    in-eighths w h = omega (arith, h)

    abbrev far : ℕ
    far = sixteenths 12 + 4

    far-x : Reaches n far x
    far-x = reaches_more laws (reaches_quotient laws (pos 8) (face_reach six).x (omega (arith, ints))) (omega arith)

    far-y : Reaches n far y
    far-y = reaches_more laws (reaches_quotient laws (pos 8) (face_reach six).y (omega (arith, ints))) (omega arith)

    far-g : Reaches n far g
    far-g = reaches_more laws (reaches_quotient laws (pos 8) (face_reach six).s (omega (arith, ints))) (omega arith)

    small : (z : A) → reach n z ≤ 6 * unit n → reach n (n.calc.quotient z (pos 8)) ≤ unit n
    small z h = omega (arith, eighth-far z h, fine-unit)

    term : {c t : A} (r : ℕ) → Reaches n (sixteenths 16 + 4) c → reach n c ≤ r → width n c ≤ 2 → Reaches n far t → reach n t ≤ unit n → width n t ≤ e → width n (n.calc.product c t) * unit n ≤ r * e + unit n * 2 + 2 * unit n
    term r fc rc wc ft rt wt = thin-product r 2 (unit n) e fc ft (omega arith) rc wc rt wt

    product-far : {c t : A} → Reaches n (sixteenths 16 + 4) c → Reaches n far t → Reaches n (sixteenths 13) (n.calc.product c t)
    product-far fc ft = reaches_more laws (reaches_product laws fc ft (omega arith)) (omega arith)

    x-wide : width n x ≤ e
    x-wide = in-eighths (width n x) (eighth-wide at.ex m narrow.x)

    y-wide : width n y ≤ e
    y-wide = in-eighths (width n y) (eighth-wide at.ey m narrow.y)

    g-wide : width n g ≤ e
    g-wide = in-eighths (width n g) (eighth-wide at.g m narrow.s)

    abbrev both : A → A → A → A → A
    both c s p q = n.calc.sum (n.calc.product c p) (n.calc.product s q)

    both-far : {c s p q : A} → Reaches n (sixteenths 16 + 4) c → Reaches n (sixteenths 16 + 4) s → Reaches n far p → Reaches n far q → Reaches n (sixteenths 27) (both c s p q)
    both-far fc fs fp fq = reaches_more laws (reaches_sum laws (product-far fc fp) (product-far fs fq) (omega arith)) (omega arith)

    both-wide : {c s p q : A} → Reaches n (sixteenths 16 + 4) c → Reaches n (sixteenths 16 + 4) s → Reaches n far p → Reaches n far q
        → width n (both c s p q) ≤ width n (n.calc.product c p) + width n (n.calc.product s q) + 2
    both-wide fc fs fp fq = omega (arith, (laws.sum _ _ (sum_within laws (product-far fc fp) (product-far fs fq) (omega arith))).narrow, slops)

    pub thin-strain : ThinStrain m (by.strain n.calc a at)
    thin-strain =
        let r = angle.reaches in
        let gx = term (reach n a.cosine_square) r.cosine_square (omega arith) angle.cosine_wide far-x (small at.ex six.x) x-wide in
        let gy = term (reach n a.sine_square) r.sine_square (omega arith) angle.sine_wide far-y (small at.ey six.y) y-wide in
        let gg = term (reach n a.product) r.product (omega arith) angle.product_wide far-g (small at.g six.s) g-wide in
        let hx = term (reach n a.sine_square) r.sine_square (omega arith) angle.sine_wide far-x (small at.ex six.x) x-wide in
        let hy = term (reach n a.cosine_square) r.cosine_square (omega arith) angle.cosine_wide far-y (small at.ey six.y) y-wide in
        let along_both = both-wide r.cosine_square r.sine_square far-x far-y in
        let across_both = both-wide r.sine_square r.cosine_square far-x far-y in
        let along_sum = (laws.sum _ _ (sum_within laws (both-far r.cosine_square r.sine_square far-x far-y) (product-far r.product far-g) (omega arith))).narrow in
        let across_sum = (laws.difference _ _ (sum_within laws (both-far r.sine_square r.cosine_square far-x far-y) (product-far r.product far-g) (omega arith))).narrow in
        let along_wide : width n (by.along_strain n.calc a x y g) ≤ width n (n.calc.product a.cosine_square x) + width n (n.calc.product a.sine_square y) + width n (n.calc.product a.product g) + 4 = omega (arith, along_both, along_sum, slops) in
        let across_wide : width n (by.across_strain n.calc a x y g) ≤ width n (n.calc.product a.sine_square x) + width n (n.calc.product a.cosine_square y) + width n (n.calc.product a.product g) + 4 = omega (arith, across_both, across_sum, slops) in
        let along_times = mul-le-mul_right (unit n) along_wide in
        let across_times = mul-le-mul_right (unit n) across_wide in
        -- the shear
        let twice = n.calc.multiple a.product (pos 2) in
        let gap = n.calc.difference y x in
        let multiple = laws.multiple a.product (pos 2) (multiple_within laws (pos 2) r.product (omega arith)) in
        let far-twice = reaches_multiple laws (pos 2) r.product (omega arith) in
        let twice_far : reach n twice ≤ 2 * reach n a.product + 2 = omega (arith, multiple.far, slops) in
        let twice_wide : width n twice ≤ 6 = omega (arith, multiple.narrow, angle.product_wide, slops) in
        let difference = laws.difference y x (sum_within laws far-y far-x (omega arith)) in
        let far-gap = reaches_difference laws far-y far-x (omega arith) in
        let gap_far : reach n gap ≤ 2 * unit n = omega (arith, difference.far, eighth-far at.ex six.x, eighth-far at.ey six.y, slops, fine-unit) in
        let gap_wide : width n gap ≤ 2 * e + 2 = omega (arith, difference.narrow, x-wide, y-wide, slops) in
        let first = thin-product (2 * reach n a.product + 2) 6 (2 * unit n) (2 * e + 2) far-twice far-gap (omega arith) twice_far twice_wide gap_far gap_wide in
        let second = term (reach n a.difference) r.difference (omega arith) angle.difference_wide far-g (small at.g six.s) g-wide in
        let shear_sum = (laws.sum _ _ (sum_within laws (reaches_product laws far-twice far-gap (omega arith)) (product-far r.difference far-g) (omega arith))).narrow in
        let shear_wide : width n (by.shear_strain n.calc a x y g) ≤ width n (n.calc.product twice gap) + width n (n.calc.product a.difference g) + 2 = omega (arith, shear_sum, slops) in
        let shear_times = mul-le-mul_right (unit n) shear_wide in
        record {
          along = mixed-most (reach n a.cosine_square) (reach n a.sine_square) (reach n a.product) e m (unit n) _ fine-unit angle.squares angle.product eighth most (omega (arith, along_times, gx, gy, gg));
          across = mixed-most (reach n a.sine_square) (reach n a.cosine_square) (reach n a.product) e m (unit n) _ fine-unit (omega (arith, angle.squares)) angle.product eighth most (omega (arith, across_times, hx, hy, gg));
          shear = turned-most (reach n a.product) (reach n a.difference) e m (unit n) _ fine-unit angle.product angle.difference eighth most (omega (arith, shear_times, first, second));
        }
