-- How wide the stresses of a face are in the axes of a ply, by how wide the strains of the wall are.
use Rattle.std.proofs.Common.{◌≡◌, refl, subst, ℕ, ◌+◌, ◌*◌, ◌^◌, ◌≤◌, ℤ, pos, ◌+ℤ◌, ◌-ℤ◌, ◌*ℤ◌, ◌≤ℤ◌, ◌<ℤ◌, unsigned_abs, arith}
use Rattle.std.proofs.Math.Nat.{mul-le-mul_right, le_of_mul-le-mul_right}
use Rattle.std.proofs.lemmas.Int.{ints, clamps, unsigned_abs-mul}
use Rattle.lam_fraction.specs.inside.Reaches.{Reaches, sixteenths}
use Rattle.lam_fraction.specs.numbers.Numbers.{Numbers, Lawful, reach, unit, width}
use Rattle.lam_fraction.proofs.Expression.{int, ◌⊕◌, ◌⊖◌, ◌⊗◌}
use Rattle.lam_fraction.proofs.Integers as Z
use Rattle.lam_fraction.proofs.Solver.{◌≐◌}
use Rattle.lam_fraction.proofs.numbers.Rooms.{sum_within, ranges, reaching, reaches_product, reaches_more}
use Rattle.lam_stock.specs.declared.item.Lamina.{Lamina}
use Rattle.lam_stock.specs.Moduli.{stiffness_cap}
use Rattle.lam_stock.specs.PlyLaw.{poisson_rest}
use Rattle.lam_number.specs.declared.strength.FaceStrain.{FaceStrain}
use Rattle.lam_lamina.specs.Covered.{IsCovered}
use Rattle.lam_lamina.specs.declared.stiffness.Reduced.{Reduced}
use Rattle.lam_lamina.specs.inside.Formulas as lamina
use Rattle.lam_lamina.specs.inside.Known.{ReachModuli}
use Rattle.lam_lamina.proofs.ReducedKnown.{denominator_positive, denominator-size, q11-room, q12-room, q22-room, q66-room, ratio-is, rest-least}
use Rattle.lam_lamina.proofs.StiffnessKnown.{reach-reduced}
use Rattle.lam_tsai.specs.declared.angle.Angle.{Angle}
use Rattle.lam_tsai.specs.declared.components.Components.{Components}
use Rattle.lam_tsai.specs.FaceStrains.{IsWithinSix}
use Rattle.lam_tsai.specs.inside.Formulas as by
use Rattle.lam_tsai.specs.inside.Reach.{ReachAngle, ReachStrain}
use Rattle.lam_tsai.proofs.Reaching.{face_reach}
use Rattle.lam_narrow.specs.Straddling.{AreWithin}
use Rattle.lam_narrow.proofs.ThinStrains.{ThinAngle, ThinStrain, fine-unit, thin-product, thin-strain}

-- ---- the moduli: what both strains give a normal stress

-- of the moduli e and f, and of Poisson's ratio n in thousandths
along-sum : (e f n : ℤ) → pos 0 ≤ℤ e → pos 0 ≤ℤ f → n ≤ℤ pos 1000 → (pos 2 *ℤ (n *ℤ n) *ℤ f) ≤ℤ (pos 1000000 *ℤ e)
    → (pos 4 *ℤ (pos 1000000 *ℤ (e *ℤ e) +ℤ pos 1000 *ℤ (n *ℤ (e *ℤ f)))) ≤ℤ (pos 9 *ℤ ((e +ℤ f) *ℤ (pos 1000000 *ℤ e -ℤ (n *ℤ n) *ℤ f)))
along-sum e f n ee ff small left =
    Z.at_most_over {k = pos 2} (Z.positive_number 1)
    (Z.◌+ₙ◌ (Z.◌*ₙ◌ (Z.number 9) (Z.◌*ₙ◌ (Z.◌+ₙ◌ ee ff) (Z.above left)))
    (Z.◌*ₙ◌ ee (Z.◌+ₙ◌ (Z.◌*ₙ◌ (Z.number 1000000) ee) (Z.◌*ₙ◌ ff (Z.◌+ₙ◌ (Z.◌*ₙ◌ (Z.number 8000) (Z.above small)) (Z.number 1000000))))))
    (Z.solve 3 (λ e f n.
    let m = int (pos 1000000) in
    int (pos 2) ⊗ (int (pos 9) ⊗ ((e ⊕ f) ⊗ (m ⊗ e ⊖ (n ⊗ n) ⊗ f)) ⊖ int (pos 4) ⊗ (m ⊗ (e ⊗ e) ⊕ int (pos 1000) ⊗ (n ⊗ (e ⊗ f))))
    ≐ int (pos 9) ⊗ ((e ⊕ f) ⊗ (m ⊗ e ⊖ int (pos 2) ⊗ (n ⊗ n) ⊗ f)) ⊕ e ⊗ (m ⊗ e ⊕ f ⊗ (int (pos 8000) ⊗ (int (pos 1000) ⊖ n) ⊕ m))) refl e f n)

across-sum : (e f n : ℤ) → pos 0 ≤ℤ e → pos 0 ≤ℤ f → (pos 2 *ℤ (n *ℤ n) *ℤ f) ≤ℤ (pos 1000000 *ℤ e)
    → (pos 4 *ℤ (pos 1000 *ℤ (n *ℤ (e *ℤ f)) +ℤ pos 1000000 *ℤ (e *ℤ f))) ≤ℤ (pos 9 *ℤ ((e +ℤ f) *ℤ (pos 1000000 *ℤ e -ℤ (n *ℤ n) *ℤ f)))
across-sum e f n ee ff left =
    Z.at_most_over {k = pos 18} (Z.positive_number 17)
    (Z.◌+ₙ◌ (Z.◌*ₙ◌ (Z.number 81) (Z.◌*ₙ◌ (Z.◌+ₙ◌ (Z.◌+ₙ◌ ee ff) ee) (Z.above left)))
    (Z.◌*ₙ◌ (Z.◌*ₙ◌ ee ff) (Z.◌+ₙ◌ (Z.◌*ₙ◌ (Z.number 2) (Z.square (pos 9 *ℤ n -ℤ pos 2000))) (Z.number 1000000))))
    (Z.solve 3 (λ e f n.
    let m = int (pos 1000000) in
    int (pos 18) ⊗ (int (pos 9) ⊗ ((e ⊕ f) ⊗ (m ⊗ e ⊖ (n ⊗ n) ⊗ f)) ⊖ int (pos 4) ⊗ (int (pos 1000) ⊗ (n ⊗ (e ⊗ f)) ⊕ m ⊗ (e ⊗ f)))
    ≐ int (pos 81) ⊗ (((e ⊕ f) ⊕ e) ⊗ (m ⊗ e ⊖ int (pos 2) ⊗ (n ⊗ n) ⊗ f)) ⊕ (e ⊗ f) ⊗ (int (pos 2) ⊗ ((int (pos 9) ⊗ n ⊖ int (pos 2000)) ⊗ (int (pos 9) ⊗ n ⊖ int (pos 2000))) ⊕ m)) refl e f n)

-- of a sum of two numerators, over a denominator and q0
capped : (s k l cap rest : ℤ) → (pos 4 *ℤ (k +ℤ l)) ≤ℤ (pos 9 *ℤ (s *ℤ rest)) → (pos 2 *ℤ s) ≤ℤ cap → pos 0 ≤ℤ rest → pos 0 ≤ℤ cap → pos 0 ≤ℤ k → pos 0 ≤ℤ l
    → 8 * (unsigned_abs k + unsigned_abs l) ≤ 9 * (unsigned_abs cap * unsigned_abs rest)
capped s k l cap rest h bound rr cc kk ll =
    let room : (pos 2 *ℤ (s *ℤ rest)) ≤ℤ (cap *ℤ rest) = Z.at_most (Z.◌*ₙ◌ (Z.above bound) rr) (Z.solve 3 (λ s c r. c ⊗ r ⊖ int (pos 2) ⊗ (s ⊗ r) ≐ (c ⊖ int (pos 2) ⊗ s) ⊗ r) refl s cap rest) in
    let product = Z.◌*ₙ◌ cc rr in
    omega (arith, ints, h, room, product, kk, ll, unsigned_abs-mul cap rest)

-- of two ratios over the product of a rest and q0
ratios-sum : (r s k l c rest q u : ℕ) → 1 ≤ rest → r * (rest * q) ≤ k * u + 2 * (rest * q) → s * (rest * q) ≤ l * u + 2 * (rest * q) → 8 * (k + l) ≤ 9 * (c * rest)
    → 8 * (q * (r + s)) ≤ 9 * (c * u) + 32 * q
ratios-sum r s k l c rest q u some h g most =
    let times : (8 * (k + l)) * u ≤ (9 * (c * rest)) * u = mul-le-mul_right u most in
    le_of_mul-le-mul_right {k = rest} (omega (arith, h, g, times)) (omega (arith, some))

module _ {A : Type 0} {n : Numbers A} (laws : Lawful n) (slops : n.slop ≤ 2) where
  -- what the moduli of a lamina over q0 reach, beside its cap
  pub record ThinModuli (cap q : ℕ) (r : Reduced A) : Type 0 where
    pub reaches : ReachModuli n r
    pub along : 8 * (q * (reach n r.q11 + reach n r.q12)) ≤ 9 * (cap * unit n) + 32 * q
    pub across : 8 * (q * (reach n r.q12 + reach n r.q22)) ≤ 9 * (cap * unit n) + 32 * q
    pub shear : 2 * (q * reach n r.q66) ≤ cap * unit n + 4 * q
    pub q11_wide : width n r.q11 ≤ 2
    pub q12_wide : width n r.q12 ≤ 2
    pub q22_wide : width n r.q22 ≤ 2
    pub q66_wide : width n r.q66 ≤ 2

  module _ {q0 : ℤ} {l : Lamina} (h : IsCovered q0 l) where
    abbrev rest : ℤ
    rest = poisson_rest l

    abbrev size : ℕ
    size = unsigned_abs rest * unsigned_abs q0

    size-is : unsigned_abs (rest *ℤ q0) ≡ size
    size-is = unsigned_abs-mul rest q0

    over-far : (k : ℤ) → unsigned_abs k ≤ unsigned_abs (rest *ℤ q0) → reach n (n.calc.ratio k (rest *ℤ q0)) * size ≤ unsigned_abs k * unit n + 2 * size
    over-far k small =
        let is = ratio-is laws k (rest *ℤ q0) (denominator_positive h) (omega (arith, denominator-size h)) small in
        let two : n.slop * unsigned_abs (rest *ℤ q0) ≤ 2 * unsigned_abs (rest *ℤ q0) = mul-le-mul_right (unsigned_abs (rest *ℤ q0)) slops in
        let all : reach n (n.calc.ratio k (rest *ℤ q0)) * unsigned_abs (rest *ℤ q0) ≤ unsigned_abs k * unit n + 2 * unsigned_abs (rest *ℤ q0) = omega (arith, is.far, two) in
        subst (λ d. reach n (n.calc.ratio k (rest *ℤ q0)) * d ≤ unsigned_abs k * unit n + 2 * d) size-is all

    over-wide : (k : ℤ) → unsigned_abs k ≤ unsigned_abs (rest *ℤ q0) → width n (n.calc.ratio k (rest *ℤ q0)) ≤ 2
    over-wide k small = omega (arith, (ratio-is laws k (rest *ℤ q0) (denominator_positive h) (omega (arith, denominator-size h)) small).narrow, slops)

    abbrev k11 : ℤ
    k11 = pos 1000000 *ℤ (l.e1 *ℤ l.e1)

    abbrev k12 : ℤ
    k12 = pos 1000 *ℤ (l.n12 *ℤ (l.e1 *ℤ l.e2))

    abbrev k22 : ℤ
    k22 = pos 1000000 *ℤ (l.e1 *ℤ l.e2)

    abbrev cap : ℤ
    cap = stiffness_cap l

    e1-least : pos 0 ≤ℤ l.e1
    e1-least = omega (arith, ints, h.range.least_e1)

    e2-least : pos 0 ≤ℤ l.e2
    e2-least = omega (arith, ints, h.range.least_e2)

    n12-least : pos 0 ≤ℤ l.n12
    n12-least = omega (arith, ints, h.range.least_n12)

    n12-most : l.n12 ≤ℤ pos 1000
    n12-most = omega (arith, ints, h.range.greatest_n12)

    rest-some : 1 ≤ unsigned_abs rest
    rest-some = omega (arith, ints, rest-least h.range h.poisson)

    rest-positive : pos 0 ≤ℤ rest
    rest-positive = omega (arith, ints, rest-least h.range h.poisson)

    cap-least : pos 0 ≤ℤ cap
    cap-least = omega (arith, ints, clamps, h.range.least_g12)

    k11-least : pos 0 ≤ℤ k11
    k11-least = Z.◌*ₙ◌ (Z.number 1000000) (Z.square l.e1)

    k12-least : pos 0 ≤ℤ k12
    k12-least = Z.◌*ₙ◌ (Z.number 1000) (Z.◌*ₙ◌ n12-least (Z.◌*ₙ◌ e1-least e2-least))

    k22-least : pos 0 ≤ℤ k22
    k22-least = Z.◌*ₙ◌ (Z.number 1000000) (Z.◌*ₙ◌ e1-least e2-least)

    along-capped : 8 * (unsigned_abs k11 + unsigned_abs k12) ≤ 9 * (unsigned_abs cap * unsigned_abs rest)
    along-capped = capped (l.e1 +ℤ l.e2) k11 k12 cap rest (along-sum l.e1 l.e2 l.n12 e1-least e2-least n12-most h.poisson.kept) (omega (arith, ints, clamps)) rest-positive cap-least k11-least k12-least

    across-capped : 8 * (unsigned_abs k12 + unsigned_abs k22) ≤ 9 * (unsigned_abs cap * unsigned_abs rest)
    across-capped = capped (l.e1 +ℤ l.e2) k12 k22 cap rest (across-sum l.e1 l.e2 l.n12 e1-least e2-least h.poisson.kept) (omega (arith, ints, clamps)) rest-positive cap-least k12-least k22-least

    shear-far : 2 * (unsigned_abs q0 * reach n (n.calc.ratio l.g12 q0)) ≤ unsigned_abs cap * unit n + 4 * unsigned_abs q0
    shear-far =
        let is = ratio-is laws l.g12 q0 (omega (arith, ints, h.covered, cap-positive)) (omega (arith, ints, h.greatest, h.covered, cap-positive)) (q66-room h) in
        let two : n.slop * unsigned_abs q0 ≤ 2 * unsigned_abs q0 = mul-le-mul_right (unsigned_abs q0) slops in
        let bound : 2 * unsigned_abs l.g12 ≤ unsigned_abs cap = omega (arith, ints, clamps, h.range.least_g12) in
        let times : (2 * unsigned_abs l.g12) * unit n ≤ unsigned_abs cap * unit n = mul-le-mul_right (unit n) bound in
        omega (arith, is.far, two, times)
      where
        cap-positive : pos 0 <ℤ cap
        cap-positive = omega (arith, ints, clamps, h.range.least_g12)

    shear-wide : width n (n.calc.ratio l.g12 q0) ≤ 2
    shear-wide =
        let positive : pos 0 <ℤ cap = omega (arith, ints, clamps, h.range.least_g12) in
        omega (arith, (ratio-is laws l.g12 q0 (omega (arith, ints, h.covered, positive)) (omega (arith, ints, h.greatest, h.covered, positive)) (q66-room h)).narrow, slops)

    pub thin-moduli : ThinModuli (unsigned_abs cap) (unsigned_abs q0) (lamina.reduced n.calc q0 l)
    thin-moduli = record {
      reaches = reach-reduced laws h;
      along = ratios-sum (reach n (n.calc.ratio k11 (rest *ℤ q0))) (reach n (n.calc.ratio k12 (rest *ℤ q0))) (unsigned_abs k11) (unsigned_abs k12) (unsigned_abs cap) (unsigned_abs rest) (unsigned_abs q0) (unit n)
          rest-some (over-far k11 (q11-room h)) (over-far k12 (q12-room h)) along-capped;
      across = ratios-sum (reach n (n.calc.ratio k12 (rest *ℤ q0))) (reach n (n.calc.ratio k22 (rest *ℤ q0))) (unsigned_abs k12) (unsigned_abs k22) (unsigned_abs cap) (unsigned_abs rest) (unsigned_abs q0) (unit n)
          rest-some (over-far k12 (q12-room h)) (over-far k22 (q22-room h)) across-capped;
      shear = shear-far;
      q11_wide = over-wide k11 (q11-room h);
      q12_wide = over-wide k12 (q12-room h);
      q22_wide = over-wide k22 (q22-room h);
      q66_wide = shear-wide;
    }

    pub cap-small : unsigned_abs cap ≤ unsigned_abs q0
    cap-small = omega (arith, ints, cap-least, h.covered)

  -- ---- an eighth of a stress, over q0

  normal-most : (r s x y m c q u w : ℕ) → 2 ^ 28 ≤ u → 8 * (q * (r + s)) ≤ 9 * (c * u) + 32 * q → 16 * x ≤ 3 * m + 449 → 16 * y ≤ 3 * m + 449 → m ≤ 12 * u → c ≤ q
      → w * u ≤ (r * x + (3 * u) * 2 + 2 * u) + (s * y + (3 * u) * 2 + 2 * u) + 2 * u → 128 * (q * w) ≤ 27 * (c * m) + 7500 * q
  normal-most r s x y m c q u w fine moduli hx hy most cq h =
      let scaled : (w * u) * (128 * q) ≤ ((r * x + (3 * u) * 2 + 2 * u) + (s * y + (3 * u) * 2 + 2 * u) + 2 * u) * (128 * q) = mul-le-mul_right (128 * q) h in
      let first : (16 * x) * (8 * (q * r)) ≤ (3 * m + 449) * (8 * (q * r)) = mul-le-mul_right (8 * (q * r)) hx in
      let second : (16 * y) * (8 * (q * s)) ≤ (3 * m + 449) * (8 * (q * s)) = mul-le-mul_right (8 * (q * s)) hy in
      let both : (8 * (q * (r + s))) * (3 * m + 449) ≤ (9 * (c * u) + 32 * q) * (3 * m + 449) = mul-le-mul_right (3 * m + 449) moduli in
      let caps : c * u ≤ q * u = mul-le-mul_right u cq in
      let mosts : m * q ≤ (12 * u) * q = mul-le-mul_right q most in
      let few : (2 ^ 28) * q ≤ u * q = mul-le-mul_right q fine in
      le_of_mul-le-mul_right {k = u} (omega (arith, scaled, first, second, both, caps, mosts, few)) (omega (arith, fine))

  turned-most : (r x m c q u w : ℕ) → 2 ^ 28 ≤ u → 2 * (q * r) ≤ c * u + 4 * q → 8 * x ≤ 3 * m + 449 → m ≤ 12 * u → c ≤ q
      → w * u ≤ r * x + (4 * u) * 2 + 2 * u → 128 * (q * w) ≤ 27 * (c * m) + 7500 * q
  turned-most r x m c q u w fine moduli hx most cq h =
      let scaled : (w * u) * (128 * q) ≤ (r * x + (4 * u) * 2 + 2 * u) * (128 * q) = mul-le-mul_right (128 * q) h in
      let first : (8 * x) * (16 * (q * r)) ≤ (3 * m + 449) * (16 * (q * r)) = mul-le-mul_right (16 * (q * r)) hx in
      let both : (2 * (q * r)) * (8 * (3 * m + 449)) ≤ (c * u + 4 * q) * (8 * (3 * m + 449)) = mul-le-mul_right (8 * (3 * m + 449)) moduli in
      let caps : c * u ≤ q * u = mul-le-mul_right u cq in
      let mosts : m * q ≤ (12 * u) * q = mul-le-mul_right q most in
      let few : (2 ^ 28) * q ≤ u * q = mul-le-mul_right q fine in
      le_of_mul-le-mul_right {k = u} (omega (arith, scaled, first, both, caps, mosts, few)) (omega (arith, fine))

  pub record ThinStress (m cap q : ℕ) (t : Components A) : Type 0 where
    pub along : 128 * (q * width n t.along) ≤ 27 * (cap * m) + 7500 * q
    pub across : 128 * (q * width n t.across) ≤ 27 * (cap * m) + 7500 * q
    pub shear : 128 * (q * width n t.shear) ≤ 27 * (cap * m) + 7500 * q

  pub reach-strain : {a : Angle A} {at : FaceStrain A} → ReachAngle n a → IsWithinSix n at → ReachStrain n (by.strain n.calc a at)
  reach-strain angle six =
      let f = face_reach six in
      let t = by.strain (ranges laws)
      (record { cosine_square = reaching angle.cosine_square; sine_square = reaching angle.sine_square; product = reaching angle.product; difference = reaching angle.difference })
      (record { ex = reaching f.x; ey = reaching f.y; g = reaching f.s }) in
      record {
        along = reaches_more laws (t.along.reaches refl) (omega arith);
        across = reaches_more laws (t.across.reaches refl) (omega arith);
        shear = reaches_more laws (t.shear.reaches refl) (omega arith);
      }

  module _ {cap q : ℕ} {r : Reduced A} (moduli : ThinModuli cap q r) (cq : cap ≤ q) {a : Angle A} (angle : ThinAngle laws slops a) {at : FaceStrain A} (six : IsWithinSix n at)
      {m : ℕ} (narrow : AreWithin m n at) (most : m ≤ 12 * unit n) where
    abbrev e : Components A
    e = by.strain n.calc a at

    thin : ThinStrain laws slops m e
    thin = thin-strain laws slops angle six narrow most

    far : ReachStrain n e
    far = reach-strain angle.reaches six

    three : (z : A) → Reaches n (sixteenths 36 + 64) z → reach n z ≤ 3 * unit n
    three z h = omega (arith, h.far)

    four : (z : A) → Reaches n (sixteenths 60 + 128) z → reach n z ≤ 4 * unit n
    four z h = omega (arith, h.far)

    pub thin-stress : ThinStress m cap q (by.stress n.calc r e)
    thin-stress =
        let g = moduli.reaches in
        let fine = fine-unit laws slops in
        let a1 = thin-product laws slops (reach n r.q11) 2 (3 * unit n) (width n e.along) g.q11 far.along (omega arith) (omega arith) moduli.q11_wide (three e.along far.along) (omega arith) in
        let a2 = thin-product laws slops (reach n r.q12) 2 (3 * unit n) (width n e.across) g.q12 far.across (omega arith) (omega arith) moduli.q12_wide (three e.across far.across) (omega arith) in
        let b1 = thin-product laws slops (reach n r.q12) 2 (3 * unit n) (width n e.along) g.q12 far.along (omega arith) (omega arith) moduli.q12_wide (three e.along far.along) (omega arith) in
        let b2 = thin-product laws slops (reach n r.q22) 2 (3 * unit n) (width n e.across) g.q22 far.across (omega arith) (omega arith) moduli.q22_wide (three e.across far.across) (omega arith) in
        let c1 = thin-product laws slops (reach n r.q66) 2 (4 * unit n) (width n e.shear) g.q66 far.shear (omega arith) (omega arith) moduli.q66_wide (four e.shear far.shear) (omega arith) in
        let along = (laws.sum _ _ (sum_within laws (reaches_product laws g.q11 far.along (omega arith)) (reaches_product laws g.q12 far.across (omega arith)) (omega arith))).narrow in
        let across = (laws.sum _ _ (sum_within laws (reaches_product laws g.q12 far.along (omega arith)) (reaches_product laws g.q22 far.across (omega arith)) (omega arith))).narrow in
        let along_wide : width n (by.normal n.calc r.q11 e.along r.q12 e.across) ≤ width n (n.calc.product r.q11 e.along) + width n (n.calc.product r.q12 e.across) + 2 = omega (arith, along, slops) in
        let across_wide : width n (by.normal n.calc r.q12 e.along r.q22 e.across) ≤ width n (n.calc.product r.q12 e.along) + width n (n.calc.product r.q22 e.across) + 2 = omega (arith, across, slops) in
        let along_times = mul-le-mul_right (unit n) along_wide in
        let across_times = mul-le-mul_right (unit n) across_wide in
        record {
          along = normal-most (reach n r.q11) (reach n r.q12) (width n e.along) (width n e.across) m cap q (unit n) _ fine moduli.along thin.along thin.across most cq (omega (arith, along_times, a1, a2));
          across = normal-most (reach n r.q12) (reach n r.q22) (width n e.along) (width n e.across) m cap q (unit n) _ fine moduli.across thin.along thin.across most cq (omega (arith, across_times, b1, b2));
          shear = turned-most (reach n r.q66) (width n e.shear) m cap q (unit n) _ fine moduli.shear thin.shear most cq (omega (arith, c1));
        }
