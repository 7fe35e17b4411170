-- What the stresses of a face and a side hold: an eighth of the stress by the ply law, over q0.
use Rattle.std.proofs.Common.{◌≡◌, refl, sym, ◌∙◌, ap, ap₂, subst, [], ◌∷◌, ℤ, pos, neg_ℤ, ◌+ℤ◌, ◌-ℤ◌, ◌*ℤ◌, ◌<ℤ◌, arith}
use Rattle.std.proofs.lemmas.Int.{ints}
use Rattle.lam_fraction.specs.Fraction.{ℚ, whole, fraction, ◌+ℚ◌, ◌-ℚ◌, ◌*ℚ◌, ◌/ℚ◌, inverse, opposite}
use Rattle.lam_fraction.specs.numbers.Arithmetic.{exact}
use Rattle.lam_fraction.specs.numbers.Numbers.{Numbers, Lawful, Holds}
use Rattle.lam_fraction.proofs.Expression.{◌⊗◌, minus}
use Rattle.lam_fraction.proofs.Solver.{◌≐◌}
use Rattle.lam_fraction.proofs.Rationals.{quotes, by_ring, solve}
use Rattle.lam_fraction.proofs.FractionPairs.{fraction-opposite, fraction-sum_same_den}
use Rattle.lam_fraction.proofs.numbers.Held.{held, holding}
use Rattle.lam_direction.specs.Circle.{CirclePoint, IsDirection}
use Rattle.lam_direction.specs.Squares.{squares_of}
use Rattle.lam_direction.proofs.SquareBounds.{squares-within}
use Rattle.lam_number.specs.declared.strength.FaceStrain.{FaceStrain}
use Rattle.lam_stock.specs.declared.item.Lamina.{Lamina}
use Rattle.lam_stock.specs.PlyLaw as law
use Rattle.lam_stock.specs.PlyLaw.{OffAxis, OnAxis, cosine, sine, side_point, strain_on_axis, side_stress, reduced_11, reduced_12, reduced_22, reduced_66}
use Rattle.lam_stock.proofs.Angles.{cosine-mirrored, sine-mirrored}
use Rattle.lam_lamina.specs.Covered.{IsCovered}
use Rattle.lam_lamina.specs.Stiffness.{moduli_over}
use Rattle.lam_lamina.specs.inside.Formulas as lamina
use Rattle.lam_lamina.proofs.Fourths.{cosine-square, sine-square, both-product}
use Rattle.lam_lamina.proofs.ReducedKnown.{held-reduced}
use Rattle.lam_lamina.proofs.StiffnessKnown.{reach-reduced}
use Rattle.lam_tsai.specs.declared.angle.Angle.{Angle}
use Rattle.lam_tsai.specs.declared.components.Components.{Components}
use Rattle.lam_tsai.specs.declared.place.Side.{Side}
use Rattle.lam_tsai.specs.declared.place.Side.TheVariants.{Plus, Minus}
use Rattle.lam_tsai.specs.FaceStrains.{HoldsStrain, IsWithinSix}
use Rattle.lam_tsai.specs.Levels.{side_of}
use Rattle.lam_tsai.specs.inside.Formulas as by
use Rattle.lam_tsai.proofs.Reaching.{face_reach, reach-angle, part-room, product-size, difference-size}

-- each of the three holds its number
pub record HoldsComponents {A : Type 0} (n : Numbers A) (t : Components A) (u : Components ℚ) : Type 0 where
  pub along : Holds n t.along u.along
  pub across : Holds n t.across u.across
  pub shear : Holds n t.shear u.shear

-- ---- the angle of a side

abbrev pub angle_at : ℚ → ℚ → Angle ℚ
angle_at c s = record { cosine_square = c *ℚ c; sine_square = s *ℚ s; product = s *ℚ c; difference = c *ℚ c -ℚ s *ℚ s }

difference-of : (a b d : ℤ) → pos 0 <ℤ d → fraction (a -ℤ b) d ≡ fraction a d -ℚ fraction b d
unfolding ◌-ℚ◌
difference-of a b d p =
    let turned : a -ℤ b ≡ a +ℤ neg_ℤ b = omega (arith, ints) in
    ap (λ z. fraction z d) turned ∙ sym (fraction-sum_same_den a (neg_ℤ b) d p) ∙ ap (λ z. fraction a d +ℚ z) (sym (fraction-opposite b d p))

module _ {d : CirclePoint} (h : IsDirection d) where
  size-positive : pos 0 <ℤ (d.h *ℤ d.h)
  size-positive = let least = (squares-within h refl).least in omega (arith, ints, least)

  difference-is : fraction ((d.p *ℤ d.p) -ℤ (d.q *ℤ d.q)) (d.h *ℤ d.h) ≡ cosine d *ℚ cosine d -ℚ sine d *ℚ sine d
  difference-is = difference-of (d.p *ℤ d.p) (d.q *ℤ d.q) (d.h *ℤ d.h) size-positive ∙ ap₂ (λ x y. x -ℚ y) (cosine-square h) (sine-square h)

  mirrored : (c s : ℚ) → opposite s *ℚ opposite s ≡ s *ℚ s
  mirrored c s = solve 1 (λ s. minus s ⊗ minus s ≐ s ⊗ s) refl s

  pub angle-is : (side : Side) → by.angle exact side (squares_of d) ≡ angle_at (cosine (side_point (side_of side) d)) (sine (side_point (side_of side) d))
  angle-is Plus =
      let cc = cosine-square h in
      let ss = sine-square h in
      let sc = both-product h in
      let rest = difference-is in
      λ i. record { cosine_square = cc i; sine_square = ss i; product = sc i; difference = rest i }
  angle-is Minus =
      let c = cosine d in
      let s = sine d in
      let cc : fraction (d.p *ℤ d.p) (d.h *ℤ d.h) ≡ c *ℚ c = cosine-square h in
      let ss : fraction (d.q *ℤ d.q) (d.h *ℤ d.h) ≡ opposite s *ℚ opposite s = sine-square h ∙ sym (mirrored c s) in
      let sc : fraction (neg_ℤ (d.q *ℤ d.p)) (d.h *ℤ d.h) ≡ opposite s *ℚ c =
      sym (fraction-opposite (d.q *ℤ d.p) (d.h *ℤ d.h) size-positive) ∙ ap opposite (both-product h) ∙ solve 2 (λ c s. minus (s ⊗ c) ≐ minus s ⊗ c) refl c s in
      let rest : fraction ((d.p *ℤ d.p) -ℤ (d.q *ℤ d.q)) (d.h *ℤ d.h) ≡ c *ℚ c -ℚ opposite s *ℚ opposite s = difference-is ∙ ap (λ z. c *ℚ c -ℚ z) (sym (mirrored c s)) in
      let same : by.angle exact Minus (squares_of d) ≡ angle_at c (opposite s) = λ i. record { cosine_square = cc i; sine_square = ss i; product = sc i; difference = rest i } in
      same ∙ ap₂ angle_at (sym (cosine-mirrored d)) (sym (sine-mirrored d))

-- ---- the ply law

abbrev pub strain_numbers : OffAxis → FaceStrain ℚ
strain_numbers e = record { ex = e.x; ey = e.y; g = e.s }

-- an eighth over q0
abbrev pub eighth_over : ℤ → ℚ → ℚ
eighth_over q0 x = x *ℚ (inverse (whole (pos 8)) *ℚ inverse (whole q0))

abbrev pub stress_numbers : ℤ → OnAxis → Components ℚ
stress_numbers q0 t = record { along = eighth_over q0 t.along; across = eighth_over q0 t.across; shear = eighth_over q0 t.shear }

along-is : (c s x y g q r i k : ℚ)
    → (q *ℚ k) *ℚ ((c *ℚ c) *ℚ (x *ℚ i) +ℚ (s *ℚ s) *ℚ (y *ℚ i) +ℚ (s *ℚ c) *ℚ (g *ℚ i))
    +ℚ (r *ℚ k) *ℚ ((s *ℚ s) *ℚ (x *ℚ i) +ℚ (c *ℚ c) *ℚ (y *ℚ i) -ℚ (s *ℚ c) *ℚ (g *ℚ i))
    ≡ (q *ℚ ((c *ℚ c) *ℚ x +ℚ (s *ℚ s) *ℚ y +ℚ (s *ℚ c) *ℚ g) +ℚ r *ℚ ((s *ℚ s) *ℚ x +ℚ (c *ℚ c) *ℚ y -ℚ (s *ℚ c) *ℚ g)) *ℚ (i *ℚ k)
along-is c s x y g q r i k = by_ring (c ∷ s ∷ x ∷ y ∷ g ∷ q ∷ r ∷ i ∷ k ∷ []) (search quotes depth 40 fits 9000) refl

shear-is : (c s x y g q i k : ℚ)
    → (q *ℚ k) *ℚ (((s *ℚ c) *ℚ whole (pos 2)) *ℚ (y *ℚ i -ℚ x *ℚ i) +ℚ (c *ℚ c -ℚ s *ℚ s) *ℚ (g *ℚ i))
    ≡ (q *ℚ (whole (pos 2) *ℚ (s *ℚ c) *ℚ y -ℚ whole (pos 2) *ℚ (s *ℚ c) *ℚ x +ℚ (c *ℚ c -ℚ s *ℚ s) *ℚ g)) *ℚ (i *ℚ k)
shear-is c s x y g q i k = by_ring (c ∷ s ∷ x ∷ y ∷ g ∷ q ∷ i ∷ k ∷ []) (search quotes depth 40 fits 9000) refl

pub stress-is : (q0 : ℤ) (l : Lamina) (d : CirclePoint) (side : law.Side) (e : OffAxis)
    → by.stress exact (moduli_over q0 l) (by.strain exact (angle_at (cosine (side_point side d)) (sine (side_point side d))) (strain_numbers e)) ≡ stress_numbers q0 (side_stress l d side e)
unfolding moduli_over ◌/ℚ◌
stress-is q0 l d side e =
    let c = cosine (side_point side d) in
    let s = sine (side_point side d) in
    let i8 = inverse (whole (pos 8)) in
    let k = inverse (whole q0) in
    let along = along-is c s e.x e.y e.s (reduced_11 l) (reduced_12 l) i8 k in
    let across = along-is c s e.x e.y e.s (reduced_12 l) (reduced_22 l) i8 k in
    let shear = shear-is c s e.x e.y e.s (reduced_66 l) i8 k in
    λ i. record { along = along i; across = across i; shear = shear i }

-- ---- what is held

pub record HoldsAngle {A : Type 0} (n : Numbers A) (a : Angle A) (b : Angle ℚ) : Type 0 where
  pub cosine_square : Holds n a.cosine_square b.cosine_square
  pub sine_square : Holds n a.sine_square b.sine_square
  pub product : Holds n a.product b.product
  pub difference : Holds n a.difference b.difference

module _ {A : Type 0} {n : Numbers A} (laws : Lawful n) where
  angle-held : {d : CirclePoint} → IsDirection d → (side : Side) → HoldsAngle n (by.angle n.calc side (squares_of d)) (by.angle exact side (squares_of d))
  angle-held {d} h side =
      let t = squares-within h refl in
      record {
        cosine_square = (laws.ratio _ _ (part-room h (d.p *ℤ d.p) t.cosine_square)).held;
        sine_square = (laws.ratio _ _ (part-room h (d.q *ℤ d.q) t.sine_square)).held;
        product = (laws.ratio _ _ (part-room h _ (product-size h side))).held;
        difference = (laws.ratio _ _ (part-room h _ (difference-size h))).held;
      }

  pub stress-held : {q0 : ℤ} {l : Lamina} {d : CirclePoint} → IsCovered q0 l → IsDirection d → (side : Side) {at : FaceStrain A} {e : OffAxis} → IsWithinSix n at → HoldsStrain n at e
      → HoldsComponents n (by.stress n.calc (lamina.reduced n.calc q0 l) (by.strain n.calc (by.angle n.calc side (squares_of d)) at)) (stress_numbers q0 (side_stress l d (side_of side) e))
  stress-held {q0} {l} {d} covered h side {at} {e} six k =
      let r = reach-reduced laws covered in
      let m = held-reduced covered laws in
      let a = reach-angle h laws side in
      let b = subst (HoldsAngle n (by.angle n.calc side (squares_of d))) (angle-is h side) (angle-held h side) in
      let f = face_reach six in
      let t = by.stress (held laws) (record { q11 = holding r.q11 m.q11; q12 = holding r.q12 m.q12; q22 = holding r.q22 m.q22; q66 = holding r.q66 m.q66 })
      (by.strain (held laws)
      (record { cosine_square = holding a.cosine_square b.cosine_square; sine_square = holding a.sine_square b.sine_square; product = holding a.product b.product; difference = holding a.difference b.difference })
      (record { ex = holding f.x k.x; ey = holding f.y k.y; g = holding f.s k.s })) in
      subst (HoldsComponents n (by.stress n.calc (lamina.reduced n.calc q0 l) (by.strain n.calc (by.angle n.calc side (squares_of d)) at))) (stress-is q0 l d (side_of side) e)
      (record { along = t.along.holds refl; across = t.across.holds refl; shear = t.shear.holds refl })
