-- How far the strains at a face, the angle of a side and the coefficients of a lamina reach.
use Rattle.std.proofs.Common.{◌≡◌, refl, ◌+◌, ◌*◌, ◌^◌, ◌≤◌, ℤ, pos, negsuc, ◌-ℤ◌, ◌*ℤ◌, ◌≤ℤ◌, arith}
use Rattle.std.specs.Prelude.{unsigned_abs}
use Rattle.std.specs.Int.{int_min, int_max}
use Rattle.std.proofs.lemmas.Int.{ints, clamps}
use Rattle.lam_fraction.specs.numbers.Numbers.{Numbers, Lawful, RatioRoom}
use Rattle.lam_fraction.specs.inside.Reaches.{Reaches, sixteenths}
use Rattle.lam_fraction.proofs.Integers as Z
use Rattle.lam_fraction.proofs.numbers.Rooms.{reaches_ratio_at, reaches_more, ranges, reaching}
use Rattle.lam_direction.specs.Circle.{CirclePoint, IsDirection}
use Rattle.lam_direction.specs.Squares.{squares_of}
use Rattle.lam_direction.proofs.SquareBounds.{squares-within}
use Rattle.lam_number.specs.declared.strength.FaceStrain.{FaceStrain}
use Rattle.lam_stock.specs.declared.item.Lamina.{Lamina}
use Rattle.lam_stock.specs.Limits.{IsStrength, AreWithinSixteen, KeepsStrengths}
use Rattle.lam_stock.proofs.StrengthBounds.{interaction_small}
use Rattle.lam_tsai.specs.declared.place.Side.{Side}
use Rattle.lam_tsai.specs.declared.place.Side.TheVariants.{Plus, Minus}
use Rattle.lam_tsai.specs.FaceStrains.{IsWithinSix}
use Rattle.lam_tsai.specs.inside.Formulas as by
use Rattle.lam_lamina.specs.declared.stiffness.Reduced.{Reduced}
use Rattle.lam_lamina.specs.inside.Known.{ReachModuli}
use Rattle.lam_tsai.specs.declared.angle.Angle.{Angle}
use Rattle.lam_tsai.specs.inside.Reach.{ReachAngle, ReachCoefficients, ReachStress}
use Rattle.lam_tsai.proofs.Computed.{linear_room, quadratic_room, mixed_room}

-- ---- the strains at a face

pub record ReachFace {A : Type 0} (n : Numbers A) (at : FaceStrain A) : Type 0 where
  pub x : Reaches n (sixteenths 96) at.ex
  pub y : Reaches n (sixteenths 96) at.ey
  pub s : Reaches n (sixteenths 96) at.g

pub face_reach : {A : Type 0} {n : Numbers A} {at : FaceStrain A} → IsWithinSix n at → ReachFace n at
face_reach h = record { x = record { far = omega (arith, h.x) }; y = record { far = omega (arith, h.y) }; s = record { far = omega (arith, h.s) } }

-- ---- the angle of a side

pub signed-size : (side : Side) (z : ℤ) → unsigned_abs (by.signed side z) ≡ unsigned_abs z
signed-size Plus z = refl
signed-size Minus (pos n) = omega (arith, ints)
signed-size Minus (negsuc n) = refl

-- two numbers of at least 0 differ by no more than their sum
between-size : (a b size : ℤ) → pos 0 ≤ℤ a → pos 0 ≤ℤ b → unsigned_abs a ≤ unsigned_abs size → unsigned_abs b ≤ unsigned_abs size → unsigned_abs (a -ℤ b) ≤ unsigned_abs size
between-size a b size p q h k = omega (arith, ints, p, q, h, k)

module _ {d : CirclePoint} (h : IsDirection d) where
  pub difference-size : unsigned_abs ((d.p *ℤ d.p) -ℤ (d.q *ℤ d.q)) ≤ unsigned_abs (d.h *ℤ d.h)
  difference-size = let t = squares-within h refl in between-size (d.p *ℤ d.p) (d.q *ℤ d.q) (d.h *ℤ d.h) (Z.square d.p) (Z.square d.q) t.cosine_square t.sine_square

  pub product-size : (side : Side) → unsigned_abs (by.signed side (d.q *ℤ d.p)) ≤ unsigned_abs (d.h *ℤ d.h)
  product-size side = let t = squares-within h refl in omega (arith, signed-size side (d.q *ℤ d.p), t.product)

  pub part-room : (num : ℤ) → unsigned_abs num ≤ unsigned_abs (d.h *ℤ d.h) → RatioRoom num (d.h *ℤ d.h)
  part-room num small =
      let t = squares-within h refl in
      record {
        positive = omega (arith, ints, t.least);
        den = omega (arith, ints, t.least, t.greatest);
        num = omega (arith, ints, t.least, t.greatest, small);
        room = omega (arith, small);
      }

  module _ {A : Type 0} {n : Numbers A} (laws : Lawful n) where
    part-reach : (num : ℤ) → unsigned_abs num ≤ unsigned_abs (d.h *ℤ d.h) → Reaches n (sixteenths 16 + 4) (n.calc.ratio num (d.h *ℤ d.h))
    part-reach num small = reaches_ratio_at laws (sixteenths 16) num (d.h *ℤ d.h) (part-room num small) (omega (arith, small))

    pub reach-angle : (side : Side) → ReachAngle n (by.angle n.calc side (squares_of d))
    reach-angle side =
        let t = squares-within h refl in
        record {
          cosine_square = part-reach _ t.cosine_square;
          sine_square = part-reach _ t.sine_square;
          product = part-reach _ (product-size side);
          difference = part-reach _ difference-size;
        }

-- ---- the coefficients of a lamina

linear-size : {t c : ℤ} → IsStrength t → IsStrength c → AreWithinSixteen t c → unsigned_abs (c -ℤ t) * 2 ^ 28 ≤ sixteenths 1 * unsigned_abs (pos 256 *ℤ int_min t c)
linear-size p q near = omega (arith, ints, clamps, p.least, q.least, near.first, near.second)

quadratic-size : {t c : ℤ} → IsStrength t → IsStrength c → AreWithinSixteen t c → unsigned_abs (int_max t c) * 2 ^ 28 ≤ sixteenths 16 * unsigned_abs (pos 16 *ℤ int_min t c)
quadratic-size p q near = omega (arith, ints, clamps, p.least, q.least, near.first, near.second)

mixed-size : (z : ℤ) → unsigned_abs z ≤ 14000000000000000000 → unsigned_abs z * 2 ^ 28 ≤ sixteenths 28 * unsigned_abs (pos 8000000000000000000)
mixed-size z h = omega (arith, ints, h)

module _ {A : Type 0} {n : Numbers A} (laws : Lawful n) where
  linear-reach : {t c : ℤ} → IsStrength t → IsStrength c → AreWithinSixteen t c → Reaches n (sixteenths 1 + 4) (by.linear n.calc t c)
  linear-reach p q near = reaches_ratio_at laws (sixteenths 1) _ _ (linear_room p q near) (linear-size p q near)

  quadratic-reach : {t c : ℤ} → IsStrength t → IsStrength c → AreWithinSixteen t c → Reaches n (sixteenths 16 + 4) (by.quadratic n.calc t c)
  quadratic-reach p q near = reaches_ratio_at laws (sixteenths 16) _ _ (quadratic_room p q near) (quadratic-size p q near)

  pub reach-coefficients : {l : Lamina} → KeepsStrengths l → ReachCoefficients n (by.coefficients n.calc l)
  reach-coefficients {l} h = record {
    along = linear-reach h.range.xt h.range.xc h.ratio.along;
    across = linear-reach h.range.yt h.range.yc h.ratio.across;
    along_square = quadratic-reach h.range.xt h.range.xc h.ratio.along;
    across_square = quadratic-reach h.range.yt h.range.yc h.ratio.across;
    mixed = reaches_ratio_at laws (sixteenths 28) (by.interaction l) _ (mixed_room h) (mixed-size (by.interaction l) (interaction_small h));
    one = reaches_ratio_at laws (2 ^ 16) (pos 1) (pos 4096) (record { positive = omega (arith, ints); den = omega (arith, ints); num = omega (arith, ints); room = omega (arith, ints) }) (omega (arith, ints));
  }

  -- ---- the stresses of a side

  pub reach-stress : {r : Reduced A} {a : Angle A} {at : FaceStrain A} → ReachModuli n r → ReachAngle n a → IsWithinSix n at → ReachStress n (by.stress n.calc r (by.strain n.calc a at))
  reach-stress reduced angle six =
      let f = face_reach six in
      let t = by.stress (ranges laws) (record { q11 = reaching reduced.q11; q12 = reaching reduced.q12; q22 = reaching reduced.q22; q66 = reaching reduced.q66 })
      (by.strain (ranges laws)
      (record { cosine_square = reaching angle.cosine_square; sine_square = reaching angle.sine_square; product = reaching angle.product; difference = reaching angle.difference })
      (record { ex = reaching f.x; ey = reaching f.y; g = reaching f.s })) in
      record {
        along = reaches_more laws (t.along.reaches refl) (omega arith);
        across = reaches_more laws (t.across.reaches refl) (omega arith);
        shear = reaches_more laws (t.shear.reaches refl) (omega arith);
      }
