-- How wide the strains at a face are.
use Rattle.std.proofs.Common.{ℕ, ◌+◌, ◌*◌, ◌^◌, ◌≤◌, ℤ, pos, neg_ℤ, ◌≤ℤ◌, unsigned_abs, arith}
use Rattle.std.proofs.Math.Nat.{mul-le-mul_left, mul-le-mul_right, le_of_mul-le-mul_right}
use Rattle.std.proofs.lemmas.Int.{ints}
use Rattle.lam_fraction.specs.numbers.Ends as ends
use Rattle.lam_fraction.specs.numbers.Numbers.{Numbers, Lawful, RatioRoom, reach, unit, width}
use Rattle.lam_fraction.proofs.numbers.Steps.{one_unit}
use Rattle.lam_number.specs.declared.strength.FaceStrain.{FaceStrain}
use Rattle.lam_solve.specs.declared.strains.Strains.{Strains}
use Rattle.lam_solve.specs.Solutions.{AreShort, IsShort}
use Rattle.lam_solve.specs.Widths.{AreNarrow, IsNarrowFace, WidenedByBending}
use Rattle.lam_solve.specs.inside.Formulas.{at_face, with_bending}
use Rattle.lam_solve.specs.inside.Parts.{IsPart}
use Rattle.lam_solve.proofs.AtFaces.{bent_room, bending_room}
use Rattle.lam_solve.proofs.Reach.{place_part, place_room}

-- two ends are at most twice as far apart as they reach
width-most : (low high : ℤ) → ends.width low high ≤ 2 * ends.reach low high
unfolding ends.width ends.reach
width-most low high = omega (arith, ints)

module _ {A : Type 0} {n : Numbers A} (laws : Lawful n) where
  place-reach : {place h : ℤ} → RatioRoom place h → unsigned_abs place ≤ unsigned_abs h → reach n (n.calc.ratio place h) ≤ unit n + n.slop
  place-reach {place} {h} room inside =
      let far = (laws.ratio place h room).far in
      let one : 1 ≤ unsigned_abs h = omega (arith, ints, room.positive) in
      let times : unsigned_abs place * unit n ≤ unsigned_abs h * unit n = mul-le-mul_right (unit n) inside in
      le_of_mul-le-mul_right {k = unsigned_abs h} (omega (arith, far, times)) one

  -- (11/4 + 1) s for the place's width, and s b u/u: b is at most 11/2 u
  product_wide : (u s r q a b w : ℕ) → 1 ≤ u → s ≤ 4 → w * u ≤ r * a + q * b + s * u → a ≤ s → q ≤ u + s → 4 * r ≤ 11 * u → b ≤ 2 * r → w ≤ b + 10 * s
  product_wide u s r q a b w some slop h narrow_place short_place short wide =
      let first : r * a ≤ r * s = mul-le-mul_left r narrow_place in
      let second : q * b ≤ (u + s) * b = mul-le-mul_right b short_place in
      let third : (4 * r) * s ≤ (11 * u) * s = mul-le-mul_right s short in
      let fourth : (2 * b) * s ≤ (11 * u) * s = mul-le-mul_right s (omega (arith, short, wide)) in
      le_of_mul-le-mul_right {k = u} (omega (arith, h, first, second, third, fourth)) some

  bending-wide : (e k : A) {place h : ℤ} → IsShort n e → IsShort n k → IsPart n (n.calc.ratio place h) → RatioRoom place h → unsigned_abs place ≤ unsigned_abs h
      → width n (with_bending n.calc e k (n.calc.ratio place h)) ≤ width n e + width n k + 11 * n.slop
  bending-wide e k {place} {h} short_e short_k part room inside =
      let z = n.calc.ratio place h in
      let sum = (laws.sum e (n.calc.product k z) (bending_room laws e k short_e short_k part)).narrow in
      let product = (laws.product k z (bent_room laws k short_k part)).narrow in
      let wide = product_wide (unit n) n.slop (reach n k) (reach n z) (width n z) (width n k) (width n (n.calc.product k z)) (one_unit laws) laws.narrow product
      (laws.ratio place h room).narrow (place-reach room inside) short_k (width-most (n.low k) (n.high k)) in
      omega (arith, sum, wide)

  module _ (s : Strains A) (place h : ℤ) (thick : pos 1 ≤ℤ h) (inner : neg_ℤ h ≤ℤ place) (outer : place ≤ℤ h) (small : unsigned_abs h ≤ 2 ^ 66) (short : AreShort n s) where
    pub face-wide : WidenedByBending n s (at_face n.calc s place h)
    face-wide =
        let room = place_room place h thick inner outer small in
        let part = place_part laws place h thick inner outer small in
        let inside : unsigned_abs place ≤ unsigned_abs h = omega (arith, ints, thick, inner, outer) in
        record {
          ex = bending-wide s.ex s.kx short.ex short.kx part room inside;
          ey = bending-wide s.ey s.ky short.ey short.ky part room inside;
          g = bending-wide s.g s.kg short.g short.kg part room inside;
        }

-- narrow strains make narrow strains at a face
pub narrow-face : {A : Type 0} {n : Numbers A} {s : Strains A} {face : FaceStrain A} → WidenedByBending n s face → AreNarrow n s → IsNarrowFace n face
narrow-face wide narrow = record {
  ex = omega (arith, wide.ex, narrow.ex, narrow.kx);
  ey = omega (arith, wide.ey, narrow.ey, narrow.ky);
  g = omega (arith, wide.g, narrow.g, narrow.kg);
}
