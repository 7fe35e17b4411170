-- The strains at a face hold the strain there of each laminate strain that is held.
use Rattle.std.proofs.Common.{◌≡◌, subst, ◌+◌, ◌*◌, ◌^◌, ◌≤◌, ℤ, pos, neg_ℤ, ◌≤ℤ◌, ◌<ℤ◌, unsigned_abs, arith}
use Rattle.std.proofs.lemmas.Int.{ints}
use Rattle.lam_fraction.specs.Fraction.{ℚ, fraction, ◌+ℚ◌, ◌*ℚ◌}
use Rattle.lam_fraction.specs.numbers.Numbers.{Numbers, Lawful, Holds, ProductRoom, SumRoom, reach, unit}
use Rattle.lam_fraction.specs.inside.Reaches.{Reaches, sixteenths}
use Rattle.lam_fraction.proofs.numbers.Rooms.{product_within, sum_within, reaches_product, reaches_sum, reach_within}
use Rattle.lam_fraction.proofs.numbers.Steps.{over_up}
use Rattle.lam_number.specs.declared.strength.FaceStrain.{FaceStrain}
use Rattle.lam_job.specs.LaminateStrain.{LaminateStrain, strain_at}
use Rattle.lam_solve.specs.declared.strains.Strains.{Strains}
use Rattle.lam_solve.specs.Solutions.{AreShort, HoldsAtFace, HoldsStrains, IsShort, ReachesSix}
use Rattle.lam_solve.specs.inside.Formulas.{at_face, with_bending}
use Rattle.lam_solve.specs.inside.Parts.{IsPart}
use Rattle.lam_solve.proofs.Reach.{short_reaches, place_part, place_room}
use Rattle.lam_solve.proofs.energy.FaceStrains.{face-x, face-y, face-s}

module _ {A : Type 0} {n : Numbers A} (laws : Lawful n) where
  pub bent_room : (k : A) {z : A} → IsShort n k → IsPart n z → ProductRoom n k z
  bent_room k h p = product_within laws (short_reaches laws h) p (omega arith)

  bent_reach : (k : A) {z : A} → IsShort n k → IsPart n z → Reaches n (over_up (sixteenths 44 * (sixteenths 16 + 4)) (2 ^ 28) + 4) (n.calc.product k z)
  bent_reach k h p = reaches_product laws (short_reaches laws h) p (omega arith)

  pub bending_room : (e k : A) {z : A} → IsShort n e → IsShort n k → IsPart n z → SumRoom n e (n.calc.product k z)
  bending_room e k h l p = sum_within laws (short_reaches laws h) (bent_reach k l p) (omega arith)

  bending_reach : (e k : A) {z : A} → IsShort n e → IsShort n k → IsPart n z → reach n (with_bending n.calc e k z) ≤ 6 * unit n
  bending_reach e k h l p = reach_within laws (reaches_sum laws (short_reaches laws h) (bent_reach k l p) (omega arith)) (omega arith)

  bending_held : {e k z : A} {x y t : ℚ} → IsShort n e → IsShort n k → IsPart n z → Holds n e x → Holds n k y → Holds n z t → Holds n (with_bending n.calc e k z) (x +ℚ y *ℚ t)
  bending_held {e} {k} {z} {x} {y} {t} h l p holds_e holds_k holds_z =
      (laws.sum e (n.calc.product k z) (bending_room e k h l p)).held x (y *ℚ t) holds_e ((laws.product k z (bent_room k l p)).held y t holds_k holds_z)

  module _ (s : Strains A) (place h : ℤ) (thick : pos 1 ≤ℤ h) (inner : neg_ℤ h ≤ℤ place) (outer : place ≤ℤ h) (small : unsigned_abs h ≤ 2 ^ 66) (short : AreShort n s) where
    part : IsPart n (n.calc.ratio place h)
    part = place_part laws place h thick inner outer small

    held_part : Holds n (n.calc.ratio place h) (fraction place h)
    held_part = (laws.ratio place h (place_room place h thick inner outer small)).held

    pub face-reach : ReachesSix n (at_face n.calc s place h)
    face-reach = record {
      ex = bending_reach s.ex s.kx short.ex short.kx part;
      ey = bending_reach s.ey s.ky short.ey short.ky part;
      g = bending_reach s.g s.kg short.g short.kg part;
    }

    pub face-held : (f : LaminateStrain) → HoldsStrains n s h f → HoldsAtFace n (at_face n.calc s place h) (strain_at f place)
    face-held f holds =
        let above : pos 0 <ℤ h = omega (arith, ints, thick) in
        record {
          ex = subst (Holds n (at_face n.calc s place h).ex) (face-x h place above f) (bending_held short.ex short.kx part holds.ex holds.kx held_part);
          ey = subst (Holds n (at_face n.calc s place h).ey) (face-y h place above f) (bending_held short.ey short.ky part holds.ey holds.ky held_part);
          g = subst (Holds n (at_face n.calc s place h).g) (face-s h place above f) (bending_held short.g short.kg part holds.g holds.kg held_part);
        }

-- three strains as they are computed
pub same_strains : {A : Type 0} {a b c d e f : A} → a ≡ d → b ≡ e → c ≡ f → (let r : FaceStrain A = record { ex = a; ey = b; g = c } in r) ≡ (let r : FaceStrain A = record { ex = d; ey = e; g = f } in r)
same_strains p q r = λ i. record { ex = p i; ey = q i; g = r i }
