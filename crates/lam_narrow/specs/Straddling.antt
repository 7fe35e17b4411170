-- Where a verdict on a face straddles: only where the value of every strain that is held is near 1, if the strains are narrow.
use Rattle.std.specs.Prelude.{◌≡◌, ℕ, ◌*◌, ◌^◌, ◌≤◌, ℤ, pos, ◌≤ℤ◌}
use Rattle.lam_fraction.specs.Fraction.{ℚ, whole, fraction, ◌+ℚ◌, ◌*ℚ◌, ◌≤ℚ◌}
use Rattle.lam_fraction.specs.numbers.Numbers.{Numbers, width}
use Rattle.lam_number.specs.declared.strength.FaceStrain.{FaceStrain}
use Rattle.lam_number.specs.declared.strength.Verdict.{Verdict}
use Rattle.lam_number.specs.declared.strength.Verdict.TheVariants.{Meets, Straddles}
use Rattle.lam_stock.specs.declared.item.Item.{Item}
use Rattle.lam_stock.specs.declared.scale.Scale.{Scale}
use Rattle.lam_stock.specs.PlyLaw.{OffAxis, side_stress}
use Rattle.lam_stock.specs.TsaiWu.{tsai_wu}
use Rattle.lam_sharp.specs.NearOne.{nearly_one, IsNearOne}
use Rattle.lam_tsai.specs.declared.place.Side.{Side}
use Rattle.lam_tsai.specs.FaceStrains.{HoldsStrain, IsWithinSix}
use Rattle.lam_tsai.specs.Levels.{side_of, value_at, verdict_of}
use Rattle.lam_tsai.specs.Listed.{IsItemOf}
use Rattle.lam_tsai.specs.inside.Values.{level}
use Rattle.lam_narrow.specs.Close.{AreApart, StressesMoveBy}

-- enclosures of 60 bits, of which no step is off by more than two units
pub record IsFinest {A : Type 0} (n : Numbers A) : Type 0 where
  pub scale : n.scale ≡ 60
  pub slop : n.slop ≤ 2

-- each of the three strains at a face is at most so many units wide
pub record AreWithin {A : Type 0} (wide : ℕ) (n : Numbers A) (at : FaceStrain A) : Type 0 where
  pub x : width n at.ex ≤ wide
  pub y : width n at.ey ≤ wide
  pub s : width n at.g ≤ wide

-- no strains of a loaded wall of a catalogue are wider than so many units, which are about 4·10⁻¹⁰
abbrev pub narrow_units : ℕ
narrow_units = 13 * 2 ^ 25

-- a factor that a level is asked at, in thousandths
pub record IsCompared (factor : ℤ) : Type 0 where
  pub least : pos 0 ≤ℤ factor
  pub greatest : factor ≤ℤ pos 20000

-- the verdict on an item at a face and on a side
abbrev pub verdict_at : {A : Type 0} → Numbers A → Item → Side → Scale → FaceStrain A → ℤ → Verdict
verdict_at n i side scale at factor = verdict_of n (level n i side scale at factor)

-- strains at a face of an item of a catalogue are so wide at most, and hold a strain
pub record HoldsWithin {A : Type 0} (wide : ℕ) (n : Numbers A) (i : Item) (scale : Scale) (at : FaceStrain A) (e : OffAxis) : Type 0 where
  pub listed : IsItemOf scale i
  pub six : IsWithinSix n at
  pub narrow : AreWithin wide n at
  pub holds : HoldsStrain n at e

-- ---- the laws

-- a verdict straddles only where the value lies between 200/201 and 200/199, whichever strain is held
abbrev pub StraddlesNearOne : {A : Type 0} → Numbers A → Type 0
StraddlesNearOne {A} n = (i : Item) (side : Side) (scale : Scale) (at : FaceStrain A) (e : OffAxis) (factor : ℤ)
    → IsFinest n → HoldsWithin narrow_units n i scale at e → IsCompared factor
    → verdict_at n i side scale at factor ≡ Straddles
    → IsNearOne i.lamina (side_stress i.lamina i.dir (side_of side) e) factor

-- where it does not meet, the value is at least 200/201
abbrev pub NotMetIsNearlyOne : {A : Type 0} → Numbers A → Type 0
NotMetIsNearlyOne {A} n = (i : Item) (side : Side) (scale : Scale) (at : FaceStrain A) (e : OffAxis) (factor : ℤ)
    → IsFinest n → HoldsWithin narrow_units n i scale at e → IsCompared factor
    → ¬ (verdict_at n i side scale at factor ≡ Meets)
    → nearly_one ≤ℚ tsai_wu i.lamina (side_stress i.lamina i.dir (side_of side) e) (whole factor)

-- 19 times what the stresses move by, and a millionth
abbrev pub narrow_band : ℚ → ℚ
narrow_band part = whole (pos 19) *ℚ part +ℚ fraction (pos 1) (pos 1000000)

-- with an item's own moduli and strengths, the factor, and the width of the strains: where strains so far apart move the stresses
-- by such a part of the strengths, of at most one in 4096, a verdict straddles only where the value is within the band of 1
abbrev pub StraddlesInBand : {A : Type 0} → Numbers A → Type 0
StraddlesInBand {A} n = (i : Item) (side : Side) (scale : Scale) (at : FaceStrain A) (e : OffAxis) (factor : ℤ) (wide : ℕ) (part : ℚ)
    → IsFinest n → HoldsWithin wide n i scale at e → IsCompared factor
    → StressesMoveBy i.lamina (whole factor) (fraction (pos wide) (pos (2 ^ 60))) part → part ≤ℚ fraction (pos 1) (pos 4096)
    → verdict_at n i side scale at factor ≡ Straddles
    → AreApart (narrow_band part) (value_at i (side_of side) e (whole factor)) (whole (pos 1))
