-- Two strains of a wall that are near each other, and how far the values of the criterion at them are apart. Where a value
-- is near 1 it moves by at most about 19 times what the stresses move by, as parts of the least strengths of their axes.
use Rattle.std.specs.Prelude.{ℤ, pos}
use Rattle.lam_fraction.specs.Fraction.{ℚ, whole, fraction, ◌+ℚ◌, ◌-ℚ◌, ◌*ℚ◌, ◌≤ℚ◌}
use Rattle.lam_stock.specs.declared.item.Item.{Item}
use Rattle.lam_stock.specs.declared.item.Lamina.{Lamina}
use Rattle.lam_stock.specs.Moduli.{stiffness_cap}
use Rattle.lam_stock.specs.PlyLaw.{OffAxis, Side, side_stress}
use Rattle.lam_stock.specs.Stock.{WithinLimits}
use Rattle.lam_stock.specs.TsaiWu.{tsai_wu}

-- two numbers are at most so far apart
pub record AreApart (far x y : ℚ) : Type 0 where
  pub from : x -ℚ y ≤ℚ far
  pub to : y -ℚ x ≤ℚ far

-- each component of one strain is at most so far from that of the other
pub record StrainsApart (far : ℚ) (e f : OffAxis) : Type 0 where
  pub x : AreApart far e.x f.x
  pub y : AreApart far e.y f.y
  pub s : AreApart far e.s f.s

-- 27/16 of the greater of 2(E1 + E2) and 2 G12, times the factor in thousandths, times how far strains are apart, is at most
-- such a part of a strength
abbrev pub MovesBy : Lamina → ℚ → ℚ → ℚ → ℤ → Type 0
MovesBy l factor far part strength = whole (pos 27) *ℚ (factor *ℚ whole (stiffness_cap l) *ℚ far) ≤ℚ whole (pos 16) *ℚ (whole strength *ℚ part)

-- so it is of each strength
pub record StressesMoveBy (l : Lamina) (factor far part : ℚ) : Type 0 where
  pub xt : MovesBy l factor far part l.xt
  pub xc : MovesBy l factor far part l.xc
  pub yt : MovesBy l factor far part l.yt
  pub yc : MovesBy l factor far part l.yc
  pub s : MovesBy l factor far part l.s

-- a slope is as great as that of the criterion can be where its value is at most 1 and an excess
pub record IsSteep (excess slope : ℚ) : Type 0 where
  pub positive : whole (pos 0) ≤ℚ slope
  pub square : whole (pos 352) +ℚ whole (pos 19) *ℚ excess ≤ℚ slope *ℚ slope

-- the slope times a part, and 19/4 of its square
abbrev pub band : ℚ → ℚ → ℚ
band slope part = slope *ℚ part +ℚ fraction (pos 19) (pos 4) *ℚ (part *ℚ part)

-- the values of an item within its limits, on a side and at a factor, at two near strains, are at most the band apart
abbrev pub ValuesAreClose : Type 0
ValuesAreClose = (i : Item) (side : Side) (e f : OffAxis) (factor far part excess slope : ℚ)
    → WithinLimits i → whole (pos 0) ≤ℚ factor → StrainsApart far e f → StressesMoveBy i.lamina factor far part
    → whole (pos 0) ≤ℚ excess → IsSteep excess slope
    → tsai_wu i.lamina (side_stress i.lamina i.dir side f) factor ≤ℚ whole (pos 1) +ℚ excess
    → AreApart (band slope part) (tsai_wu i.lamina (side_stress i.lamina i.dir side e) factor) (tsai_wu i.lamina (side_stress i.lamina i.dir side f) factor)
