-- A value of the criterion near 1, and what it says of a stress. The value grows with the load in a square and a linear
-- part, of which the square part is never negative, so that it grows at least as the load does: by one part in 200 of
-- the load at least as much, and a value within one part in 200 of 1 is within one part in 200 of the factor.
use Rattle.std.specs.Prelude.{ℤ, pos, ◌+ℤ◌, ◌*ℤ◌, ◌≤ℤ◌}
use Rattle.lam_fraction.specs.Fraction.{ℚ, whole, fraction, ◌≤ℚ◌, ◌<ℚ◌}
use Rattle.lam_stock.specs.declared.item.Item.{Item}
use Rattle.lam_stock.specs.declared.item.Lamina.{Lamina}
use Rattle.lam_stock.specs.PlyLaw.{OnAxis}
use Rattle.lam_stock.specs.Stock.{WithinLimits}
use Rattle.lam_stock.specs.TsaiWu.{tsai_wu, RatioAtLeast}
use Rattle.lam_job.specs.Near.{just_below, just_above}

-- the ends of what is near 1
abbrev pub nearly_one : ℚ
nearly_one = fraction (pos 200) (pos 201)

abbrev pub hardly_above_one : ℚ
hardly_above_one = fraction (pos 200) (pos 199)

-- at a stress in MPa and a factor in thousandths, the value is not far above 1
abbrev pub IsHardlyAbove : Lamina → OnAxis → ℤ → Type 0
IsHardlyAbove l t factor = tsai_wu l t (whole factor) ≤ℚ hardly_above_one

-- it is near 1
pub record IsNearOne (l : Lamina) (t : OnAxis) (factor : ℤ) : Type 0 where
  pub from : nearly_one ≤ℚ tsai_wu l t (whole factor)
  pub to : IsHardlyAbove l t factor

-- a stress is near a factor: it stands 199/200 of it, and at 201/200 of it the value is at least 1
pub record IsNearFactor (l : Lamina) (t : OnAxis) (factor : ℤ) : Type 0 where
  pub stands : RatioAtLeast l t (just_below factor)
  pub fails : whole (pos 1) ≤ℚ tsai_wu l t (just_above factor)

-- 201/200 of a ratio in thousandths, and two thousandths more
abbrev pub past_ratio : ℤ → ℚ
past_ratio r = fraction (pos 201 *ℤ r +ℤ pos 400) (pos 200)

-- ---- the laws, of an item within its limits

-- a value near 1 at a factor is near the factor
abbrev pub NearOneIsNear : Type 0
NearOneIsNear = (i : Item) (t : OnAxis) (factor : ℤ) → WithinLimits i → IsNearOne i.lamina t factor → IsNearFactor i.lamina t factor

-- a value of nearly 1 at one thousandth above a ratio is above 1 past the ratio
abbrev pub NearlyOneBounds : Type 0
NearlyOneBounds = (i : Item) (t : OnAxis) (r : ℤ) → WithinLimits i → pos 0 ≤ℤ r
    → nearly_one ≤ℚ tsai_wu i.lamina t (whole (r +ℤ pos 1)) → whole (pos 1) <ℚ tsai_wu i.lamina t (past_ratio r)
