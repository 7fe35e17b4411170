-- What is sure of a panel, tried on worked numbers: two mats on 500 by 500 mm, which buckle at 2.63175 times 50000 N/m, and
-- the greatest number of half waves.
use Rattle.std.proofs.Common.{◌≡◌, refl, lit≤, true, false, pos}
use Rattle.lam_fraction.specs.Fraction.{whole, fraction, class_of, ◌+ℚ◌, ◌-ℚ◌, ◌*ℚ◌, ◌/ℚ◌, opposite, inverse, is_at_most, ◌≤ℚ◌, ◌<ℚ◌}
use Rattle.lam_fraction.specs.inside.Quotient.{of_two, on_one, on_two}
use Rattle.lam_stock.specs.PlyLaw.{reduced_11, reduced_12, reduced_22, reduced_66, cosine, sine}
use Rattle.lam_job.proofs.Worked.{square, long, two_mats}
use Rattle.lam_job.specs.Near.{just_above}
use Rattle.lam_job.specs.Plate.{buckling_load, panel_load}
use Rattle.lam_sharp.specs.NearOne.{past_ratio}
use Rattle.lam_plate.specs.Panels.{StandsAbove, BucklesBelow}
use Rattle.lam_plate.specs.inside.Formulas.{rises_from}

-- it is seen to buckle in one half wave
square_buckles : BucklesBelow two_mats square (whole (pos 2632))
unfolding whole fraction class_of ◌+ℚ◌ ◌-ℚ◌ ◌*ℚ◌ ◌/ℚ◌ opposite inverse is_at_most on_one on_two of_two reduced_11 reduced_12 reduced_22 reduced_66 cosine sine
square_buckles = (1, lit≤ tt, record { lt = refl })

-- a plate twice as long, in two
long_buckles : BucklesBelow two_mats long (whole (pos 2632))
unfolding whole fraction class_of ◌+ℚ◌ ◌-ℚ◌ ◌*ℚ◌ ◌/ℚ◌ opposite inverse is_at_most on_one on_two of_two reduced_11 reduced_12 reduced_22 reduced_66 cosine sine
long_buckles = (2, lit≤ tt, record { lt = refl })

-- so it does not stand that
square_does_not_stand : ¬ StandsAbove two_mats square (whole (pos 2632))
unfolding whole fraction class_of ◌+ℚ◌ ◌-ℚ◌ ◌*ℚ◌ ◌/ℚ◌ opposite inverse is_at_most on_one on_two of_two reduced_11 reduced_12 reduced_22 reduced_66 cosine sine
square_does_not_stand stands = let e : true ≡ false = (stands 1 (lit≤ tt)).lt in cc

-- printed as 2.631, it buckles below 2.646155
square_past : BucklesBelow two_mats square (past_ratio (pos 2631))
unfolding whole fraction class_of ◌+ℚ◌ ◌-ℚ◌ ◌*ℚ◌ ◌/ℚ◌ opposite inverse is_at_most on_one on_two of_two reduced_11 reduced_12 reduced_22 reduced_66 cosine sine
square_past = (1, lit≤ tt, record { lt = refl })

-- by 201/200 of 2.640, but not of 2.610, in one half wave
square_just_above : buckling_load two_mats square 1 ≤ℚ panel_load square (just_above (pos 2640))
unfolding whole fraction class_of ◌+ℚ◌ ◌-ℚ◌ ◌*ℚ◌ ◌/ℚ◌ opposite inverse is_at_most on_one on_two of_two reduced_11 reduced_12 reduced_22 reduced_66 cosine sine
square_just_above = record { le = refl }

square_stands_more : panel_load square (just_above (pos 2610)) <ℚ buckling_load two_mats square 1
unfolding whole fraction class_of ◌+ℚ◌ ◌-ℚ◌ ◌*ℚ◌ ◌/ℚ◌ opposite inverse is_at_most on_one on_two of_two reduced_11 reduced_12 reduced_22 reduced_66 cosine sine
square_stands_more = record { lt = refl }

-- of 20,000 by 50 mm, where D22 is 512 times D11
not_yet : rises_from (pos 512) (pos 400000000) (pos 2500) 1902 ≡ false
not_yet = refl

from_here : rises_from (pos 512) (pos 400000000) (pos 2500) 1903 ≡ true
from_here = refl
