-- The bending stiffness of a wall and the buckling of its panels, tried on worked numbers.
use Rattle.std.proofs.Common.{◌≡◌, refl, lit≤, ◌*◌, ◌^◌, true, false, pos, [], ◌∷◌}
use mathlib.Core.Quot.{sound}
use Rattle.lam_fraction.specs.Fraction.{whole, fraction, class_of, ◌+ℚ◌, ◌-ℚ◌, ◌*ℚ◌, ◌/ℚ◌, opposite, inverse, is_at_most, ◌≤ℚ◌, ◌<ℚ◌}
use Rattle.lam_fraction.specs.inside.Quotient.{of_two, on_one, on_two}
use Rattle.lam_stock.specs.PlyLaw.{reduced_11, reduced_12, reduced_22, reduced_66, cosine, sine}
use Rattle.lam_job.specs.Plate.{stiffness_11, stiffness_12, stiffness_22, stiffness_66, buckling_load, panel_load, PanelAtLeast}
use Rattle.lam_job.proofs.Worked.{glass, square, long, two_mats}
use Rattle.lam_job.proofs.EveryWave.{load_at_the_least, stands_in_every_wave}

-- ---- D11, D12, D22 and D66 of 3 mm of glass along x: h³/12 times Q11 = 2560000/63, and so on

glass_11 : stiffness_11 (glass ∷ []) ≡ fraction (pos (64 * 10 ^ 13)) (pos 7)
unfolding whole fraction class_of ◌+ℚ◌ ◌-ℚ◌ ◌*ℚ◌ ◌/ℚ◌ opposite inverse on_one on_two of_two reduced_11 reduced_12 reduced_22 reduced_66 cosine sine
glass_11 = sound refl

glass_12 : stiffness_12 (glass ∷ []) ≡ fraction (pos (4 * 10 ^ 13)) (pos 7)
unfolding whole fraction class_of ◌+ℚ◌ ◌-ℚ◌ ◌*ℚ◌ ◌/ℚ◌ opposite inverse on_one on_two of_two reduced_11 reduced_12 reduced_22 reduced_66 cosine sine
glass_12 = sound refl

glass_22 : stiffness_22 (glass ∷ []) ≡ fraction (pos (16 * 10 ^ 13)) (pos 7)
unfolding whole fraction class_of ◌+ℚ◌ ◌-ℚ◌ ◌*ℚ◌ ◌/ℚ◌ opposite inverse on_one on_two of_two reduced_11 reduced_12 reduced_22 reduced_66 cosine sine
glass_22 = sound refl

glass_66 : stiffness_66 (glass ∷ []) ≡ whole (pos (9 * 10 ^ 12))
unfolding whole fraction class_of ◌+ℚ◌ ◌-ℚ◌ ◌*ℚ◌ ◌/ℚ◌ opposite inverse on_one on_two of_two reduced_11 reduced_12 reduced_22 reduced_66 cosine sine
glass_66 = sound refl

-- ---- two `mat` on 500 by 500 mm stand 131587.75 N/m, in one half wave

square_stands : whole (pos 131587) ≤ℚ buckling_load two_mats square 1
unfolding whole fraction class_of ◌+ℚ◌ ◌-ℚ◌ ◌*ℚ◌ ◌/ℚ◌ opposite inverse is_at_most on_one on_two of_two reduced_11 reduced_12 reduced_22 reduced_66 cosine sine
square_stands = record { le = refl }

square_buckles : buckling_load two_mats square 1 <ℚ whole (pos 131588)
unfolding whole fraction class_of ◌+ℚ◌ ◌-ℚ◌ ◌*ℚ◌ ◌/ℚ◌ opposite inverse is_at_most on_one on_two of_two reduced_11 reduced_12 reduced_22 reduced_66 cosine sine
square_buckles = record { lt = refl }

square_in_two_waves : whole (pos 205605) ≤ℚ buckling_load two_mats square 2
unfolding whole fraction class_of ◌+ℚ◌ ◌-ℚ◌ ◌*ℚ◌ ◌/ℚ◌ opposite inverse is_at_most on_one on_two of_two reduced_11 reduced_12 reduced_22 reduced_66 cosine sine
square_in_two_waves = record { le = refl }

-- two `mat` are stiff, and across as much as along
pub mats_are_stiff : whole (pos 0) ≤ℚ stiffness_11 two_mats
unfolding whole fraction class_of ◌+ℚ◌ ◌-ℚ◌ ◌*ℚ◌ ◌/ℚ◌ opposite inverse is_at_most on_one on_two of_two reduced_11 reduced_12 reduced_22 reduced_66 cosine sine
mats_are_stiff = record { le = refl }

pub mats_are_even : stiffness_22 two_mats ≡ stiffness_11 two_mats
unfolding whole fraction class_of ◌+ℚ◌ ◌-ℚ◌ ◌*ℚ◌ ◌/ℚ◌ opposite inverse on_one on_two of_two reduced_11 reduced_12 reduced_22 reduced_66 cosine sine
mats_are_even = sound refl

-- a half wave as long as the width allows 2.631 times 50000 N/m
least_allows_2631 : panel_load square (whole (pos 2631)) ≤ℚ load_at_the_least two_mats square
unfolding whole fraction class_of ◌+ℚ◌ ◌-ℚ◌ ◌*ℚ◌ ◌/ℚ◌ opposite inverse is_at_most on_one on_two of_two reduced_11 reduced_12 reduced_22 reduced_66 cosine sine
least_allows_2631 = record { le = refl }

-- its load is 50000 N/m, so it does not stand 2.632 times that
square_is_short_of_2632 : ¬ PanelAtLeast two_mats square (whole (pos 2632))
unfolding whole fraction class_of ◌+ℚ◌ ◌-ℚ◌ ◌*ℚ◌ ◌/ℚ◌ opposite inverse is_at_most on_one on_two of_two reduced_11 reduced_12 reduced_22 reduced_66 cosine sine
square_is_short_of_2632 stands = let e : false ≡ true = (stands 1 (lit≤ tt)).le in cc

-- whatever the number of half waves, it stands 2.631 times that
pub square_stands_2631 : PanelAtLeast two_mats square (whole (pos 2631))
square_stands_2631 = stands_in_every_wave two_mats square (whole (pos 2631)) (record { lt = tt }) (record { lt = tt }) mats_are_stiff mats_are_even least_allows_2631

-- ---- at 1000 mm of length the least load is that of two half waves

long_in_one_wave : whole (pos 205605) ≤ℚ buckling_load two_mats long 1
unfolding whole fraction class_of ◌+ℚ◌ ◌-ℚ◌ ◌*ℚ◌ ◌/ℚ◌ opposite inverse is_at_most on_one on_two of_two reduced_11 reduced_12 reduced_22 reduced_66 cosine sine
long_in_one_wave = record { le = refl }

long_in_two_waves : buckling_load two_mats long 2 ≡ buckling_load two_mats square 1
unfolding whole fraction class_of ◌+ℚ◌ ◌-ℚ◌ ◌*ℚ◌ ◌/ℚ◌ opposite inverse on_one on_two of_two reduced_11 reduced_12 reduced_22 reduced_66 cosine sine
long_in_two_waves = sound refl

long_in_three_waves : whole (pos 154432) ≤ℚ buckling_load two_mats long 3
unfolding whole fraction class_of ◌+ℚ◌ ◌-ℚ◌ ◌*ℚ◌ ◌/ℚ◌ opposite inverse is_at_most on_one on_two of_two reduced_11 reduced_12 reduced_22 reduced_66 cosine sine
long_in_three_waves = record { le = refl }

-- one half wave alone would allow it 2.632 times its load of 50000 N/m
long_in_one_wave_allows_2632 : panel_load long (whole (pos 2632)) ≤ℚ buckling_load two_mats long 1
unfolding whole fraction class_of ◌+ℚ◌ ◌-ℚ◌ ◌*ℚ◌ ◌/ℚ◌ opposite inverse is_at_most on_one on_two of_two reduced_11 reduced_12 reduced_22 reduced_66 cosine sine
long_in_one_wave_allows_2632 = record { le = refl }

-- and two do not
long_is_short_of_2632 : ¬ PanelAtLeast two_mats long (whole (pos 2632))
unfolding whole fraction class_of ◌+ℚ◌ ◌-ℚ◌ ◌*ℚ◌ ◌/ℚ◌ opposite inverse is_at_most on_one on_two of_two reduced_11 reduced_12 reduced_22 reduced_66 cosine sine
long_is_short_of_2632 stands = let e : false ≡ true = (stands 2 (lit≤ tt)).le in cc

-- whatever the number of half waves, it stands 2.631 times that, as the square one does
long_stands_2631 : PanelAtLeast two_mats long (whole (pos 2631))
long_stands_2631 = stands_in_every_wave two_mats long (whole (pos 2631)) (record { lt = tt }) (record { lt = tt }) mats_are_stiff mats_are_even least_allows_2631

-- ---- glass, stiff along its length: 10394.18 N/m in three half waves, where the exchanged stiffnesses give 5506.63

glass_along : whole (pos 10394) ≤ℚ buckling_load (glass ∷ []) long 3
unfolding whole fraction class_of ◌+ℚ◌ ◌-ℚ◌ ◌*ℚ◌ ◌/ℚ◌ opposite inverse is_at_most on_one on_two of_two reduced_11 reduced_12 reduced_22 reduced_66 cosine sine
glass_along = record { le = refl }

glass_buckles : buckling_load (glass ∷ []) long 3 <ℚ whole (pos 10395)
unfolding whole fraction class_of ◌+ℚ◌ ◌-ℚ◌ ◌*ℚ◌ ◌/ℚ◌ opposite inverse is_at_most on_one on_two of_two reduced_11 reduced_12 reduced_22 reduced_66 cosine sine
glass_buckles = record { lt = refl }
