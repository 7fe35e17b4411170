-- The bounds of widths tried on numbers, in fixed point over two to the power of 60, where a slop is two units.
use Rattle.std.proofs.Common.{◌≡◌, refl, ◌+◌, ◌-◌, ◌*◌, ◌^◌, ◌<◌, ◌≤◌, pos, negsuc, leb-true}
use Rattle.lam_fraction.specs.numbers.Ends as ends
use Rattle.lam_fraction.specs.numbers.Numbers.{Numbers, width}
use Rattle.lam_fraction.specs.numbers.Rounding as rounding
use Rattle.lam_fraction.specs.inside.FixedEnds as fixed
use Rattle.lam_number.specs.declared.fix.Fix.{Fix}
use Rattle.lam_number.specs.inside.FixNumbers.{fix_numbers, fix_of}
use Rattle.lam_solve.specs.declared.six.Six.{Six}
use Rattle.lam_solve.specs.declared.strains.Guess.{Guess}
use Rattle.lam_solve.specs.Widths.{residual_slops}
use Rattle.lam_solve.specs.inside.Enclosed.{around, end_reach}
use Rattle.lam_solve.specs.inside.Residual.{middle, row_residual}

abbrev fixed_60 : Numbers (Fix 60)
fixed_60 = fix_numbers 60

-- ---- an equation with entries 512 slops wide, at a centre of which the components' sum is just below 9

unfoldable entry : Fix 60
entry = fix_of 60 (pos (2 ^ 50)) (pos (2 ^ 50 + 1024))

unfoldable row : Six (Fix 60)
row = record { ex = entry; ey = entry; g = entry; kx = entry; ky = entry; kg = entry }

unfoldable centre : Guess
centre = record { ex = pos (4 * 2 ^ 60); ey = pos (4 * 2 ^ 60); g = pos (2 ^ 60 - 1); kx = pos 0; ky = pos 0; kg = pos 0 }

-- a load one slop wide that leaves 4096 slops in the middle
unfoldable load : Fix 60
load = fix_of 60 (pos (9 * (2 ^ 50 + 512) + 8191)) (pos (9 * (2 ^ 50 + 512) + 8193))

middle-is : middle fixed_60 (row_residual fixed_60 load row centre) ≡ pos (4096 * 2)
unfolding entry row centre load fix_of rounding.floor_over
middle-is = refl

-- an end is more than 6400 1/2 slops from 0, so that no bound of 6400 slops is true
end-above : 12801 * 2 ^ 60 < end_reach (row_residual fixed_60 load row centre)
unfolding entry row centre load fix_of ends.reach
end-above = leb-true (12801 * 2 ^ 60 + 1) _ refl

end-below : end_reach (row_residual fixed_60 load row centre) ≤ residual_slops * 2 * 2 ^ 60
unfolding entry row centre load fix_of ends.reach
end-below = leb-true _ (residual_slops * 2 * 2 ^ 60) refl

-- ---- round a centre: twice the radius

twice-the-radius : width fixed_60 (around fixed_60 (negsuc 6) 5) ≡ 10
unfolding ends.width fix_of fixed.ratio_low fixed.ratio_high rounding.floor_over rounding.ceil_over
twice-the-radius = refl
