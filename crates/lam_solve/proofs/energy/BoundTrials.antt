-- The bounds of strains, tried: forces and moments of size 1 on a layer of stiffness 1, in every direction at once.
use Rattle.std.proofs.Common.{◌≡◌, refl, pos}
use Rattle.lam_fraction.specs.Fraction.{whole, fraction, class_of, ◌+ℚ◌, ◌-ℚ◌, ◌*ℚ◌, ◌/ℚ◌, opposite, inverse, is_at_most, ◌≤ℚ◌, ◌<ℚ◌}
use Rattle.lam_fraction.specs.inside.Quotient.{of_two, on_one, on_two}
use Rattle.lam_fraction.proofs.Rationals.{antisym}
use Rattle.lam_stock.specs.PlyLaw.{OffAxis}
use Rattle.lam_stock.specs.Energy.{twice_energy}
use Rattle.lam_wall.specs.Energy.{mean_squares}
use Rattle.lam_solve.specs.StrainBounds.{shear_bound, bending_bound}

-- the forces, and the moments
unfoldable ones : OffAxis
ones = record { x = whole (pos 1); y = whole (pos 1); s = whole (pos 1) }

-- ---- a strain of 5/2 in x: its mean squares, 10, are just the work, so that no smaller bound is true

unfoldable stretched : OffAxis
stretched = record { x = fraction (pos 5) (pos 2); y = fraction (pos 1) (pos 2); s = whole (pos 1) }

unfoldable bent : OffAxis
bent = record { x = fraction (pos 3) (pos 2); y = fraction (pos 3) (pos 2); s = whole (pos 3) }

squares_of_the_stretched : mean_squares stretched bent ≡ whole (pos 10)
unfolding stretched bent whole fraction class_of ◌+ℚ◌ ◌-ℚ◌ ◌*ℚ◌ ◌/ℚ◌ opposite inverse is_at_most on_one on_two of_two
squares_of_the_stretched = antisym (record { le = refl }) (record { le = refl })

work_in_the_stretched : twice_energy ones stretched +ℚ twice_energy ones bent ≡ whole (pos 10)
unfolding ones stretched bent whole fraction class_of ◌+ℚ◌ ◌-ℚ◌ ◌*ℚ◌ ◌/ℚ◌ opposite inverse is_at_most on_one on_two of_two
work_in_the_stretched = antisym (record { le = refl }) (record { le = refl })

-- ---- a twist of 39/5, which the bounds of shear and of bending are below

unfoldable sheared : OffAxis
sheared = record { x = fraction (pos 1) (pos 2); y = fraction (pos 1) (pos 2); s = whole (pos 1) }

unfoldable twisted : OffAxis
twisted = record { x = fraction (pos 3) (pos 2); y = fraction (pos 3) (pos 2); s = fraction (pos 39) (pos 5) }

twisted_by_the_work : mean_squares sheared twisted ≤ℚ twice_energy ones sheared +ℚ twice_energy ones twisted
unfolding ones sheared twisted whole fraction class_of ◌+ℚ◌ ◌-ℚ◌ ◌*ℚ◌ ◌/ℚ◌ opposite inverse is_at_most on_one on_two of_two
twisted_by_the_work = record { le = refl }

above_the_bound_of_shear : shear_bound (whole (pos 1)) <ℚ twisted.s
unfolding twisted whole fraction class_of ◌+ℚ◌ ◌-ℚ◌ ◌*ℚ◌ ◌/ℚ◌ opposite inverse is_at_most on_one on_two of_two
above_the_bound_of_shear = record { lt = refl }

above_the_bound_of_bending : bending_bound (whole (pos 1)) <ℚ twisted.s
unfolding twisted whole fraction class_of ◌+ℚ◌ ◌-ℚ◌ ◌*ℚ◌ ◌/ℚ◌ opposite inverse is_at_most on_one on_two of_two
above_the_bound_of_bending = record { lt = refl }
