-- The laminate strain of a wall and the stresses in its plies, tried on worked numbers.
use Rattle.std.proofs.Common.{◌≡◌, refl, ap, true, false, pos, negsuc, ℤ, [], ◌∷◌}
use mathlib.Core.Quot.{sound}
use Rattle.lam_fraction.specs.Fraction.{ℚ, whole, fraction, class_of, ◌+ℚ◌, ◌-ℚ◌, ◌*ℚ◌, ◌/ℚ◌, opposite, inverse, is_at_most}
use Rattle.lam_fraction.specs.inside.Quotient.{of_two, on_one, on_two}
use Rattle.lam_stock.specs.PlyLaw.{OnAxis, Plus, Minus, reduced_11, reduced_12, reduced_22, reduced_66, cosine, sine}
use Rattle.lam_job.specs.Wall.{Placed, placed_plies}
use Rattle.lam_job.specs.LaminateStrain.{LaminateStrain}
use Rattle.lam_job.specs.Equilibrium.{Solves}
use Rattle.lam_job.specs.Strength.{InnerFace, OuterFace, stress_at}
use Rattle.lam_job.proofs.Worked.{mat, stiff, pair, forces, moments}

abbrev none : ℚ
none = whole (pos 0)

-- ---- `mat` and `stiff` under 300000 N/m round the wall: 24/11000 at the mid-plane, and less the further outwards

abbrev bent : (curvature : ℤ) → LaminateStrain
bent c = record {
  mid_plane = record { x = none; y = fraction (pos 24) (pos 11000); s = none };
  curvature = record { x = none; y = fraction c (pos 110000000); s = none };
}

abbrev mat_inside : Placed
mat_inside = record { item = mat; inner = negsuc 9999; outer = pos 0 }

abbrev stiff_outside : Placed
stiff_outside = record { item = stiff; inner = pos 0; outer = pos 10000 }

plies_lie_so : placed_plies (mat ∷ stiff ∷ []) ≡ mat_inside ∷ stiff_outside ∷ []
plies_lie_so = refl

unsymmetric_wall_bends : Solves (mat ∷ stiff ∷ []) (forces (pos 0) (pos 1200000) (pos 0)) (bent (negsuc 23))
unfolding whole fraction class_of ◌+ℚ◌ ◌-ℚ◌ ◌*ℚ◌ ◌/ℚ◌ opposite inverse on_one on_two of_two reduced_11 reduced_12 reduced_22 reduced_66 cosine sine
unsymmetric_wall_bends = record { nx = sound refl; ny = sound refl; nxy = sound refl; mx = sound refl; my = sound refl; mxy = sound refl }

it_does_not_bend_the_other_way : ¬ Solves (mat ∷ stiff ∷ []) (forces (pos 0) (pos 1200000) (pos 0)) (bent (pos 24))
unfolding whole fraction class_of ◌+ℚ◌ ◌-ℚ◌ ◌*ℚ◌ ◌/ℚ◌ opposite inverse is_at_most on_one on_two of_two reduced_11 reduced_12 reduced_22 reduced_66 cosine sine
it_does_not_bend_the_other_way s = let e : false ≡ true = ap (λ x. is_at_most x (whole (pos 1200000))) s.ny in cc

mat_at_the_inside : (stress_at (bent (negsuc 23)) mat_inside InnerFace Plus).across ≡ fraction (pos 360) (pos 11)
unfolding whole fraction class_of ◌+ℚ◌ ◌-ℚ◌ ◌*ℚ◌ ◌/ℚ◌ opposite inverse on_one on_two of_two reduced_11 reduced_12 reduced_22 reduced_66 cosine sine
mat_at_the_inside = sound refl

mat_in_the_middle : (stress_at (bent (negsuc 23)) mat_inside OuterFace Plus).across ≡ fraction (pos 240) (pos 11)
unfolding whole fraction class_of ◌+ℚ◌ ◌-ℚ◌ ◌*ℚ◌ ◌/ℚ◌ opposite inverse on_one on_two of_two reduced_11 reduced_12 reduced_22 reduced_66 cosine sine
mat_in_the_middle = sound refl

stiff_in_the_middle : (stress_at (bent (negsuc 23)) stiff_outside InnerFace Plus).across ≡ fraction (pos 480) (pos 11)
unfolding whole fraction class_of ◌+ℚ◌ ◌-ℚ◌ ◌*ℚ◌ ◌/ℚ◌ opposite inverse on_one on_two of_two reduced_11 reduced_12 reduced_22 reduced_66 cosine sine
stiff_in_the_middle = sound refl

stiff_at_the_outside : (stress_at (bent (negsuc 23)) stiff_outside OuterFace Plus).across ≡ fraction (pos 240) (pos 11)
unfolding whole fraction class_of ◌+ℚ◌ ◌-ℚ◌ ◌*ℚ◌ ◌/ℚ◌ opposite inverse on_one on_two of_two reduced_11 reduced_12 reduced_22 reduced_66 cosine sine
stiff_at_the_outside = sound refl

-- ---- `mat` under a moment of 1000 mN along the wall: 6 M / h² is 0.24 MPa, and the outer face is pulled

abbrev rolled : LaminateStrain
rolled = record {
  mid_plane = record { x = none; y = none; s = none };
  curvature = record { x = fraction (pos 24) (pos 2500000000); y = none; s = none };
}

abbrev mat_alone : Placed
mat_alone = record { item = mat; inner = negsuc 4999; outer = pos 5000 }

a_moment_rolls_the_wall : Solves (mat ∷ []) (moments (pos 1000) (pos 0) (pos 0)) rolled
unfolding whole fraction class_of ◌+ℚ◌ ◌-ℚ◌ ◌*ℚ◌ ◌/ℚ◌ opposite inverse on_one on_two of_two reduced_11 reduced_12 reduced_22 reduced_66 cosine sine
a_moment_rolls_the_wall = record { nx = sound refl; ny = sound refl; nxy = sound refl; mx = sound refl; my = sound refl; mxy = sound refl }

a_moment_pulls_the_outside : (stress_at rolled mat_alone OuterFace Plus).along ≡ fraction (pos 24) (pos 100)
unfolding whole fraction class_of ◌+ℚ◌ ◌-ℚ◌ ◌*ℚ◌ ◌/ℚ◌ opposite inverse on_one on_two of_two reduced_11 reduced_12 reduced_22 reduced_66 cosine sine
a_moment_pulls_the_outside = sound refl

-- ---- a pair under 90000 N/m of shear, which is 18 MPa: its two sides are loaded the other way round

abbrev pub sheared : LaminateStrain
sheared = record {
  mid_plane = record { x = none; y = none; s = fraction (pos 18) (pos 5000) };
  curvature = record { x = none; y = none; s = none };
}

abbrev pub pair_alone : Placed
pair_alone = record { item = pair; inner = negsuc 4999; outer = pos 5000 }

abbrev of_hundredths : (along across shear : ℤ) → OnAxis
of_hundredths along across shear = record { along = fraction along (pos 100); across = fraction across (pos 100); shear = fraction shear (pos 100) }

abbrev same_stress : OnAxis → OnAxis → Type 0
same_stress a b = (a.along ≡ b.along) × (a.across ≡ b.across) × (a.shear ≡ b.shear)

pub a_pair_shears : Solves (pair ∷ []) (forces (pos 0) (pos 0) (pos 360000)) sheared
unfolding whole fraction class_of ◌+ℚ◌ ◌-ℚ◌ ◌*ℚ◌ ◌/ℚ◌ opposite inverse on_one on_two of_two reduced_11 reduced_12 reduced_22 reduced_66 cosine sine
a_pair_shears = record { nx = sound refl; ny = sound refl; nxy = sound refl; mx = sound refl; my = sound refl; mxy = sound refl }

plus_is_pulled : same_stress (stress_at sheared pair_alone InnerFace Plus) (of_hundredths (pos 1728) (negsuc 1727) (negsuc 503))
unfolding whole fraction class_of ◌+ℚ◌ ◌-ℚ◌ ◌*ℚ◌ ◌/ℚ◌ opposite inverse on_one on_two of_two reduced_11 reduced_12 reduced_22 reduced_66 cosine sine
plus_is_pulled = (sound refl, sound refl, sound refl)

minus_is_pushed : same_stress (stress_at sheared pair_alone InnerFace Minus) (of_hundredths (negsuc 1727) (pos 1728) (negsuc 503))
unfolding whole fraction class_of ◌+ℚ◌ ◌-ℚ◌ ◌*ℚ◌ ◌/ℚ◌ opposite inverse on_one on_two of_two reduced_11 reduced_12 reduced_22 reduced_66 cosine sine
minus_is_pushed = (sound refl, sound refl, sound refl)
