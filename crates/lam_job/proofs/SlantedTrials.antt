-- Sums, stresses, the Tsai-Wu criterion and buckling, tried on a wall of slanted plies that are unlike in every number. The
-- numbers were worked out apart, with exact fractions.
use Rattle.std.proofs.Common.{◌≡◌, refl, pos, negsuc, ℤ, [], ◌∷◌, List}
use mathlib.Core.Quot.{sound}
use Rattle.lam_fraction.specs.Fraction.{whole, fraction, class_of, ◌+ℚ◌, ◌-ℚ◌, ◌*ℚ◌, ◌/ℚ◌, opposite, inverse, is_at_most, ◌≤ℚ◌, ◌<ℚ◌}
use Rattle.lam_fraction.specs.inside.Quotient.{of_two, on_one, on_two}
use Rattle.lam_stock.specs.declared.item.Item.{Item}
use Rattle.lam_stock.specs.declared.item.Lamina.{Lamina}
use Rattle.lam_stock.specs.declared.item.Kind.TheVariants.{Ply, Pair}
use Rattle.lam_stock.specs.PlyLaw.{OffAxis, OnAxis, Plus, Minus, reduced_11, reduced_12, reduced_22, reduced_66, cosine, sine}
use Rattle.lam_stock.specs.TsaiWu.{criterion, tsai_wu}
use Rattle.lam_job.specs.Wall.{Placed, placed_plies}
use Rattle.lam_job.specs.LaminateStrain.{LaminateStrain}
use Rattle.lam_job.specs.Equilibrium.{force_sum, moment_sum}
use Rattle.lam_job.specs.Strength.{InnerFace, OuterFace, stress_at}
use Rattle.lam_job.specs.Plate.{stiffness_11, stiffness_12, stiffness_22, stiffness_66, buckling_load}
use Rattle.lam_job.proofs.Worked.{item, direction, long}

abbrev thick : Lamina
thick = record { e1 = pos 40000; e2 = pos 10000; n12 = pos 300; g12 = pos 4000; xt = pos 800000; xc = pos 500000; yt = pos 40000; yc = pos 120000; s = pos 50000; f12 = negsuc 4999999; t = pos 3000 }

abbrev thin : Lamina
thin = record thick { e1 = pos 20000; e2 = pos 8000; n12 = pos 250; g12 = pos 3000; t = pos 2000 }

abbrev slant : Item
slant = item Ply thick (direction (pos 3) (pos 4) (pos 5)) 30

abbrev twin : Item
twin = item Pair thin (direction (pos 4) (pos 3) (pos 5)) 20

abbrev wall : List Item
wall = slant ∷ twin ∷ []

abbrev slant_inside : Placed
slant_inside = record { item = slant; inner = negsuc 4999; outer = pos 1000 }

abbrev twin_outside : Placed
twin_outside = record { item = twin; inner = pos 1000; outer = pos 5000 }

plies_lie_so : placed_plies wall ≡ slant_inside ∷ twin_outside ∷ []
plies_lie_so = refl

abbrev in_parts : (of x y s : ℤ) → OffAxis
in_parts of x y s = record { x = fraction x of; y = fraction y of; s = fraction s of }

-- stretched, sheared, bent and twisted at once
abbrev strained : LaminateStrain
strained = record { mid_plane = in_parts (pos 1000) (pos 1) (pos 2) (negsuc 0); curvature = in_parts (pos 10000000) (pos 1) (negsuc 1) (pos 3) }

-- ---- sums

forces_add_up : (force_sum (λ t. t.x) strained wall ≡ fraction (pos 298576384) (pos 575))
    × (force_sum (λ t. t.y) strained wall ≡ fraction (pos 4144312832) (pos 5525))
    × (force_sum (λ t. t.s) strained wall ≡ fraction (pos 14200873488) (pos 127075))
unfolding whole fraction class_of ◌+ℚ◌ ◌-ℚ◌ ◌*ℚ◌ ◌/ℚ◌ opposite inverse on_one on_two of_two reduced_11 reduced_12 reduced_22 reduced_66 cosine sine
forces_add_up = (sound refl, sound refl, sound refl)

moments_add_up : (moment_sum (λ t. t.x) strained wall ≡ fraction (negsuc 7573944319) (pos 69))
    × (moment_sum (λ t. t.y) strained wall ≡ fraction (negsuc 630411599359) (pos 663))
    × (moment_sum (λ t. t.s) strained wall ≡ fraction (negsuc 2364266422079) (pos 5083))
unfolding whole fraction class_of ◌+ℚ◌ ◌-ℚ◌ ◌*ℚ◌ ◌/ℚ◌ opposite inverse on_one on_two of_two reduced_11 reduced_12 reduced_22 reduced_66 cosine sine
moments_add_up = (sound refl, sound refl, sound refl)

-- ---- stresses

abbrev Is : OnAxis → (along along_of across across_of shear shear_of : ℤ) → Type 0
Is t l l_of a a_of s s_of = (t.along ≡ fraction l l_of) × (t.across ≡ fraction a a_of) × (t.shear ≡ fraction s s_of)

slant_at_its_outer_face : Is (stress_at strained slant_inside OuterFace Plus) (pos 105464) (pos 1955) (pos 42396) (pos 1955) (pos 527) (pos 125)
unfolding whole fraction class_of ◌+ℚ◌ ◌-ℚ◌ ◌*ℚ◌ ◌/ℚ◌ opposite inverse on_one on_two of_two reduced_11 reduced_12 reduced_22 reduced_66 cosine sine
slant_at_its_outer_face = (sound refl, sound refl, sound refl)

twin_at_its_inner_face : Is (stress_at strained twin_outside InnerFace Plus) (pos 22964) (pos 975) (pos 17912) (pos 975) (pos 867) (pos 500)
unfolding whole fraction class_of ◌+ℚ◌ ◌-ℚ◌ ◌*ℚ◌ ◌/ℚ◌ opposite inverse on_one on_two of_two reduced_11 reduced_12 reduced_22 reduced_66 cosine sine
twin_at_its_inner_face = (sound refl, sound refl, sound refl)

twin_on_its_minus_side : Is (stress_at strained twin_outside OuterFace Minus) (pos 6356) (pos 195) (pos 2648) (pos 195) (negsuc 92) (pos 100)
unfolding whole fraction class_of ◌+ℚ◌ ◌-ℚ◌ ◌*ℚ◌ ◌/ℚ◌ opposite inverse on_one on_two of_two reduced_11 reduced_12 reduced_22 reduced_66 cosine sine
twin_on_its_minus_side = (sound refl, sound refl, sound refl)

-- ---- the criterion, at the load itself: 0.4216 and 0.3571

slant_stands : tsai_wu thick (stress_at strained slant_inside OuterFace Plus) (whole (pos 1000)) ≡ fraction (pos 8712679891) (pos 20664062500)
unfolding criterion whole fraction class_of ◌+ℚ◌ ◌-ℚ◌ ◌*ℚ◌ ◌/ℚ◌ opposite inverse on_one on_two of_two reduced_11 reduced_12 reduced_22 reduced_66 cosine sine
slant_stands = sound refl

twin_stands : tsai_wu thin (stress_at strained twin_outside InnerFace Plus) (whole (pos 1000)) ≡ fraction (pos 1018402676587) (pos 2851875000000)
unfolding criterion whole fraction class_of ◌+ℚ◌ ◌-ℚ◌ ◌*ℚ◌ ◌/ℚ◌ opposite inverse on_one on_two of_two reduced_11 reduced_12 reduced_22 reduced_66 cosine sine
twin_stands = sound refl

-- ---- bending stiffness, and buckling at 32243.66 N/m in two half waves

bending_stiffness : (stiffness_11 wall ≡ fraction (pos 29951436800000000) (pos 207))
    × (stiffness_12 wall ≡ fraction (pos 691398400000000) (pos 9))
    × (stiffness_22 wall ≡ fraction (pos 342113753600000000) (pos 1989))
    × (stiffness_66 wall ≡ fraction (pos 440244840800000000) (pos 5083))
unfolding whole fraction class_of ◌+ℚ◌ ◌-ℚ◌ ◌*ℚ◌ ◌/ℚ◌ opposite inverse on_one on_two of_two reduced_11 reduced_12 reduced_22 reduced_66 cosine sine
bending_stiffness = (sound refl, sound refl, sound refl, sound refl)

buckles_in_two_waves : (whole (pos 32243) ≤ℚ buckling_load wall long 2) × (buckling_load wall long 2 <ℚ whole (pos 32244))
unfolding whole fraction class_of ◌+ℚ◌ ◌-ℚ◌ ◌*ℚ◌ ◌/ℚ◌ opposite inverse is_at_most on_one on_two of_two reduced_11 reduced_12 reduced_22 reduced_66 cosine sine
buckles_in_two_waves = (record { le = refl }, record { lt = refl })
