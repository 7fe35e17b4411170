-- The criterion, the law of a layer and the scale tried on worked numbers that tell each of their parts apart.
use Rattle.std.proofs.Common.{◌≡◌, refl, ℤ, pos, negsuc, List, [], ◌∷◌}
use Rattle.lam_fraction.specs.Fraction.{ℚ, whole, fraction, class_of, ◌+ℚ◌, ◌-ℚ◌, ◌*ℚ◌, ◌/ℚ◌, opposite, inverse, ◌≤ℚ◌, is_at_most}
use Rattle.lam_fraction.specs.inside.Quotient.{of_two, on_one, on_two}
use Rattle.lam_direction.specs.Circle.{CirclePoint}
use Rattle.lam_stock.specs.declared.item.Item.{Item}
use Rattle.lam_stock.specs.declared.item.Kind.TheVariants.{Ply, Pair}
use Rattle.lam_stock.specs.declared.item.Lamina.{Lamina}
use Rattle.lam_stock.specs.PlyLaw.{OffAxis, OnAxis, layer_stress, reduced_11, reduced_12, reduced_22, reduced_66, cosine, sine}
use Rattle.lam_stock.specs.Scale.{scale_of, first_power}
use Rattle.lam_stock.specs.TsaiWu.{criterion}

-- two fractions are the same number
abbrev pub Is : ℚ → ℚ → Type 0
Is a b = (a ≤ℚ b) × (b ≤ℚ a)

-- a lamina each number of which differs from the others
unfoldable pub uneven : Lamina
uneven = record { e1 = pos 40; e2 = pos 10; n12 = pos 1000; g12 = pos 6; xt = pos 2000; xc = pos 1000; yt = pos 500; yc = pos 250; s = pos 400; f12 = negsuc 99999999999; t = pos 1 }

-- ---- the criterion

unfoldable pub stressed : OnAxis
stressed = record { along = whole (pos 1000); across = whole (pos 250); shear = whole (pos 200) }

-- -1/2 - 1/2 + 1/2 + 1/2 + 1/4 - 1/20
pub each_term : Is (criterion uneven stressed) (fraction (pos 1) (pos 5))
unfolding whole fraction class_of ◌+ℚ◌ ◌-ℚ◌ ◌*ℚ◌ ◌/ℚ◌ opposite inverse is_at_most on_one on_two of_two criterion uneven stressed
each_term = (record { le = refl }, record { le = refl })

-- ---- the law of a layer: Q11 = 160/3, Q12 = Q22 = 40/3, Q66 = 6, at the cosine 3/5 and the sine 4/5

unfoldable pub skew : CirclePoint
skew = record { p = pos 3; q = pos 4; h = pos 5 }

unfoldable pub strained : OffAxis
strained = record { x = whole (pos 1); y = whole (pos 2); s = whole (pos 3) }

pub ply_x : Is (layer_stress Ply uneven skew strained).x (fraction (pos 52288) (pos 625))
unfolding whole fraction class_of ◌+ℚ◌ ◌-ℚ◌ ◌*ℚ◌ ◌/ℚ◌ opposite inverse is_at_most on_one on_two of_two reduced_11 reduced_12 reduced_22 reduced_66 cosine sine uneven skew strained
ply_x = (record { le = refl }, record { le = refl })

pub ply_y : Is (layer_stress Ply uneven skew strained).y (fraction (pos 74712) (pos 625))
unfolding whole fraction class_of ◌+ℚ◌ ◌-ℚ◌ ◌*ℚ◌ ◌/ℚ◌ opposite inverse is_at_most on_one on_two of_two reduced_11 reduced_12 reduced_22 reduced_66 cosine sine uneven skew strained
ply_y = (record { le = refl }, record { le = refl })

pub ply_s : Is (layer_stress Ply uneven skew strained).s (fraction (pos 36834) (pos 625))
unfolding whole fraction class_of ◌+ℚ◌ ◌-ℚ◌ ◌*ℚ◌ ◌/ℚ◌ opposite inverse is_at_most on_one on_two of_two reduced_11 reduced_12 reduced_22 reduced_66 cosine sine uneven skew strained
ply_s = (record { le = refl }, record { le = refl })

pub pair_x : Is (layer_stress Pair uneven skew strained).x (fraction (pos 36304) (pos 625))
unfolding whole fraction class_of ◌+ℚ◌ ◌-ℚ◌ ◌*ℚ◌ ◌/ℚ◌ opposite inverse is_at_most on_one on_two of_two reduced_11 reduced_12 reduced_22 reduced_66 cosine sine uneven skew strained
pair_x = (record { le = refl }, record { le = refl })

pub pair_y : Is (layer_stress Pair uneven skew strained).y (fraction (pos 54696) (pos 625))
unfolding whole fraction class_of ◌+ℚ◌ ◌-ℚ◌ ◌*ℚ◌ ◌/ℚ◌ opposite inverse is_at_most on_one on_two of_two reduced_11 reduced_12 reduced_22 reduced_66 cosine sine uneven skew strained
pair_y = (record { le = refl }, record { le = refl })

pub pair_s : Is (layer_stress Pair uneven skew strained).s (fraction (pos 18162) (pos 625))
unfolding whole fraction class_of ◌+ℚ◌ ◌-ℚ◌ ◌*ℚ◌ ◌/ℚ◌ opposite inverse is_at_most on_one on_two of_two reduced_11 reduced_12 reduced_22 reduced_66 cosine sine uneven skew strained
pair_s = (record { le = refl }, record { le = refl })

-- ---- the scale

abbrev pub item_with : ℤ → ℤ → ℤ → Item
item_with e1 e2 g12 = record { name = []; kind = Ply; lamina = record uneven { e1 = e1; e2 = e2; g12 = g12 }; dir = skew; cost = 0 }

-- 2(E1 + E2) = 94,000 of the third, E1 E2 / (E1 + E2) = 1,750 of the first
abbrev pub tank : List Item
tank = item_with (pos 3500) (pos 3500) (pos 1296) ∷ item_with (pos 15000) (pos 15000) (pos 3300) ∷ item_with (pos 38000) (pos 9000) (pos 3400) ∷ []

pub tank_scale : scale_of tank ≡ record { q0 = pos 131072; floor = pos 1750 }
unfolding first_power
tank_scale = refl

-- 2(E1 + E2) = 382,600 of carbon
pub carbon_scale : scale_of (item_with (pos 181000) (pos 10300) (pos 7170) ∷ tank) ≡ record { q0 = pos 524288; floor = pos 1750 }
unfolding first_power
carbon_scale = refl
