-- The numbers that the limits consist of, each once.
use Rattle.std.specs.Prelude.{ℕ, ℤ, pos, negsuc}

-- the items of a catalogue, and of a list of items
abbrev pub most_items : ℕ
most_items = 64

-- how many times the least stiffness floor q0 may be
abbrev pub greatest_spread : ℤ
greatest_spread = pos 512

-- the moduli of elasticity, in MPa
abbrev pub least_modulus : ℤ
least_modulus = pos 1000

abbrev pub greatest_modulus : ℤ
greatest_modulus = pos 400000

-- Poisson's ratio, in thousandths
abbrev pub least_poisson : ℤ
least_poisson = pos 0

abbrev pub greatest_poisson : ℤ
greatest_poisson = pos 999

-- the shear modulus, in MPa
abbrev pub least_shear_modulus : ℤ
least_shear_modulus = pos 500

abbrev pub greatest_shear_modulus : ℤ
greatest_shear_modulus = pos 200000

-- the strengths, in kPa
abbrev pub least_strength : ℤ
least_strength = pos 1000

abbrev pub greatest_strength : ℤ
greatest_strength = pos 5000000

-- the interaction term F12, in 10⁻¹² per MPa²
abbrev pub least_interaction : ℤ
least_interaction = negsuc 999999999999

abbrev pub greatest_interaction : ℤ
greatest_interaction = pos 1000000000000

-- the thickness, in µm
abbrev pub least_thickness : ℤ
least_thickness = pos 50

abbrev pub greatest_thickness : ℤ
greatest_thickness = pos 20000

-- the cost
abbrev pub least_cost : ℤ
least_cost = pos 0

abbrev pub greatest_cost : ℤ
greatest_cost = pos 1000000000

-- how many times one strength may be another along one axis
abbrev pub greatest_ratio : ℤ
greatest_ratio = pos 16

-- F12² 4 Xt Xc Yt Yc, in the units of an item
abbrev pub greatest_cross : ℤ
greatest_cross = pos 3000000000000000000000000000000000000

-- how many times 1000 a strength the stiffness cap may be, all in the units of an item
abbrev pub greatest_slack : ℤ
greatest_slack = pos 16384
