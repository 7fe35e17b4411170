-- The limits on the numbers of an item.
use Rattle.std.specs.Prelude.{ℤ, pos, ◌*ℤ◌, ◌≤ℤ◌}
use Rattle.lam_stock.specs.LimitNumbers.{least_modulus, greatest_modulus, least_poisson, greatest_poisson, least_shear_modulus, greatest_shear_modulus, least_strength, greatest_strength, least_interaction, greatest_interaction, least_thickness, greatest_thickness, least_cost as lowest_cost, greatest_cost as highest_cost, greatest_ratio, greatest_cross, greatest_slack}
use Rattle.lam_stock.specs.Moduli.{stiffness_cap}
use Rattle.lam_stock.specs.declared.item.Lamina.{Lamina}

-- the moduli in MPa and the Poisson's ratio in thousandths are in range
pub record ModuliInRange (l : Lamina) : Type 0 where
  pub least_e1 : least_modulus ≤ℤ l.e1
  pub greatest_e1 : l.e1 ≤ℤ greatest_modulus
  pub least_e2 : least_modulus ≤ℤ l.e2
  pub greatest_e2 : l.e2 ≤ℤ greatest_modulus
  pub least_n12 : least_poisson ≤ℤ l.n12
  pub greatest_n12 : l.n12 ≤ℤ greatest_poisson
  pub least_g12 : least_shear_modulus ≤ℤ l.g12
  pub greatest_g12 : l.g12 ≤ℤ greatest_shear_modulus

-- a strength in kPa is in range
pub record IsStrength (x : ℤ) : Type 0 where
  pub least : least_strength ≤ℤ x
  pub greatest : x ≤ℤ greatest_strength

-- the strengths are in range
pub record StrengthsInRange (l : Lamina) : Type 0 where
  pub xt : IsStrength l.xt
  pub xc : IsStrength l.xc
  pub yt : IsStrength l.yt
  pub yc : IsStrength l.yc
  pub s : IsStrength l.s

-- the interaction term, the thickness in µm and the cost are in range
pub record RestInRange (l : Lamina) (cost : ℤ) : Type 0 where
  pub least_f12 : least_interaction ≤ℤ l.f12
  pub greatest_f12 : l.f12 ≤ℤ greatest_interaction
  pub least_t : least_thickness ≤ℤ l.t
  pub greatest_t : l.t ≤ℤ greatest_thickness
  pub least_cost : lowest_cost ≤ℤ cost
  pub greatest_cost : cost ≤ℤ highest_cost

-- each number is in range
pub record NumbersInRange (l : Lamina) (cost : ℤ) : Type 0 where
  pub moduli : ModuliInRange l
  pub strengths : StrengthsInRange l
  pub rest : RestInRange l cost

-- the Poisson's ratio is not too great for the moduli: 2 n12² E2 is at most E1, with n12 as a fraction
pub record KeepsPoisson (l : Lamina) : Type 0 where
  pub kept : (pos 2 *ℤ (l.n12 *ℤ l.n12) *ℤ l.e2) ≤ℤ (pos 1000000 *ℤ l.e1)

-- two strengths are within 1 to 16 either way
pub record AreWithinSixteen (a b : ℤ) : Type 0 where
  pub first : a ≤ℤ (greatest_ratio *ℤ b)
  pub second : b ≤ℤ (greatest_ratio *ℤ a)

-- the tensile and the compressive strength along each axis are near each other
pub record KeepsRatio (l : Lamina) : Type 0 where
  pub along : AreWithinSixteen l.xt l.xc
  pub across : AreWithinSixteen l.yt l.yc

-- the interaction term is not too great for the strengths
pub record KeepsCross (l : Lamina) : Type 0 where
  pub kept : (pos 4 *ℤ (l.f12 *ℤ l.f12) *ℤ ((l.xt *ℤ l.xc) *ℤ (l.yt *ℤ l.yc))) ≤ℤ greatest_cross

-- the limits on the strengths and the interaction term alone
pub record KeepsStrengths (l : Lamina) : Type 0 where
  pub range : StrengthsInRange l
  pub ratio : KeepsRatio l
  pub cross : KeepsCross l

-- a strength is not too small for the moduli: 1000 times the greater of 2(E1 + E2) and 2 G12 is at most 16384 times it
pub record HasSlack (l : Lamina) (strength : ℤ) : Type 0 where
  pub kept : (pos 1000 *ℤ stiffness_cap l) ≤ℤ (greatest_slack *ℤ strength)

-- no strength is too small for the moduli
pub record KeepsSlack (l : Lamina) : Type 0 where
  pub xt : HasSlack l l.xt
  pub xc : HasSlack l l.xc
  pub yt : HasSlack l l.yt
  pub yc : HasSlack l l.yc
  pub s : HasSlack l l.s

-- a lamina and its cost keep every limit
pub record KeepsLimits (l : Lamina) (cost : ℤ) : Type 0 where
  pub range : NumbersInRange l cost
  pub poisson : KeepsPoisson l
  pub ratio : KeepsRatio l
  pub cross : KeepsCross l
  pub slack : KeepsSlack l
