-- The limits on the numbers of an item once more, as tests that decide them, and the first that is broken.
use Rattle.std.specs.Prelude.{Bool, ◌&&◌, if◌then◌else◌, List, [], ◌∷◌, ℤ, pos, ◌*ℤ◌, int_le, Result, Ok, Err}
use Rattle.lam_stock.specs.LimitNumbers.{least_modulus, greatest_modulus, least_poisson, greatest_poisson, least_shear_modulus, greatest_shear_modulus, least_strength, greatest_strength, least_interaction, greatest_interaction, least_thickness, greatest_thickness, least_cost, greatest_cost, greatest_ratio, greatest_cross, greatest_slack}
use Rattle.lam_stock.specs.Moduli.{stiffness_cap}
use Rattle.lam_stock.specs.declared.item.Lamina.{Lamina}
use Rattle.lam_stock.specs.declared.fault.StockCause.{StockCause}
use Rattle.lam_stock.specs.declared.fault.StockCause.TheVariants as cause

-- a number is from low to high
abbrev pub is_between : ℤ → ℤ → ℤ → Bool
is_between low high x = int_le low x && int_le x high

-- the moduli in MPa and the Poisson's ratio in thousandths are in range
abbrev pub moduli_in_range : Lamina → Bool
moduli_in_range l =
    is_between least_modulus greatest_modulus l.e1 && is_between least_modulus greatest_modulus l.e2
    && is_between least_poisson greatest_poisson l.n12 && is_between least_shear_modulus greatest_shear_modulus l.g12

-- a strength in kPa is in range
abbrev pub is_strength : ℤ → Bool
is_strength x = is_between least_strength greatest_strength x

-- the strengths are in range
abbrev pub strengths_in_range : Lamina → Bool
strengths_in_range l = is_strength l.xt && is_strength l.xc && is_strength l.yt && is_strength l.yc && is_strength l.s

-- the interaction term, the thickness in µm and the cost are in range
abbrev pub rest_in_range : Lamina → ℤ → Bool
rest_in_range l cost =
    is_between least_interaction greatest_interaction l.f12 && is_between least_thickness greatest_thickness l.t
    && is_between least_cost greatest_cost cost

-- each number is in range
abbrev pub in_range : Lamina → ℤ → Bool
in_range l cost = moduli_in_range l && strengths_in_range l && rest_in_range l cost

-- the Poisson's ratio is not too great for the moduli: 2 n12² E2 is at most E1, with n12 as a fraction
abbrev pub keeps_poisson : Lamina → Bool
keeps_poisson l = int_le (pos 2 *ℤ (l.n12 *ℤ l.n12) *ℤ l.e2) (pos 1000000 *ℤ l.e1)

-- two strengths are within 1 to 16 either way
abbrev pub is_near : ℤ → ℤ → Bool
is_near a b = int_le a (greatest_ratio *ℤ b) && int_le b (greatest_ratio *ℤ a)

-- the tensile and the compressive strength along each axis are near each other
abbrev pub keeps_ratio : Lamina → Bool
keeps_ratio l = is_near l.xt l.xc && is_near l.yt l.yc

-- the interaction term is not too great for the strengths
abbrev pub keeps_cross : Lamina → Bool
keeps_cross l =
    int_le (pos 4 *ℤ (l.f12 *ℤ l.f12) *ℤ ((l.xt *ℤ l.xc) *ℤ (l.yt *ℤ l.yc))) greatest_cross

-- a strength is not too small for the moduli: 1000 times the greater of 2(E1 + E2) and 2 G12 is at most 16384 times it
abbrev pub has_slack : Lamina → ℤ → Bool
has_slack l strength = int_le (pos 1000 *ℤ stiffness_cap l) (greatest_slack *ℤ strength)

-- no strength is too small for the moduli
abbrev pub keeps_slack : Lamina → Bool
keeps_slack l = has_slack l l.xt && has_slack l l.xc && has_slack l l.yt && has_slack l l.yc && has_slack l l.s

-- the causes that a lamina and its cost are refused for, in their order, each with the test that keeps clear of it
abbrev pub limit_tests : Lamina → ℤ → List (StockCause × Bool)
limit_tests l cost =
    (cause.Range, in_range l cost) ∷ (cause.Poisson, keeps_poisson l) ∷ (cause.Ratio, keeps_ratio l) ∷ (cause.Cross, keeps_cross l)
    ∷ (cause.Slack, keeps_slack l) ∷ []

-- nothing, or the cause of the first test that fails
abbrev pub first_broken : List (StockCause × Bool) → Result (Unit {0}) StockCause
first_broken [] = Ok tt
first_broken (test ∷ rest) = if test.1 then first_broken rest else Err test.0

-- nothing, or the first of the limits that a lamina and its cost break
abbrev pub limits_of : Lamina → ℤ → Result (Unit {0}) StockCause
limits_of l cost = first_broken (limit_tests l cost)
