-- A fraction is a pair of whole numbers, a numerator and a denominator above 0 (Pair). ℚ has each fraction
-- once: pairs with equal cross products are one number, so that `≡` is equality of fractions.
use Rattle.std.specs.Prelude.{ℤ, Bool, IsTrue, IsFalse}
pub use Rattle.lam_fraction.specs.Pair.{Fraction, SameFraction, whole_pair, sum_pair, product_pair, opposite_pair, turned_over, inverse_pair, pair_at_most}
use Rattle.lam_fraction.specs.inside.CrossProducts.{sum_same, sum_turned, product_same, product_turned, opposite_same, inverse_same, at_most_same_left, at_most_same_right}
use Rattle.lam_fraction.specs.inside.Quotient.{of_two, on_one, on_two}
use mathlib.Core.Quot.{Quot, mk, Quot-set}
use mathlib.Core.Bool.{Bool-set}

abbrev pub ℚ : Type 0
ℚ = Quot SameFraction

-- an equation of numbers has one proof at most, as a ghost field asks: `by { ℚ-set _ _ }`
pub ℚ-set : IsSet ℚ
ℚ-set = Quot-set

-- the number that a pair stands for
unfoldable pub class_of : Fraction → ℚ
class_of a = mk a

-- a whole number as a fraction
unfoldable pub whole : ℤ → ℚ
whole z = class_of (whole_pair z)

infixl 6 ◌+ℚ◌
unfoldable pub ◌+ℚ◌ : ℚ → ℚ → ℚ
◌+ℚ◌ = on_two sum_pair sum_same sum_turned

infixl 7 ◌*ℚ◌
unfoldable pub ◌*ℚ◌ : ℚ → ℚ → ℚ
◌*ℚ◌ = on_two product_pair product_same product_turned

unfoldable pub opposite : ℚ → ℚ
opposite = on_one opposite_pair opposite_same

infixl 6 ◌-ℚ◌
unfoldable pub ◌-ℚ◌ : ℚ → ℚ → ℚ
x -ℚ y = x +ℚ opposite y

-- 1 over a number; of 0 it is 0
unfoldable pub inverse : ℚ → ℚ
inverse = on_one inverse_pair inverse_same

infixl 7 ◌/ℚ◌
unfoldable pub ◌/ℚ◌ : ℚ → ℚ → ℚ
x /ℚ y = x *ℚ inverse y

-- the number of a numerator and a denominator
unfoldable pub fraction : (num den : ℤ) → ℚ
fraction num den = whole num /ℚ whole den

-- whether the cross products are in order
unfoldable pub is_at_most : ℚ → ℚ → Bool
is_at_most = of_two Bool-set pair_at_most at_most_same_left at_most_same_right

infix 4 ◌≤ℚ◌ ◌<ℚ◌
pub record ◌≤ℚ◌ (x y : ℚ) : Type 0 where
  pub le : IsTrue (is_at_most x y)

pub record ◌<ℚ◌ (x y : ℚ) : Type 0 where
  pub lt : IsFalse (is_at_most y x)
