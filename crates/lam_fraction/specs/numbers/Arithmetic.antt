-- The operations that a formula is made of, so that one formula serves fractions, enclosures, and what is known of them.
use Rattle.std.specs.Prelude.{ℤ}
use Rattle.lam_fraction.specs.Fraction.{ℚ, whole, fraction, ◌+ℚ◌, ◌-ℚ◌, ◌*ℚ◌, ◌/ℚ◌}

pub record Arithmetic (A : Type 0) : Type 0 where
  -- of a numerator and a denominator
  pub ratio : ℤ → ℤ → A
  pub sum : A → A → A
  pub difference : A → A → A
  pub product : A → A → A
  -- by a whole number
  pub multiple : A → ℤ → A
  -- by a whole number of at least 1
  pub quotient : A → ℤ → A
  pub square : A → A

-- the operations of fractions
abbrev pub exact : Arithmetic ℚ
exact = record {
  ratio = fraction;
  sum = λ x y. x +ℚ y;
  difference = λ x y. x -ℚ y;
  product = λ x y. x *ℚ y;
  multiple = λ x k. x *ℚ whole k;
  quotient = λ x k. x /ℚ whole k;
  square = λ x. x *ℚ x;
}
