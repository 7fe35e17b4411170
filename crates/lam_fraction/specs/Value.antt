-- The number that a `Frac` stands for, and the numbers that its code cannot hold.
use Rattle.std.specs.Prelude.{ℤ, FitsSigned}
use Rattle.std.specs.Int.{w128}
use Rattle.lam_fraction.specs.declared.Frac.{Frac}
use Rattle.lam_fraction.specs.Fraction.{ℚ, fraction}

abbrev pub value : Frac → ℚ
value f = fraction f.num f.den

-- a whole number that 128 bits do not hold
abbrev pub IsWide : ℤ → Type 0
IsWide z = ¬ FitsSigned w128 z
