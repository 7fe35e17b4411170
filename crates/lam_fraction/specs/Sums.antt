-- Sums over the members of a list.
use Rattle.std.specs.Prelude.{List, [], ◌∷◌, pos}
use Rattle.lam_fraction.specs.Fraction.{ℚ, whole, ◌+ℚ◌}

-- the sum of what `f` gives for each member, with this zero and this addition
abbrev pub sum_by : {A C : Type 0} → C → (C → C → C) → (A → C) → List A → C
sum_by zero plus f [] = zero
sum_by zero plus f (x ∷ xs) = plus (f x) (sum_by zero plus f xs)

-- the sum of the number that `f` gives for each member
abbrev pub sum_over : {A : Type 0} → (A → ℚ) → List A → ℚ
sum_over f xs = sum_by (whole (pos 0)) ◌+ℚ◌ f xs

-- the sum of a list of numbers
abbrev pub total : List ℚ → ℚ
total xs = sum_over (λ x. x) xs
