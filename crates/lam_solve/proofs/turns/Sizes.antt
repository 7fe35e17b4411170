-- Six whole numbers: their sizes, the sum of these, and the sum of their squares with weights.
use Rattle.std.proofs.Common.{◌≡◌, refl, ◌∙◌, ap₂, ◌⊎◌, inl, inr, ℤ, pos, neg_ℤ, ◌+ℤ◌, ◌-ℤ◌, ◌*ℤ◌, ◌≤ℤ◌, unsigned_abs, arith}
use Rattle.std.proofs.lemmas.Int.{ints}
use Rattle.lam_fraction.proofs.Expression.{Expr, int, ◌⊕◌, ◌⊖◌, ◌⊗◌, minus}
use Rattle.lam_fraction.proofs.Solver.{◌≐◌}
use Rattle.lam_fraction.proofs.Integers.{solve, square, number, positive_number, at_most, at_most_over, ◌+ₙ◌, ◌*ₙ◌}
use Rattle.lam_solve.specs.declared.six.Six.{Six}
use Rattle.lam_solve.specs.inside.Turns.{work}

abbrev pub size_of : ℤ → ℤ
size_of z = pos (unsigned_abs z)

abbrev pub sizes : Six ℤ → Six ℤ
sizes y = record { ex = size_of y.ex; ey = size_of y.ey; g = size_of y.g; kx = size_of y.kx; ky = size_of y.ky; kg = size_of y.kg }

abbrev pub total : Six ℤ → ℤ
total y = y.ex +ℤ y.ey +ℤ y.g +ℤ y.kx +ℤ y.ky +ℤ y.kg

-- six times the mean squares
abbrev pub weighed : Six ℤ → ℤ
weighed y =
    pos 6 *ℤ (y.ex *ℤ y.ex) +ℤ pos 6 *ℤ (y.ey *ℤ y.ey) +ℤ pos 3 *ℤ (y.g *ℤ y.g)
    +ℤ pos 2 *ℤ (y.kx *ℤ y.kx) +ℤ pos 2 *ℤ (y.ky *ℤ y.ky) +ℤ y.kg *ℤ y.kg

abbrev pub plus : Six ℤ → Six ℤ → Six ℤ
plus y z = record { ex = y.ex +ℤ z.ex; ey = y.ey +ℤ z.ey; g = y.g +ℤ z.g; kx = y.kx +ℤ z.kx; ky = y.ky +ℤ z.ky; kg = y.kg +ℤ z.kg }

abbrev pub less : Six ℤ → Six ℤ → Six ℤ
less y z = record { ex = y.ex -ℤ z.ex; ey = y.ey -ℤ z.ey; g = y.g -ℤ z.g; kx = y.kx -ℤ z.kx; ky = y.ky -ℤ z.ky; kg = y.kg -ℤ z.kg }

-- ---- squares

pub squares-above : (y : Six ℤ) → pos 0 ≤ℤ work y y
squares-above y = square y.ex +ₙ square y.ey +ₙ square y.g +ₙ square y.kx +ₙ square y.ky +ₙ square y.kg

pub weighed-above : (y : Six ℤ) → pos 0 ≤ℤ weighed y
weighed-above y =
    number 6 *ₙ square y.ex +ₙ number 6 *ₙ square y.ey +ₙ number 3 *ₙ square y.g
    +ₙ number 2 *ₙ square y.kx +ₙ number 2 *ₙ square y.ky +ₙ square y.kg

pub squares-weighed : (y : Six ℤ) → work y y ≤ℤ weighed y
squares-weighed y = at_most
    (number 5 *ₙ square y.ex +ₙ number 5 *ₙ square y.ey +ₙ number 2 *ₙ square y.g +ₙ number 1 *ₙ square y.kx +ₙ number 1 *ₙ square y.ky)
    (solve 6 (λ a b c d e f.
    (int (pos 6) ⊗ (a ⊗ a) ⊕ int (pos 6) ⊗ (b ⊗ b) ⊕ int (pos 3) ⊗ (c ⊗ c) ⊕ int (pos 2) ⊗ (d ⊗ d) ⊕ int (pos 2) ⊗ (e ⊗ e) ⊕ f ⊗ f)
    ⊖ (a ⊗ a ⊕ b ⊗ b ⊕ c ⊗ c ⊕ d ⊗ d ⊕ e ⊗ e ⊕ f ⊗ f)
    ≐ int (pos 5) ⊗ (a ⊗ a) ⊕ int (pos 5) ⊗ (b ⊗ b) ⊕ int (pos 2) ⊗ (c ⊗ c) ⊕ int (pos 1) ⊗ (d ⊗ d) ⊕ int (pos 1) ⊗ (e ⊗ e)) refl
    y.ex y.ey y.g y.kx y.ky y.kg)

pub weighed-squares : (y : Six ℤ) → weighed y ≤ℤ (pos 6 *ℤ work y y)
weighed-squares y = at_most
    (number 3 *ₙ square y.g +ₙ number 4 *ₙ square y.kx +ₙ number 4 *ₙ square y.ky +ₙ number 5 *ₙ square y.kg)
    (solve 6 (λ a b c d e f.
    int (pos 6) ⊗ (a ⊗ a ⊕ b ⊗ b ⊕ c ⊗ c ⊕ d ⊗ d ⊕ e ⊗ e ⊕ f ⊗ f)
    ⊖ (int (pos 6) ⊗ (a ⊗ a) ⊕ int (pos 6) ⊗ (b ⊗ b) ⊕ int (pos 3) ⊗ (c ⊗ c) ⊕ int (pos 2) ⊗ (d ⊗ d) ⊕ int (pos 2) ⊗ (e ⊗ e) ⊕ f ⊗ f)
    ≐ int (pos 3) ⊗ (c ⊗ c) ⊕ int (pos 4) ⊗ (d ⊗ d) ⊕ int (pos 4) ⊗ (e ⊗ e) ⊕ int (pos 5) ⊗ (f ⊗ f)) refl
    y.ex y.ey y.g y.kx y.ky y.kg)

-- the square of the sum is at most 8/3 of the squares with weights
pub total-square : (y : Six ℤ) → (pos 3 *ℤ (total y *ℤ total y)) ≤ℤ (pos 8 *ℤ weighed y)
total-square y = at_most_over {k = pos 32} (positive_number 31)
    (number 6 *ₙ square (pos 16 *ℤ y.ex -ℤ total y) +ₙ number 6 *ₙ square (pos 16 *ℤ y.ey -ℤ total y)
    +ₙ number 3 *ₙ square (pos 16 *ℤ y.g -ℤ pos 2 *ℤ total y) +ₙ number 2 *ₙ square (pos 16 *ℤ y.kx -ℤ pos 3 *ℤ total y)
    +ₙ number 2 *ₙ square (pos 16 *ℤ y.ky -ℤ pos 3 *ℤ total y) +ₙ square (pos 16 *ℤ y.kg -ℤ pos 6 *ℤ total y))
    (solve 6 (λ a b c d e f.
    let s : Expr = a ⊕ b ⊕ c ⊕ d ⊕ e ⊕ f in
    let sq : Expr → Expr = λ x. x ⊗ x in
    int (pos 32) ⊗ (int (pos 8) ⊗ (int (pos 6) ⊗ sq a ⊕ int (pos 6) ⊗ sq b ⊕ int (pos 3) ⊗ sq c ⊕ int (pos 2) ⊗ sq d ⊕ int (pos 2) ⊗ sq e ⊕ sq f) ⊖ int (pos 3) ⊗ sq s)
    ≐ int (pos 6) ⊗ sq (int (pos 16) ⊗ a ⊖ s) ⊕ int (pos 6) ⊗ sq (int (pos 16) ⊗ b ⊖ s)
    ⊕ int (pos 3) ⊗ sq (int (pos 16) ⊗ c ⊖ int (pos 2) ⊗ s) ⊕ int (pos 2) ⊗ sq (int (pos 16) ⊗ d ⊖ int (pos 3) ⊗ s)
    ⊕ int (pos 2) ⊗ sq (int (pos 16) ⊗ e ⊖ int (pos 3) ⊗ s) ⊕ sq (int (pos 16) ⊗ f ⊖ int (pos 6) ⊗ s)) refl
    y.ex y.ey y.g y.kx y.ky y.kg)

-- ---- sizes

size_cases : (z : ℤ) → (size_of z ≡ z) ⊎ (size_of z ≡ neg_ℤ z)
size_cases z = grind (arith, ints)

pub size_square : (z : ℤ) → size_of z *ℤ size_of z ≡ z *ℤ z
size_square z = elim (size_cases z) [
  | inl e ↦ ap₂ ◌*ℤ◌ e e
  | inr e ↦ ap₂ ◌*ℤ◌ e e ∙ solve 1 (λ z. minus z ⊗ minus z ≐ z ⊗ z) refl z
]

pub sizes-weighed : (y : Six ℤ) → weighed (sizes y) ≡ weighed y
sizes-weighed y = λ i.
    pos 6 *ℤ size_square y.ex i +ℤ pos 6 *ℤ size_square y.ey i +ℤ pos 3 *ℤ size_square y.g i
    +ℤ pos 2 *ℤ size_square y.kx i +ℤ pos 2 *ℤ size_square y.ky i +ℤ size_square y.kg i

pub size-above : (z : ℤ) → pos 0 ≤ℤ size_of z
size-above z = omega (arith, ints)

pub size-from : (z : ℤ) → neg_ℤ (size_of z) ≤ℤ z
size-from z = omega (arith, ints)

pub size-to : (z : ℤ) → z ≤ℤ size_of z
size-to z = omega (arith, ints)
