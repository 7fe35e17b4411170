-- Six numbers whose squares with weights are at most 6 e times their sum: the sum is at most 16 e, and each at most 7.9 e.
-- Twice the squares of the differences from what each is at e are at most 48 e².
use Rattle.std.proofs.Common.{refl, ℤ, pos, ◌-ℤ◌, ◌*ℤ◌, ◌≤ℤ◌, ◌<ℤ◌, arith}
use Rattle.std.proofs.lemmas.Int.{ints}
use Rattle.lam_fraction.proofs.Expression.{Expr, int, ◌⊕◌, ◌⊖◌, ◌⊗◌}
use Rattle.lam_fraction.proofs.Solver.{◌≐◌}
use Rattle.lam_fraction.proofs.Integers.{solve, square, number, positive_number, above, at_most_over, below_root, ◌+ₙ◌, ◌*ₙ◌, ◌*ₚ◌}
use Rattle.lam_solve.specs.declared.six.Six.{Six}
use Rattle.lam_solve.proofs.turns.Sizes.{total, weighed}

-- each of six is at most so large
pub record EachAtMost (most : ℤ) (y : Six ℤ) : Type 0 where
  pub ex : y.ex ≤ℤ most
  pub ey : y.ey ≤ℤ most
  pub g : y.g ≤ℤ most
  pub kx : y.kx ≤ℤ most
  pub ky : y.ky ≤ℤ most
  pub kg : y.kg ≤ℤ most

module _ (y : Six ℤ) (e : ℤ) (some : pos 0 <ℤ e) (bounded : weighed y ≤ℤ (pos 6 *ℤ (e *ℤ total y))) where
  pub total-most : total y ≤ℤ (pos 16 *ℤ e)
  total-most = at_most_over {k = pos 6 *ℤ e} (positive_number 5 *ₚ some)
      (above bounded
      +ₙ (number 6 *ₙ square (y.ex -ℤ e) +ₙ number 6 *ₙ square (y.ey -ℤ e) +ₙ number 3 *ₙ square (y.g -ℤ pos 2 *ℤ e)
      +ₙ number 2 *ₙ square (y.kx -ℤ pos 3 *ℤ e) +ₙ number 2 *ₙ square (y.ky -ℤ pos 3 *ℤ e) +ₙ square (y.kg -ℤ pos 6 *ℤ e)))
      (solve 7 (λ a b c d f g e.
      let s : Expr = a ⊕ b ⊕ c ⊕ d ⊕ f ⊕ g in
      let sq : Expr → Expr = λ x. x ⊗ x in
      let w : Expr = int (pos 6) ⊗ sq a ⊕ int (pos 6) ⊗ sq b ⊕ int (pos 3) ⊗ sq c ⊕ int (pos 2) ⊗ sq d ⊕ int (pos 2) ⊗ sq f ⊕ sq g in
      int (pos 6) ⊗ e ⊗ (int (pos 16) ⊗ e ⊖ s)
      ≐ (int (pos 6) ⊗ (e ⊗ s) ⊖ w)
      ⊕ (int (pos 6) ⊗ sq (a ⊖ e) ⊕ int (pos 6) ⊗ sq (b ⊖ e) ⊕ int (pos 3) ⊗ sq (c ⊖ int (pos 2) ⊗ e)
      ⊕ int (pos 2) ⊗ sq (d ⊖ int (pos 3) ⊗ e) ⊕ int (pos 2) ⊗ sq (f ⊖ int (pos 3) ⊗ e) ⊕ sq (g ⊖ int (pos 6) ⊗ e))) refl
      y.ex y.ey y.g y.kx y.ky y.kg e)

  root-ex : (pos 2 *ℤ y.ex -ℤ e) ≤ℤ (pos 4 *ℤ e)
  root-ex = below_root (pos 2 *ℤ y.ex -ℤ e) (pos 4 *ℤ e) (positive_number 3 *ₚ some)
      (at_most_over {k = pos 3} (positive_number 2)
      (number 0 *ₙ square e
      +ₙ number 1 *ₙ (number 2 *ₙ above bounded
      +ₙ (number 3 *ₙ square (pos 2 *ℤ y.ey -ℤ e) +ₙ number 6 *ₙ square (y.g -ℤ e)
      +ₙ number 1 *ₙ square (pos 2 *ℤ y.kx -ℤ pos 3 *ℤ e) +ₙ number 1 *ₙ square (pos 2 *ℤ y.ky -ℤ pos 3 *ℤ e) +ₙ number 2 *ₙ square (y.kg -ℤ pos 3 *ℤ e))))
      (solve 7 (λ a b c d f g e.
      let s : Expr = a ⊕ b ⊕ c ⊕ d ⊕ f ⊕ g in
      let sq : Expr → Expr = λ x. x ⊗ x in
      let w : Expr = int (pos 6) ⊗ sq a ⊕ int (pos 6) ⊗ sq b ⊕ int (pos 3) ⊗ sq c ⊕ int (pos 2) ⊗ sq d ⊕ int (pos 2) ⊗ sq f ⊕ sq g in
      int (pos 3) ⊗ (sq (int (pos 4) ⊗ e) ⊖ sq (int (pos 2) ⊗ a ⊖ e))
      ≐ int (pos 0) ⊗ sq e
      ⊕ int (pos 1) ⊗ (int (pos 2) ⊗ (int (pos 6) ⊗ (e ⊗ s) ⊖ w)
      ⊕ (int (pos 3) ⊗ sq (int (pos 2) ⊗ b ⊖ e) ⊕ int (pos 6) ⊗ sq (c ⊖ e)
      ⊕ int (pos 1) ⊗ sq (int (pos 2) ⊗ d ⊖ int (pos 3) ⊗ e) ⊕ int (pos 1) ⊗ sq (int (pos 2) ⊗ f ⊖ int (pos 3) ⊗ e) ⊕ int (pos 2) ⊗ sq (g ⊖ int (pos 3) ⊗ e)))) refl
      y.ex y.ey y.g y.kx y.ky y.kg e))

  root-ey : (pos 2 *ℤ y.ey -ℤ e) ≤ℤ (pos 4 *ℤ e)
  root-ey = below_root (pos 2 *ℤ y.ey -ℤ e) (pos 4 *ℤ e) (positive_number 3 *ₚ some)
      (at_most_over {k = pos 3} (positive_number 2)
      (number 0 *ₙ square e
      +ₙ number 1 *ₙ (number 2 *ₙ above bounded
      +ₙ (number 3 *ₙ square (pos 2 *ℤ y.ex -ℤ e) +ₙ number 6 *ₙ square (y.g -ℤ e)
      +ₙ number 1 *ₙ square (pos 2 *ℤ y.kx -ℤ pos 3 *ℤ e) +ₙ number 1 *ₙ square (pos 2 *ℤ y.ky -ℤ pos 3 *ℤ e) +ₙ number 2 *ₙ square (y.kg -ℤ pos 3 *ℤ e))))
      (solve 7 (λ a b c d f g e.
      let s : Expr = a ⊕ b ⊕ c ⊕ d ⊕ f ⊕ g in
      let sq : Expr → Expr = λ x. x ⊗ x in
      let w : Expr = int (pos 6) ⊗ sq a ⊕ int (pos 6) ⊗ sq b ⊕ int (pos 3) ⊗ sq c ⊕ int (pos 2) ⊗ sq d ⊕ int (pos 2) ⊗ sq f ⊕ sq g in
      int (pos 3) ⊗ (sq (int (pos 4) ⊗ e) ⊖ sq (int (pos 2) ⊗ b ⊖ e))
      ≐ int (pos 0) ⊗ sq e
      ⊕ int (pos 1) ⊗ (int (pos 2) ⊗ (int (pos 6) ⊗ (e ⊗ s) ⊖ w)
      ⊕ (int (pos 3) ⊗ sq (int (pos 2) ⊗ a ⊖ e) ⊕ int (pos 6) ⊗ sq (c ⊖ e)
      ⊕ int (pos 1) ⊗ sq (int (pos 2) ⊗ d ⊖ int (pos 3) ⊗ e) ⊕ int (pos 1) ⊗ sq (int (pos 2) ⊗ f ⊖ int (pos 3) ⊗ e) ⊕ int (pos 2) ⊗ sq (g ⊖ int (pos 3) ⊗ e)))) refl
      y.ex y.ey y.g y.kx y.ky y.kg e))

  root-g : (y.g -ℤ e) ≤ℤ (pos 3 *ℤ e)
  root-g = below_root (y.g -ℤ e) (pos 3 *ℤ e) (positive_number 2 *ₚ some)
      (at_most_over {k = pos 6} (positive_number 5)
      (number 6 *ₙ square e
      +ₙ number 1 *ₙ (number 2 *ₙ above bounded
      +ₙ (number 3 *ₙ square (pos 2 *ℤ y.ex -ℤ e) +ₙ number 3 *ₙ square (pos 2 *ℤ y.ey -ℤ e)
      +ₙ number 1 *ₙ square (pos 2 *ℤ y.kx -ℤ pos 3 *ℤ e) +ₙ number 1 *ₙ square (pos 2 *ℤ y.ky -ℤ pos 3 *ℤ e) +ₙ number 2 *ₙ square (y.kg -ℤ pos 3 *ℤ e))))
      (solve 7 (λ a b c d f g e.
      let s : Expr = a ⊕ b ⊕ c ⊕ d ⊕ f ⊕ g in
      let sq : Expr → Expr = λ x. x ⊗ x in
      let w : Expr = int (pos 6) ⊗ sq a ⊕ int (pos 6) ⊗ sq b ⊕ int (pos 3) ⊗ sq c ⊕ int (pos 2) ⊗ sq d ⊕ int (pos 2) ⊗ sq f ⊕ sq g in
      int (pos 6) ⊗ (sq (int (pos 3) ⊗ e) ⊖ sq (c ⊖ e))
      ≐ int (pos 6) ⊗ sq e
      ⊕ int (pos 1) ⊗ (int (pos 2) ⊗ (int (pos 6) ⊗ (e ⊗ s) ⊖ w)
      ⊕ (int (pos 3) ⊗ sq (int (pos 2) ⊗ a ⊖ e) ⊕ int (pos 3) ⊗ sq (int (pos 2) ⊗ b ⊖ e)
      ⊕ int (pos 1) ⊗ sq (int (pos 2) ⊗ d ⊖ int (pos 3) ⊗ e) ⊕ int (pos 1) ⊗ sq (int (pos 2) ⊗ f ⊖ int (pos 3) ⊗ e) ⊕ int (pos 2) ⊗ sq (g ⊖ int (pos 3) ⊗ e)))) refl
      y.ex y.ey y.g y.kx y.ky y.kg e))

  root-kx : (pos 2 *ℤ y.kx -ℤ pos 3 *ℤ e) ≤ℤ (pos 7 *ℤ e)
  root-kx = below_root (pos 2 *ℤ y.kx -ℤ pos 3 *ℤ e) (pos 7 *ℤ e) (positive_number 6 *ₚ some)
      (at_most_over {k = pos 1} (positive_number 0)
      (number 1 *ₙ square e
      +ₙ number 1 *ₙ (number 2 *ₙ above bounded
      +ₙ (number 3 *ₙ square (pos 2 *ℤ y.ex -ℤ e) +ₙ number 3 *ₙ square (pos 2 *ℤ y.ey -ℤ e)
      +ₙ number 6 *ₙ square (y.g -ℤ e) +ₙ number 1 *ₙ square (pos 2 *ℤ y.ky -ℤ pos 3 *ℤ e) +ₙ number 2 *ₙ square (y.kg -ℤ pos 3 *ℤ e))))
      (solve 7 (λ a b c d f g e.
      let s : Expr = a ⊕ b ⊕ c ⊕ d ⊕ f ⊕ g in
      let sq : Expr → Expr = λ x. x ⊗ x in
      let w : Expr = int (pos 6) ⊗ sq a ⊕ int (pos 6) ⊗ sq b ⊕ int (pos 3) ⊗ sq c ⊕ int (pos 2) ⊗ sq d ⊕ int (pos 2) ⊗ sq f ⊕ sq g in
      int (pos 1) ⊗ (sq (int (pos 7) ⊗ e) ⊖ sq (int (pos 2) ⊗ d ⊖ int (pos 3) ⊗ e))
      ≐ int (pos 1) ⊗ sq e
      ⊕ int (pos 1) ⊗ (int (pos 2) ⊗ (int (pos 6) ⊗ (e ⊗ s) ⊖ w)
      ⊕ (int (pos 3) ⊗ sq (int (pos 2) ⊗ a ⊖ e) ⊕ int (pos 3) ⊗ sq (int (pos 2) ⊗ b ⊖ e)
      ⊕ int (pos 6) ⊗ sq (c ⊖ e) ⊕ int (pos 1) ⊗ sq (int (pos 2) ⊗ f ⊖ int (pos 3) ⊗ e) ⊕ int (pos 2) ⊗ sq (g ⊖ int (pos 3) ⊗ e)))) refl
      y.ex y.ey y.g y.kx y.ky y.kg e))

  root-ky : (pos 2 *ℤ y.ky -ℤ pos 3 *ℤ e) ≤ℤ (pos 7 *ℤ e)
  root-ky = below_root (pos 2 *ℤ y.ky -ℤ pos 3 *ℤ e) (pos 7 *ℤ e) (positive_number 6 *ₚ some)
      (at_most_over {k = pos 1} (positive_number 0)
      (number 1 *ₙ square e
      +ₙ number 1 *ₙ (number 2 *ₙ above bounded
      +ₙ (number 3 *ₙ square (pos 2 *ℤ y.ex -ℤ e) +ₙ number 3 *ₙ square (pos 2 *ℤ y.ey -ℤ e)
      +ₙ number 6 *ₙ square (y.g -ℤ e) +ₙ number 1 *ₙ square (pos 2 *ℤ y.kx -ℤ pos 3 *ℤ e) +ₙ number 2 *ₙ square (y.kg -ℤ pos 3 *ℤ e))))
      (solve 7 (λ a b c d f g e.
      let s : Expr = a ⊕ b ⊕ c ⊕ d ⊕ f ⊕ g in
      let sq : Expr → Expr = λ x. x ⊗ x in
      let w : Expr = int (pos 6) ⊗ sq a ⊕ int (pos 6) ⊗ sq b ⊕ int (pos 3) ⊗ sq c ⊕ int (pos 2) ⊗ sq d ⊕ int (pos 2) ⊗ sq f ⊕ sq g in
      int (pos 1) ⊗ (sq (int (pos 7) ⊗ e) ⊖ sq (int (pos 2) ⊗ f ⊖ int (pos 3) ⊗ e))
      ≐ int (pos 1) ⊗ sq e
      ⊕ int (pos 1) ⊗ (int (pos 2) ⊗ (int (pos 6) ⊗ (e ⊗ s) ⊖ w)
      ⊕ (int (pos 3) ⊗ sq (int (pos 2) ⊗ a ⊖ e) ⊕ int (pos 3) ⊗ sq (int (pos 2) ⊗ b ⊖ e)
      ⊕ int (pos 6) ⊗ sq (c ⊖ e) ⊕ int (pos 1) ⊗ sq (int (pos 2) ⊗ d ⊖ int (pos 3) ⊗ e) ⊕ int (pos 2) ⊗ sq (g ⊖ int (pos 3) ⊗ e)))) refl
      y.ex y.ey y.g y.kx y.ky y.kg e))

  root-kg : (pos 10 *ℤ (y.kg -ℤ pos 3 *ℤ e)) ≤ℤ (pos 49 *ℤ e)
  root-kg = below_root (pos 10 *ℤ (y.kg -ℤ pos 3 *ℤ e)) (pos 49 *ℤ e) (positive_number 48 *ₚ some)
      (at_most_over {k = pos 2} (positive_number 1)
      (number 2 *ₙ square e
      +ₙ number 100 *ₙ (number 2 *ₙ above bounded
      +ₙ (number 3 *ₙ square (pos 2 *ℤ y.ex -ℤ e) +ₙ number 3 *ₙ square (pos 2 *ℤ y.ey -ℤ e)
      +ₙ number 6 *ₙ square (y.g -ℤ e) +ₙ number 1 *ₙ square (pos 2 *ℤ y.kx -ℤ pos 3 *ℤ e) +ₙ number 1 *ₙ square (pos 2 *ℤ y.ky -ℤ pos 3 *ℤ e))))
      (solve 7 (λ a b c d f g e.
      let s : Expr = a ⊕ b ⊕ c ⊕ d ⊕ f ⊕ g in
      let sq : Expr → Expr = λ x. x ⊗ x in
      let w : Expr = int (pos 6) ⊗ sq a ⊕ int (pos 6) ⊗ sq b ⊕ int (pos 3) ⊗ sq c ⊕ int (pos 2) ⊗ sq d ⊕ int (pos 2) ⊗ sq f ⊕ sq g in
      int (pos 2) ⊗ (sq (int (pos 49) ⊗ e) ⊖ sq (int (pos 10) ⊗ (g ⊖ int (pos 3) ⊗ e)))
      ≐ int (pos 2) ⊗ sq e
      ⊕ int (pos 100) ⊗ (int (pos 2) ⊗ (int (pos 6) ⊗ (e ⊗ s) ⊖ w)
      ⊕ (int (pos 3) ⊗ sq (int (pos 2) ⊗ a ⊖ e) ⊕ int (pos 3) ⊗ sq (int (pos 2) ⊗ b ⊖ e)
      ⊕ int (pos 6) ⊗ sq (c ⊖ e) ⊕ int (pos 1) ⊗ sq (int (pos 2) ⊗ d ⊖ int (pos 3) ⊗ e) ⊕ int (pos 1) ⊗ sq (int (pos 2) ⊗ f ⊖ int (pos 3) ⊗ e)))) refl
      y.ex y.ey y.g y.kx y.ky y.kg e))

  -- ten times each is at most 79 e
  pub each-most : EachAtMost (pos 79 *ℤ e) (let t : Six ℤ = record { ex = pos 10 *ℤ y.ex; ey = pos 10 *ℤ y.ey; g = pos 10 *ℤ y.g; kx = pos 10 *ℤ y.kx; ky = pos 10 *ℤ y.ky; kg = pos 10 *ℤ y.kg } in t)
  each-most = record {
    ex = omega (arith, ints, root-ex, some);
    ey = omega (arith, ints, root-ey, some);
    g = omega (arith, ints, root-g, some);
    kx = omega (arith, ints, root-kx, some);
    ky = omega (arith, ints, root-ky, some);
    kg = omega (arith, ints, root-kg, some);
  }
