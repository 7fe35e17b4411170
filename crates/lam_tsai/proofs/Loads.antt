-- The load of a factor: the scale of stiffness times it.
use Rattle.std.proofs.Common.{refl, ◌^◌, ℤ, pos, ◌*ℤ◌, ◌≤ℤ◌, FitsSigned, w64, arith}
use Rattle.std.proofs.lemmas.Int.{ints}
use Rattle.lam_fraction.proofs.Expression.{int, ◌⊖◌, ◌⊗◌}
use Rattle.lam_fraction.proofs.Integers as Z
use Rattle.lam_fraction.proofs.Solver.{◌≐◌}

module _ (q0 r : ℤ) (least : pos 0 ≤ℤ q0) (greatest : q0 ≤ℤ pos 4194304) (from : pos 0 ≤ℤ r) (to : r ≤ℤ pos 20000) where
  pub load-positive : pos 0 ≤ℤ (q0 *ℤ r)
  load-positive = Z.◌*ₙ◌ least from

  pub load-most : (q0 *ℤ r) ≤ℤ (q0 *ℤ pos 20000)
  load-most = Z.at_most (Z.◌*ₙ◌ least (Z.above to)) (Z.solve 2 (λ q r. q ⊗ int (pos 20000) ⊖ q ⊗ r ≐ q ⊗ (int (pos 20000) ⊖ r)) refl q0 r)

  pub load-small : (q0 *ℤ r) ≤ℤ pos (2 ^ 37)
  load-small = omega (arith, ints, load-most, greatest)

  pub load-fits : FitsSigned w64 (q0 *ℤ r)
  load-fits = omega (arith, ints, load-positive, load-small)
