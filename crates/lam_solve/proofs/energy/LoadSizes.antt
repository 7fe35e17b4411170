-- The forces and moments of a load in range, over 4 h q0 and over h² q0, are at most floor over 4 q0 in size.
use Rattle.std.proofs.Common.{refl, sym, subst, ℤ, pos, neg_ℤ, ◌*ℤ◌, ◌≤ℤ◌, ◌<ℤ◌, arith}
use Rattle.std.proofs.lemmas.Int.{ints}
use Rattle.lam_fraction.specs.Fraction.{fraction, ◌≤ℚ◌}
use Rattle.lam_fraction.specs.inside.WholeNumbers.{product_positive}
use Rattle.lam_fraction.proofs.Expression.{int, ◌⊖◌, ◌⊗◌, minus}
use Rattle.lam_fraction.proofs.Solver.{◌≐◌}
use Rattle.lam_fraction.proofs.Integers.{solve, above, at_most, weaken, number, ◌*ₙ◌}
use Rattle.lam_fraction.proofs.FractionPairs.{fraction-order, fraction-opposite}
use Rattle.lam_job.specs.declared.load.Load.{Load}
use Rattle.lam_job.specs.LoadRange.{LoadInRange, SizeWithin}
use Rattle.lam_wall.specs.MatrixLaw.{load_forces, load_moments}
use Rattle.lam_solve.specs.StrainBounds.{IsWithin, AreWithin}

-- by cross products
within-fractions : (n d a b : ℤ) → pos 0 <ℤ d → pos 0 <ℤ b → (neg_ℤ a *ℤ d) ≤ℤ (n *ℤ b) → (n *ℤ b) ≤ℤ (a *ℤ d) → IsWithin (fraction a b) (fraction n d)
within-fractions n d a b above_d above_b low high = record {
  from = subst (λ s. s ≤ℚ fraction n d) (sym (fraction-opposite a b above_b)) ((fraction-order (neg_ℤ a) b n d above_b above_d).0.1 low);
  to = (fraction-order n d a b above_d above_b).0.1 high;
}

module _ (floor q0 h : ℤ) (scale_above : pos 0 <ℤ q0) (thick : pos 0 <ℤ h) where
  fourth : pos 0 <ℤ (pos 4 *ℤ q0)
  fourth = product_positive (pos 4) q0 (omega (arith, ints)) scale_above

  area : pos 0 <ℤ (h *ℤ q0)
  area = product_positive h q0 thick scale_above

  abbrev unit_force : ℤ
  unit_force = pos 4 *ℤ (h *ℤ q0)

  abbrev unit_moment : ℤ
  unit_moment = h *ℤ (h *ℤ q0)

  force_above : pos 0 <ℤ unit_force
  force_above = product_positive (pos 4) (h *ℤ q0) (omega (arith, ints)) area

  moment_above : pos 0 <ℤ unit_moment
  moment_above = product_positive h (h *ℤ q0) thick area

  scale : pos 0 ≤ℤ q0
  scale = weaken scale_above

  force : (n : ℤ) → SizeWithin (floor *ℤ h) n → IsWithin (fraction floor (pos 4 *ℤ q0)) (fraction n unit_force)
  force n size =
      let low : neg_ℤ (floor *ℤ h) ≤ℤ n = omega (arith, ints, size) in
      let high : n ≤ℤ (floor *ℤ h) = omega (arith, ints, size) in
      within-fractions n unit_force floor (pos 4 *ℤ q0) force_above fourth
      (at_most (number 4 *ₙ scale *ₙ above low) (solve 4 (λ f q h n. n ⊗ (int (pos 4) ⊗ q) ⊖ minus f ⊗ (int (pos 4) ⊗ (h ⊗ q)) ≐ int (pos 4) ⊗ q ⊗ (n ⊖ minus (f ⊗ h))) refl floor q0 h n))
      (at_most (number 4 *ₙ scale *ₙ above high) (solve 4 (λ f q h n. f ⊗ (int (pos 4) ⊗ (h ⊗ q)) ⊖ n ⊗ (int (pos 4) ⊗ q) ≐ int (pos 4) ⊗ q ⊗ (f ⊗ h ⊖ n)) refl floor q0 h n))

  moment : (m : ℤ) → SizeWithin (floor *ℤ (h *ℤ h)) (pos 8000 *ℤ m) → IsWithin (fraction floor (pos 4 *ℤ q0)) (fraction (pos 2000 *ℤ m) unit_moment)
  moment m size =
      let low : neg_ℤ (floor *ℤ (h *ℤ h)) ≤ℤ (pos 8000 *ℤ m) = omega (arith, ints, size) in
      let high : (pos 8000 *ℤ m) ≤ℤ (floor *ℤ (h *ℤ h)) = omega (arith, ints, size) in
      within-fractions (pos 2000 *ℤ m) unit_moment floor (pos 4 *ℤ q0) moment_above fourth
      (at_most (scale *ₙ above low) (solve 4 (λ f q h m. int (pos 2000) ⊗ m ⊗ (int (pos 4) ⊗ q) ⊖ minus f ⊗ (h ⊗ (h ⊗ q)) ≐ q ⊗ (int (pos 8000) ⊗ m ⊖ minus (f ⊗ (h ⊗ h)))) refl floor q0 h m))
      (at_most (scale *ₙ above high) (solve 4 (λ f q h m. f ⊗ (h ⊗ (h ⊗ q)) ⊖ int (pos 2000) ⊗ m ⊗ (int (pos 4) ⊗ q) ≐ q ⊗ (f ⊗ (h ⊗ h) ⊖ int (pos 8000) ⊗ m)) refl floor q0 h m))

  pub forces-within : (load : Load) → LoadInRange floor h load → AreWithin (fraction floor (pos 4 *ℤ q0)) (load_forces q0 h load)
  forces-within load k = record { x = force load.nx k.nx; y = force load.ny k.ny; s = force load.nxy k.nxy }

  pub moments-within : (load : Load) → LoadInRange floor h load → AreWithin (fraction floor (pos 4 *ℤ q0)) (load_moments q0 h load)
  moments-within load k = record { x = moment load.mx k.mx; y = moment load.my k.my; s = moment load.mxy k.mxy }
