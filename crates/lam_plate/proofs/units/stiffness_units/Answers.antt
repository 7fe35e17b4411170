use Rattle.std.proofs.Common.{refl, sym, subst, pos, ◌≤ℤ◌, ◌*ℤ◌, arith}
use Rattle.std.proofs.lemmas.Int.{ints}
use Rattle.lam_fraction.proofs.numbers.Machine.{sizes, is_exact, fits_in_128}
use Rattle.lam_plate.proofs.ShiftedUnits.{positive-product, most-sized}
use Rattle.lam_plate.proofs.units.stiffness_units.Goals as goal

pub overflow_mul-result : goal.overflow_mul-result
overflow_mul-result c = fits_in_128 (search (sizes, c) depth 30 fits 9000) refl

pub returns-clause-value : goal.returns-clause-value
returns-clause-value c = is_exact (search (sizes, c) depth 30 fits 9000) refl

pub returns-clause-least : goal.returns-clause-least
returns-clause-least c =
    let h = c.args.h in
    let q0 = c.args.q0 in
    subst (λ z. pos 1 ≤ℤ z) (sym (returns-clause-value c))
    (positive-product (pos 110889) ((h *ℤ h) *ℤ (h *ℤ q0)) (omega (arith, ints))
    (positive-product (h *ℤ h) (h *ℤ q0) (positive-product h h c.requires.some_h c.requires.some_h) (positive-product h q0 c.requires.some_h c.requires.some_q0)))

pub returns-clause-most : goal.returns-clause-most
returns-clause-most c = most-sized _ (search (sizes, c) depth 30 fits 9000) refl
