use Rattle.std.proofs.Common.{refl, sym, ◌∙◌, ap, subst, pos, ◌*◌, ◌^◌, ◌≤ℤ◌, ◌<ℤ◌}
use Rattle.lam_fraction.proofs.numbers.Machine.{sizes, is_exact, fits_in_128}
use Rattle.lam_number.proofs.Casts.{read_narrow}
use Rattle.lam_plate.specs.inside.Formulas as by
use Rattle.lam_plate.proofs.ShiftedUnits.{product-not_negative, factor-held}
use Rattle.lam_plate.proofs.plate.load_at.Goals as goal

pub overflow_mul-from : goal.overflow_mul-from
overflow_mul-from g c = fits_in_128 (search (sizes, c) depth 30 fits 9000) refl

pub shifted-requires-clause-least : goal.shifted-requires-clause-least
shifted-requires-clause-least g c =
    subst (λ z. pos 0 ≤ℤ z) (sym (is_exact (search (sizes, c) depth 30 fits 9000) refl))
    (product-not_negative c.args.factor c.args.plate.now.load c.requires.least c.requires.plate.least_load)

pub shifted-requires-clause-most : goal.shifted-requires-clause-most
shifted-requires-clause-most g c =
    subst (λ z. z <ℤ pos (2 ^ 62 * 2 ^ c.args.plate.now.shift)) (sym (is_exact (search (sizes, c) depth 30 fits 9000) refl))
    (factor-held c.args.factor c.args.plate.now.load _ c.requires.most c.requires.plate.least_load c.requires.plate.shifted_load)

pub returns-clause-value : goal.returns-clause-value
returns-clause-value g c =
    read_narrow _ _ (record { sfits = c.shifted.type_inv })
    (c.shifted.ensures.value ∙ ap (λ z. by.shifted z c.args.plate.now.shift) (is_exact (search (sizes, c) depth 30 fits 9000) refl))
