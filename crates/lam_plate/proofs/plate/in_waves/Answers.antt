use Rattle.std.proofs.Common.{refl, sym, ◌∙◌, ap, ap₂, subst, ◌≤◌, pos, ◌*ℤ◌, ◌≤ℤ◌, arith}
use Rattle.std.specs.Prelude.{unsigned_abs}
use Rattle.std.proofs.lemmas.Int.{ints}
use Rattle.lam_fraction.proofs.numbers.Machine.{sizes, is_exact, fits_in_64}
use Rattle.lam_plate.specs.inside.Formulas as by
use Rattle.lam_plate.proofs.ShiftedUnits.{positive-product, most-sized}
use Rattle.lam_plate.proofs.plate.in_waves.Goals as goal

pub overflow_mul-waves-2 : goal.overflow_mul-waves-2
overflow_mul-waves-2 g c =
    let small : unsigned_abs c.from-waves.result ≤ 1903 = omega (arith, ints, c.from-waves.ensures) in
    fits_in_64 (search (sizes, small, c.requires) depth 30 fits 9000) refl

pub wave_at-requires-clause-some_x : goal.wave_at-requires-clause-some_x
wave_at-requires-clause-some_x g c =
    let small : unsigned_abs c.from-waves.result ≤ 1903 = omega (arith, ints, c.from-waves.ensures) in
    let m : pos 1 ≤ℤ c.from-waves.result = omega (arith, ints, c.from-waves.ensures) in
    let bb : pos 1 ≤ℤ c.args.plate.now.width_square = let w = c.requires.plate.width.least in omega (arith, ints, w) in
    subst (λ z. pos 1 ≤ℤ z) (sym (is_exact (search (sizes, small, c.requires) depth 30 fits 9000) refl))
    (positive-product (c.from-waves.result *ℤ c.from-waves.result) c.args.plate.now.width_square (positive-product c.from-waves.result c.from-waves.result m m) bb)

pub wave_at-requires-clause-few_x : goal.wave_at-requires-clause-few_x
wave_at-requires-clause-few_x g c =
    let small : unsigned_abs c.from-waves.result ≤ 1903 = omega (arith, ints, c.from-waves.ensures) in
    most-sized _ (search (sizes, small, c.requires) depth 30 fits 9000) refl

pub returns : goal.returns
returns g c =
    let small : unsigned_abs c.from-waves.result ≤ 1903 = omega (arith, ints, c.from-waves.ensures) in
    c.wave_at.ensures
    ∙ ap₂ (λ x y. by.wave g.N.Enclosure.numbers.calc c.args.plate.now.bending x y)
    (is_exact (search (sizes, small, c.requires) depth 30 fits 9000) refl ∙ ap (λ w. (w *ℤ w) *ℤ c.args.plate.now.width_square) c.from-waves.ensures)
    (is_exact (search (sizes, c.requires) depth 30 fits 9000) refl)
