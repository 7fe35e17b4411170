use Rattle.std.proofs.Common.{◌≡◌, refl, ◌∙◌, ap, ap₂, ◌≤◌, pos, ◌+ℤ◌, ◌*ℤ◌, arith}
use Rattle.std.specs.Prelude.{int_le, unsigned_abs}
use Rattle.std.proofs.lemmas.Int.{ints}
use Rattle.lam_fraction.proofs.numbers.Machine.{sizes, is_exact, fits_in_64, fits_in_128, stored-128}
use Rattle.lam_plate.proofs.waves.rises_from.Goals as goal

pub overflow_mul-product-2 : goal.overflow_mul-product-2
overflow_mul-product-2 c =
    let small : unsigned_abs c.from-waves.result ≤ 1903 = omega (arith, ints, c.from-waves.ensures) in
    fits_in_64 (search (sizes, small, c.requires) depth 30 fits 9000) refl

pub overflow_mul-result : goal.overflow_mul-result
overflow_mul-result c =
    let small : unsigned_abs c.from-waves.result ≤ 1903 = omega (arith, ints, c.from-waves.ensures) in
    fits_in_128 (search (sizes, small, c.requires, c.from.ensures, c.wide_product.ensures) depth 30 fits 9000) refl

pub returns : goal.returns
returns c =
    let small : unsigned_abs c.from-waves.result ≤ 1903 = omega (arith, ints, c.from-waves.ensures) in
    let w = c.from-waves.result in
    let bb = c.args.width_square in
    let left : stored-128 (stored-128 c.from.result *ℤ stored-128 c.wide_product.result) ≡ c.args.times *ℤ (c.args.length_square *ℤ c.args.length_square) =
    is_exact (search (sizes, small, c.requires, c.from.ensures, c.wide_product.ensures) depth 30 fits 9000) refl in
    let right : stored-128 c.wide_product-2.result ≡ ((w *ℤ (w +ℤ pos 1)) *ℤ bb) *ℤ ((w *ℤ (w +ℤ pos 1)) *ℤ bb) =
    is_exact (search (sizes, small, c.requires, c.wide_product-2.ensures) depth 30 fits 9000) refl in
    ap₂ int_le left (right ∙ ap (λ w. ((w *ℤ (w +ℤ pos 1)) *ℤ bb) *ℤ ((w *ℤ (w +ℤ pos 1)) *ℤ bb)) c.from-waves.ensures)
