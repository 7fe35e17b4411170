use Rattle.std.proofs.Common.{refl, ◌∙◌, ap, ◌*◌, ◌≤◌, unsigned_abs, arith}
use Rattle.std.proofs.Math.Nat.{mul-le-mul}
use Rattle.std.proofs.lemmas.Int.{ints}
use Rattle.lam_fraction.proofs.numbers.Machine.{is_exact, sized_stored-64, sized_between}
use Rattle.lam_solve.proofs.Radius.{floor-most}
use Rattle.lam_boxes.proofs.InBox.{radius-fits, some-product}
use Rattle.lam_boxes.proofs.residual.radius.Goals as goal

pub overflow_mul-length-2 : goal.overflow_mul-length-2
overflow_mul-length-2 g c =
    let is = c.requires.scale in
    let q0 = c.size.ensures.value ∙ ap unsigned_abs (is_exact (sized_stored-64 (sized_between is.above is.most)) refl) in
    let most = c.size-2.ensures.value ∙ ap unsigned_abs (is_exact (sized_stored-64 (sized_between c.requires.most.least c.requires.most.greatest)) refl) in
    let floor = c.size-3.ensures.value ∙ ap unsigned_abs (is_exact (sized_stored-64 (sized_between is.floor (floor-most is))) refl) in
    let least = c.size-4.ensures.value ∙ ap unsigned_abs (is_exact (sized_stored-64 (sized_between c.requires.least.least c.requires.least.greatest)) refl) in
    let small-q0 : c.size.result ≤ 2097152 = omega (arith, ints, q0, is.above, is.most) in
    let small-most : c.size-2.result ≤ 1280000 = omega (arith, ints, most, c.requires.most.least, c.requires.most.greatest) in
    let h = radius-fits c.size-length.result c.size.result c.size-2.result c.size-length.ensures.bound small-q0 small-most in
    omega (arith, h)

pub quotient_up-requires-clause-over : goal.quotient_up-requires-clause-over
quotient_up-requires-clause-over g c =
    let is = c.requires.scale in
    let q0 = c.size.ensures.value ∙ ap unsigned_abs (is_exact (sized_stored-64 (sized_between is.above is.most)) refl) in
    let most = c.size-2.ensures.value ∙ ap unsigned_abs (is_exact (sized_stored-64 (sized_between c.requires.most.least c.requires.most.greatest)) refl) in
    let floor = c.size-3.ensures.value ∙ ap unsigned_abs (is_exact (sized_stored-64 (sized_between is.floor (floor-most is))) refl) in
    let least = c.size-4.ensures.value ∙ ap unsigned_abs (is_exact (sized_stored-64 (sized_between c.requires.least.least c.requires.least.greatest)) refl) in
    let small-q0 : c.size.result ≤ 2097152 = omega (arith, ints, q0, is.above, is.most) in
    let small-most : c.size-2.result ≤ 1280000 = omega (arith, ints, most, c.requires.most.least, c.requires.most.greatest) in
    some-product c.size-3.result c.size-4.result (omega (arith, ints, floor, is.floor)) (omega (arith, ints, least, c.requires.least.least))

pub quotient_up-requires-clause-room : goal.quotient_up-requires-clause-room
quotient_up-requires-clause-room g c =
    let is = c.requires.scale in
    let q0 = c.size.ensures.value ∙ ap unsigned_abs (is_exact (sized_stored-64 (sized_between is.above is.most)) refl) in
    let most = c.size-2.ensures.value ∙ ap unsigned_abs (is_exact (sized_stored-64 (sized_between c.requires.most.least c.requires.most.greatest)) refl) in
    let floor = c.size-3.ensures.value ∙ ap unsigned_abs (is_exact (sized_stored-64 (sized_between is.floor (floor-most is))) refl) in
    let least = c.size-4.ensures.value ∙ ap unsigned_abs (is_exact (sized_stored-64 (sized_between c.requires.least.least c.requires.least.greatest)) refl) in
    let small-q0 : c.size.result ≤ 2097152 = omega (arith, ints, q0, is.above, is.most) in
    let small-most : c.size-2.result ≤ 1280000 = omega (arith, ints, most, c.requires.most.least, c.requires.most.greatest) in
    let h = radius-fits c.size-length.result c.size.result c.size-2.result c.size-length.ensures.bound small-q0 small-most in
    let small-floor : c.size-3.result ≤ 2097152 = omega (arith, ints, floor, is.floor, floor-most is) in
    let small-least : c.size-4.result ≤ 1280000 = omega (arith, ints, least, c.requires.least.least, c.requires.least.greatest) in
    let under : c.size-3.result * c.size-4.result ≤ 2097152 * 1280000 = mul-le-mul small-floor small-least in
    omega (arith, h, under)
