use Rattle.std.proofs.Common.{◌≡◌, ◌∙◌, ap, ap₂, pos, neg_ℤ, ◌-ℤ◌, FitsSigned, w64, arith}
use Rattle.std.proofs.lemmas.Int.{ints, to_z-of_z}
use Rattle.lam_fraction.specs.numbers.Numbers.{unit}
use Rattle.lam_fraction.proofs.numbers.Machine.{stored-64}
use Rattle.lam_tsai.proofs.Rounding.{unit-most}
use Rattle.lam_tsai.proofs.loaded.about.Goals as goal

pub overflow_sub-half : goal.overflow_sub-half
overflow_sub-half g c =
    let half = to_z-of_z w64 c.args.half c.ranges.half in
    omega (arith, ints, half, c.requires.half, unit-most g.met.N.Enclosure.laws)

pub returns : goal.returns
returns g c =
    let n = g.N.Enclosure.numbers in
    let half = to_z-of_z w64 c.args.half c.ranges.half in
    let fits : FitsSigned w64 (pos 0 -ℤ stored-64 c.args.half) = omega (arith, ints, half, c.requires.half, unit-most g.met.N.Enclosure.laws) in
    let opposite : pos 0 -ℤ stored-64 c.args.half ≡ neg_ℤ c.args.half = omega (arith, ints, half) in
    let down : stored-64 (pos 0 -ℤ stored-64 c.args.half) ≡ neg_ℤ c.args.half = to_z-of_z w64 (pos 0 -ℤ stored-64 c.args.half) fits ∙ opposite in
    let middle = c.parts.ensures.value ∙ ap (λ z. n.calc.ratio z (pos (unit n))) (to_z-of_z w64 c.args.middle c.ranges.middle) in
    let spread = c.hull.ensures ∙ ap₂ n.hull (c.parts-up.ensures.value ∙ ap (λ z. n.calc.ratio z (pos (unit n))) half) (c.parts-down.ensures.value ∙ ap (λ z. n.calc.ratio z (pos (unit n))) down) in
    λ i. record { middle = middle i; spread = spread i }
