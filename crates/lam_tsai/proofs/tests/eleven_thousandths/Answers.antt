use Rattle.std.proofs.Common.{◌≡◌, rules, sym, subst, ◌*◌, ◌^◌, ◌≤◌, pos, arith}
use Rattle.std.specs.Prelude.{unsigned_abs}
use Rattle.std.proofs.lemmas.Int.{ints}
use Rattle.lam_fraction.specs.numbers.Numbers.{RatioRoom, reach, unit}
use Rattle.lam_fraction.proofs.numbers.Rooms.{reach_within, reaches_ratio_at}
use Rattle.lam_tsai.proofs.tests.eleven_thousandths.Goals as goal

pub returns : goal.returns
returns g c =
    let n = g.N.Enclosure.numbers in
    let laws = g.met.N.Enclosure.laws in
    let z = c.args.number in
    let value : c.of_ratio.result ≡ n.calc.ratio z (pos 11000) = search rules in
    let small : unsigned_abs z ≤ 32768 = omega (arith, ints, c.ranges.number) in
    let room : RatioRoom z (pos 11000) = record { positive = omega (arith, ints); den = omega (arith, ints); num = omega (arith, small); room = omega (arith, ints, small) } in
    let size : unsigned_abs z * 2 ^ 28 ≤ (4 * 2 ^ 28) * unsigned_abs (pos 11000) = omega (arith, ints, small) in
    subst (λ x. reach n x ≤ 6 * unit n) (sym value) (reach_within laws (reaches_ratio_at laws (4 * 2 ^ 28) z (pos 11000) room size) (omega arith))
