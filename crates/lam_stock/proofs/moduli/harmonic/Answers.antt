use Rattle.std.proofs.Common.{◌≤◌, arith}
use Rattle.std.proofs.lemmas.Int.{ints}
use Rattle.lam_stock.proofs.Quotients.{harmonic-greatest, harmonic-least}
use Rattle.lam_stock.proofs.moduli.harmonic.Goals as goal

pub returns-clause-least : goal.returns-clause-least
returns-clause-least c =
    let a = c.size-e1.result in
    let b = c.size-e2.result in
    let least_a : 1000 ≤ a = omega (arith, ints) in
    let least_b : 1000 ≤ b = omega (arith, ints) in
    omega (arith, ints, harmonic-least a b least_a least_b, harmonic-greatest a b)
