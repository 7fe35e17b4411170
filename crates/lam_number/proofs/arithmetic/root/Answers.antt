use Rattle.lam_number.proofs.FixFacts.{fix_is}
use Rattle.std.proofs.Common.{rules, arith, ap, ◌*◌, ◌^◌, unsigned_abs, FitsSigned}
use Rattle.std.proofs.lemmas.Int.{ints, to_z-of_z}
use Rattle.std.specs.Int.{w64}
use Rattle.lam_fraction.specs.numbers.Rounding.{root_floor}
use Rattle.lam_number.proofs.arithmetic.root.Goals as goal

pub returns : goal.returns
returns g c =
    let high = c.args.x.high in
    let fit : FitsSigned w64 high = search rules in
    let same = ap (λ z. root_floor (unsigned_abs z * 2 ^ g.row.S)) (to_z-of_z w64 high fit) in
    fix_is g.row.S _ _ _ (omega (arith, ints)) (omega (arith, ints, c.scaled_root.ensures.value, c.scaled_root.ensures.bound, same))
