use Rattle.std.proofs.Common.{rules, arith, ◌∙◌, unsigned_abs, FitsSigned, pos, ◌≤ℤ◌, to_z, of_z}
use Rattle.std.specs.Int.{w64}
use Rattle.std.proofs.lemmas.Int.{ints}
use Rattle.lam_fraction.specs.numbers.Rounding.{floor_over, ceil_over}
use Rattle.lam_number.proofs.Rounded.{quotient_ordered}
use Rattle.lam_number.proofs.Casts.{order_as, read_narrow, two_ends}
use Rattle.lam_number.proofs.FixFacts.{fix_is}
use Rattle.lam_number.proofs.arithmetic.whole_quotient.Goals as goal

pub invariant_of-result : goal.invariant_of-result
invariant_of-result g c =
    let x = c.args.x in
    let order : to_z w64 (of_z w64 x.low) ≤ℤ to_z w64 (of_z w64 x.high) = omega (arith, ints, x.ordered) in
    let positive : pos 1 ≤ℤ to_z w64 (of_z w64 c.args.k) = omega (arith, ints, c.requires) in
    record {
      ordered = order_as _ _ _ _
          (read_narrow _ _ (record { sfits = c.end_floor.type_inv }) c.end_floor.ensures)
          (read_narrow _ _ (record { sfits = c.end_ceil.type_inv }) c.end_ceil.ensures)
          (quotient_ordered _ _ _ order positive);
    }

pub returns : goal.returns
returns g c =
    let x = c.args.x in
    let a : FitsSigned w64 x.low = search rules in
    let b : FitsSigned w64 x.high = search rules in
    fix_is g.row.S _ _ _
    (read_narrow _ _ (record { sfits = c.end_floor.type_inv }) c.end_floor.ensures ∙ two_ends (λ p q. floor_over p (unsigned_abs q)) x.low c.args.k a c.ranges.k)
    (read_narrow _ _ (record { sfits = c.end_ceil.type_inv }) c.end_ceil.ensures ∙ two_ends (λ p q. ceil_over p (unsigned_abs q)) x.high c.args.k b c.ranges.k)
