use Rattle.std.proofs.Common.{arith, ◌∙◌, pos, ◌<ℤ◌, to_z, of_z}
use Rattle.std.specs.Int.{w128}
use Rattle.std.proofs.lemmas.Int.{ints}
use Rattle.lam_fraction.specs.inside.FixedEnds.{ratio_low, ratio_high}
use Rattle.lam_number.proofs.Rounded.{ratio_ordered}
use Rattle.lam_number.proofs.Casts.{order_as, read_narrow, two_wide}
use Rattle.lam_number.proofs.FixFacts.{fix_is}
use Rattle.lam_number.proofs.arithmetic.ratio.Goals as goal

pub invariant_of-result : goal.invariant_of-result
invariant_of-result g c =
    let positive : pos 0 <ℤ to_z w128 (of_z w128 c.args.den) = omega (arith, ints, c.requires.positive) in
    record {
      ordered = order_as _ _ _ _
          (read_narrow _ _ (record { sfits = c.ratio_floor.type_inv }) c.ratio_floor.ensures)
          (read_narrow _ _ (record { sfits = c.ratio_ceil.type_inv }) c.ratio_ceil.ensures)
          (ratio_ordered g.row.S _ _ positive);
    }

pub returns : goal.returns
returns g c =
    fix_is g.row.S _ _ _
    (read_narrow _ _ (record { sfits = c.ratio_floor.type_inv }) c.ratio_floor.ensures ∙ two_wide (ratio_low g.row.S) _ _ c.ranges.num c.ranges.den)
    (read_narrow _ _ (record { sfits = c.ratio_ceil.type_inv }) c.ratio_ceil.ensures ∙ two_wide (ratio_high g.row.S) _ _ c.ranges.num c.ranges.den)
