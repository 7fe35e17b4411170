use Rattle.std.proofs.Common.{refl, ◌∙◌, pos}
use Rattle.lam_fraction.specs.inside.FixedEnds.{ratio_low}
use Rattle.lam_number.proofs.Balls.{ball_is, bounded_as}
use Rattle.lam_number.proofs.Casts.{read_narrow, two_wide}
use Rattle.lam_number.specs.inside.BallFacts.{ratio-ball}
use Rattle.lam_number.proofs.ball_arithmetic.ratio.Goals as goal

pub invariant_of-result-clause-bounded : goal.invariant_of-result-clause-bounded
invariant_of-result-clause-bounded c =
    let value = c.ratio_floor.ensures ∙ two_wide (ratio_low 60) c.args.num c.args.den c.ranges.num c.ranges.den in
    bounded_as _ _ _ (pos 1) (read_narrow c.ratio_floor.result _ (record { sfits = c.ratio_floor.type_inv }) value) refl
    (ratio-ball c.args.num c.args.den c.requires.positive c.requires.room).bounded

pub returns : goal.returns
returns c =
    let value = c.ratio_floor.ensures ∙ two_wide (ratio_low 60) c.args.num c.args.den c.ranges.num c.ranges.den in
    ball_is _ _ _ (read_narrow _ _ (record { sfits = c.ratio_floor.type_inv }) value) refl
