use Rattle.std.proofs.Common.{◌∙◌, sym, ap, subst, pos, ◌≤ℤ◌, unsigned_abs}
use Rattle.lam_fraction.specs.numbers.Rounding.{floor_over}
use Rattle.lam_number.proofs.Balls.{ball_is, bounded_as, end_fits, four_ends}
use Rattle.lam_number.proofs.Casts.{read_narrow, two_ends}
use Rattle.lam_number.specs.inside.BallFacts.{quotient-ball}
use Rattle.lam_number.specs.inside.BallNumbers.{quotient_radius}
use Rattle.lam_number.proofs.ball_arithmetic.whole_quotient.Goals as goal

pub invariant_of-result-clause-positive : goal.invariant_of-result-clause-positive
invariant_of-result-clause-positive c =
    let x = c.args.x in
    let k = c.args.k in
    let middle = c.end_floor-middle.ensures ∙ two_ends (λ p q. floor_over p (unsigned_abs q)) x.middle k (end_fits x).0 c.ranges.k in
    let radius = c.quotient_radius.ensures ∙ four_ends quotient_radius x.middle x.radius k c.end_floor-middle.result (end_fits x).0 (end_fits x).1 c.ranges.k (record { sfits = c.end_floor-middle.type_inv }) ∙ ap (quotient_radius x.middle x.radius k) middle in
    subst (λ z. pos 0 ≤ℤ z) (sym (read_narrow c.quotient_radius.result _ (record { sfits = c.quotient_radius.type_inv }) radius))
    (quotient-ball x.middle x.radius k x.positive x.bounded c.requires).positive

pub invariant_of-result-clause-bounded : goal.invariant_of-result-clause-bounded
invariant_of-result-clause-bounded c =
    let x = c.args.x in
    let k = c.args.k in
    let middle = c.end_floor-middle.ensures ∙ two_ends (λ p q. floor_over p (unsigned_abs q)) x.middle k (end_fits x).0 c.ranges.k in
    let radius = c.quotient_radius.ensures ∙ four_ends quotient_radius x.middle x.radius k c.end_floor-middle.result (end_fits x).0 (end_fits x).1 c.ranges.k (record { sfits = c.end_floor-middle.type_inv }) ∙ ap (quotient_radius x.middle x.radius k) middle in
    bounded_as _ _ _ _ (read_narrow c.end_floor-middle.result _ (record { sfits = c.end_floor-middle.type_inv }) middle)
    (read_narrow c.quotient_radius.result _ (record { sfits = c.quotient_radius.type_inv }) radius)
    (quotient-ball x.middle x.radius k x.positive x.bounded c.requires).bounded

pub returns : goal.returns
returns c =
    let x = c.args.x in
    let k = c.args.k in
    let middle = c.end_floor-middle.ensures ∙ two_ends (λ p q. floor_over p (unsigned_abs q)) x.middle k (end_fits x).0 c.ranges.k in
    let radius = c.quotient_radius.ensures ∙ four_ends quotient_radius x.middle x.radius k c.end_floor-middle.result (end_fits x).0 (end_fits x).1 c.ranges.k (record { sfits = c.end_floor-middle.type_inv }) ∙ ap (quotient_radius x.middle x.radius k) middle in
    ball_is _ _ _ (read_narrow _ _ (record { sfits = c.end_floor-middle.type_inv }) middle) (read_narrow _ _ (record { sfits = c.quotient_radius.type_inv }) radius)
