use Rattle.std.proofs.Common.{◌∙◌, sym, ap₂, subst₂, ◌^◌, ◌*◌, ◌≤◌, ◌≤ℤ◌}
use Rattle.std.specs.Int.{int_min, int_max}
use Rattle.lam_fraction.specs.numbers.Ends.{reach}
use Rattle.lam_number.proofs.Balls.{ends_in_order}
use Rattle.lam_number.proofs.Casts.{read_narrow, two_ends}
use Rattle.lam_number.specs.inside.BallFacts.{joined-order, joined-room}
use Rattle.lam_number.proofs.ball_arithmetic.joined.Goals as goal

pub between-requires-clause-order : goal.between-requires-clause-order
between-requires-clause-order c =
    let low = c.min.ensures.value ∙ two_ends int_min c.low_end.result c.low_end-2.result (record { sfits = c.low_end.type_inv }) (record { sfits = c.low_end-2.type_inv }) ∙ ap₂ int_min c.low_end.ensures c.low_end-2.ensures in
    let high = c.max.ensures.value ∙ two_ends int_max c.high_end.result c.high_end-2.result (record { sfits = c.high_end.type_inv }) (record { sfits = c.high_end-2.type_inv }) ∙ ap₂ int_max c.high_end.ensures c.high_end-2.ensures in
    subst₂ (λ a b. a ≤ℤ b) (sym (read_narrow c.min.result _ (record { sfits = c.min.type_inv }) low)) (sym (read_narrow c.max.result _ (record { sfits = c.max.type_inv }) high))
    (joined-order _ _ _ _ (ends_in_order c.args.x))

pub between-requires-clause-room : goal.between-requires-clause-room
between-requires-clause-room c =
    let low = c.min.ensures.value ∙ two_ends int_min c.low_end.result c.low_end-2.result (record { sfits = c.low_end.type_inv }) (record { sfits = c.low_end-2.type_inv }) ∙ ap₂ int_min c.low_end.ensures c.low_end-2.ensures in
    let high = c.max.ensures.value ∙ two_ends int_max c.high_end.result c.high_end-2.result (record { sfits = c.high_end.type_inv }) (record { sfits = c.high_end-2.type_inv }) ∙ ap₂ int_max c.high_end.ensures c.high_end-2.ensures in
    subst₂ (λ a b. reach a b ≤ 6 * 2 ^ 60) (sym (read_narrow c.min.result _ (record { sfits = c.min.type_inv }) low)) (sym (read_narrow c.max.result _ (record { sfits = c.max.type_inv }) high))
    (joined-room _ _ _ _ _ c.requires.first c.requires.second)
