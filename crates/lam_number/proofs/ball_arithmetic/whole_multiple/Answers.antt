use Rattle.std.proofs.Common.{◌≡◌, ◌∙◌, sym, subst, ◌*◌, ◌^◌, ◌≤◌, pos, neg_ℤ, ◌*ℤ◌, unsigned_abs, FitsSigned, to_z, of_z, arith}
use Rattle.std.specs.Int.{w64}
use Rattle.std.proofs.lemmas.Int.{ints, fits_signed_from_abs}
use Rattle.lam_number.proofs.Balls.{ball_is, bounded_as, end_fits, size_of}
use Rattle.lam_number.proofs.Casts.{read_narrow, two_ends}
use Rattle.lam_number.proofs.Sizes.{times_room}
use Rattle.lam_number.specs.inside.BallFacts.{multiple-ball}
use Rattle.lam_number.proofs.ball_arithmetic.whole_multiple.Goals as goal

pub end_times-requires-clause-room : goal.end_times-requires-clause-room
end_times-requires-clause-room c =
    let x = c.args.x in
    subst (λ n. n ≤ 6 * 2 ^ 60) (sym (two_ends (λ p q. unsigned_abs p * unsigned_abs q) x.middle c.args.k (end_fits x).0 c.ranges.k))
    (times_room _ _ _ _ (omega (arith, size_of x)) c.requires)

pub end_times-requires-2-clause-room : goal.end_times-requires-2-clause-room
end_times-requires-2-clause-room c =
    let x = c.args.x in
    subst (λ n. n ≤ 6 * 2 ^ 60) (sym (two_ends (λ p q. unsigned_abs p * unsigned_abs q) x.radius c.args.k (end_fits x).1 c.ranges.k))
    (times_room _ _ _ _ (omega (arith, size_of x)) c.requires)

pub abs-requires : goal.abs-requires
abs-requires c =
    let x = c.args.x in
    let value = c.end_times-2.ensures ∙ two_ends ◌*ℤ◌ x.radius c.args.k (end_fits x).1 c.ranges.k in
    let read = read_narrow c.end_times-2.result _ (record { sfits = c.end_times-2.type_inv }) value in
    let ball = multiple-ball x.middle x.radius c.args.k x.positive c.requires in
    let small : unsigned_abs (x.radius *ℤ c.args.k) ≤ 7 * 2 ^ 60 = omega (arith, ints, ball.bounded) in
    let size : unsigned_abs (neg_ℤ (x.radius *ℤ c.args.k)) ≡ unsigned_abs (x.radius *ℤ c.args.k) = omega (arith, ints) in
    subst (λ z. FitsSigned w64 (neg_ℤ z)) (sym read) (fits_signed_from_abs w64 _ (omega (arith, small, size)))

pub invariant_of-result-clause-positive : goal.invariant_of-result-clause-positive
invariant_of-result-clause-positive c =
    let x = c.args.x in
    let value = c.end_times-2.ensures ∙ two_ends ◌*ℤ◌ x.radius c.args.k (end_fits x).1 c.ranges.k in
    omega (arith, ints, value, c.abs.ensures.value, (multiple-ball x.middle x.radius c.args.k x.positive c.requires).bounded)

pub invariant_of-result-clause-bounded : goal.invariant_of-result-clause-bounded
invariant_of-result-clause-bounded c =
    let x = c.args.x in
    let first = c.end_times.ensures ∙ two_ends ◌*ℤ◌ x.middle c.args.k (end_fits x).0 c.ranges.k in
    let value = c.end_times-2.ensures ∙ two_ends ◌*ℤ◌ x.radius c.args.k (end_fits x).1 c.ranges.k in
    let ball = multiple-ball x.middle x.radius c.args.k x.positive c.requires in
    let radius : to_z w64 (of_z w64 c.abs.result) ≡ pos (unsigned_abs (x.radius *ℤ c.args.k)) = omega (arith, ints, value, c.abs.ensures.value, ball.bounded) in
    bounded_as _ _ _ _ (read_narrow c.end_times.result _ (record { sfits = c.end_times.type_inv }) first) radius ball.bounded

pub returns : goal.returns
returns c =
    let x = c.args.x in
    let first = c.end_times.ensures ∙ two_ends ◌*ℤ◌ x.middle c.args.k (end_fits x).0 c.ranges.k in
    let value = c.end_times-2.ensures ∙ two_ends ◌*ℤ◌ x.radius c.args.k (end_fits x).1 c.ranges.k in
    ball_is _ _ _ (read_narrow _ _ (record { sfits = c.end_times.type_inv }) first)
    (omega (arith, ints, value, c.abs.ensures.value, (multiple-ball x.middle x.radius c.args.k x.positive c.requires).bounded))
