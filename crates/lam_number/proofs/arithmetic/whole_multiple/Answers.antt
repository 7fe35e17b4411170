use Rattle.std.proofs.Common.{rules, ◌*◌, ◌≤◌, ◌^◌, FitsSigned, sym, subst, unsigned_abs, arith}
use Rattle.std.specs.Int.{w64}
use Rattle.std.proofs.lemmas.Int.{ints}
use Rattle.lam_number.proofs.Casts.{two_ends}
use Rattle.lam_fraction.proofs.numbers.Sizes.{low-reach, high-reach}
use Rattle.lam_number.proofs.Sizes.{times_room}
use Rattle.lam_number.proofs.FixFacts.{fix_is}
use Rattle.lam_number.proofs.arithmetic.whole_multiple.Goals as goal

pub end_times-from_low-requires-clause-room : goal.end_times-from_low-requires-clause-room
end_times-from_low-requires-clause-room g c =
    let x = c.args.x in
    let a : FitsSigned w64 x.low = search rules in
    subst (λ n. n ≤ 6 * 2 ^ g.row.S) (sym (two_ends (λ p q. unsigned_abs p * unsigned_abs q) x.low c.args.k a c.ranges.k))
    (times_room _ _ _ _ (low-reach x.low x.high) c.requires.room)

pub end_times-from_high-requires-clause-room : goal.end_times-from_high-requires-clause-room
end_times-from_high-requires-clause-room g c =
    let x = c.args.x in
    let a : FitsSigned w64 x.high = search rules in
    subst (λ n. n ≤ 6 * 2 ^ g.row.S) (sym (two_ends (λ p q. unsigned_abs p * unsigned_abs q) x.high c.args.k a c.ranges.k))
    (times_room _ _ _ _ (high-reach x.low x.high) c.requires.room)

pub invariant_of-result : goal.invariant_of-result
invariant_of-result g c = omega (arith, ints, c.min.ensures.self_bound, c.max.ensures.self_bound)

pub returns : goal.returns
returns g c = fix_is g.row.S _ _ _ (search (rules, c)) (search (rules, c))
