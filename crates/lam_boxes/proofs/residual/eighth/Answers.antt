use Rattle.std.proofs.Common.{refl, sym, ◌∙◌, ap, ap₂, subst, ◌*◌, ◌^◌, ◌≤◌, pos, arith}
use Rattle.lam_fraction.specs.inside.Reaches.{Reaches}
use Rattle.lam_fraction.proofs.numbers.Machine.{is_exact, sized_stored-128, sized_result, sized_natural-128}
use Rattle.lam_solve.proofs.Machine.{sized_ranged}
use Rattle.lam_solve.proofs.Posed.{room-as}
use Rattle.lam_boxes.specs.inside.Parts.{eighth_reach}
use Rattle.lam_boxes.proofs.InBox.{eighth-room, eighth-reaches}
use Rattle.lam_boxes.proofs.residual.eighth.Goals as goal

pub of_ratio-requires : goal.of_ratio-requires
of_ratio-requires g c =
    let small : 8 * c.one_wide-whole.result ≤ 2 ^ 63 = omega (arith, c.one_wide-whole.ensures.small) in
    let den = is_exact (sized_natural-128 small) refl ∙ ap (λ k. pos (8 * k)) c.one_wide-whole.ensures.value in
    let room = room-as (is_exact (sized_stored-128 (sized_result c.from.ensures (sized_ranged c.ranges.strain))) refl) den (eighth-room g.met.N.Enclosure.laws c.args.strain c.requires) in
    record { positive = room.positive; den = room.den; num = room.num; room = room.room }

pub returns-clause-value : goal.returns-clause-value
returns-clause-value g c =
    let small : 8 * c.one_wide-whole.result ≤ 2 ^ 63 = omega (arith, c.one_wide-whole.ensures.small) in
    let den = is_exact (sized_natural-128 small) refl ∙ ap (λ k. pos (8 * k)) c.one_wide-whole.ensures.value in
    c.of_ratio.ensures ∙ ap₂ g.N.Enclosure.numbers.calc.ratio (is_exact (sized_stored-128 (sized_result c.from.ensures (sized_ranged c.ranges.strain))) refl) den

pub returns-clause-reach : goal.returns-clause-reach
returns-clause-reach g c = subst (Reaches g.N.Enclosure.numbers eighth_reach) (sym (returns-clause-value g c)) (eighth-reaches g.met.N.Enclosure.laws c.args.strain c.requires)
