use Rattle.std.proofs.Common.{refl, sym, ◌∙◌, ap₂, subst, ◌*◌, ◌≤◌}
use Rattle.lam_fraction.specs.numbers.Numbers.{reach, unit}
use Rattle.lam_fraction.proofs.numbers.Machine.{is_exact, sized_stored-128, sized_stored-64, sized_sum, sized_difference, sized_result, sized_at_most, sized_natural-128}
use Rattle.lam_solve.proofs.Machine.{sized_ranged}
use Rattle.lam_solve.proofs.Posed.{room-as}
use Rattle.lam_boxes.proofs.HeldBox.{around-room, around-six, low-room, high-room}
use Rattle.lam_boxes.proofs.around.around.Goals as goal

pub of_ratio-low-requires : goal.of_ratio-low-requires
of_ratio-low-requires g c =
    let laws = g.met.N.Enclosure.laws in
    let n = g.N.Enclosure.numbers in
    let unit-is = is_exact (sized_stored-128 (sized_result c.from-unit.ensures (sized_stored-64 (sized_at_most c.one.ensures.small)))) refl ∙ c.one.ensures.value in
    let centre-size = sized_stored-128 (sized_result c.from-centre.ensures (sized_ranged c.ranges.centre)) in
    let radius-size = sized_natural-128 c.requires.small in
    let low-is = is_exact (sized_stored-128 (sized_difference centre-size radius-size)) refl in
    let high-is = is_exact (sized_stored-128 (sized_sum centre-size radius-size)) refl in
    let room = room-as low-is unit-is (low-room laws c.args.centre c.args.radius c.requires.centre c.requires.radius) in
    record { positive = room.positive; den = room.den; num = room.num; room = room.room }

pub of_ratio-high-requires : goal.of_ratio-high-requires
of_ratio-high-requires g c =
    let laws = g.met.N.Enclosure.laws in
    let n = g.N.Enclosure.numbers in
    let unit-is = is_exact (sized_stored-128 (sized_result c.from-unit.ensures (sized_stored-64 (sized_at_most c.one.ensures.small)))) refl ∙ c.one.ensures.value in
    let centre-size = sized_stored-128 (sized_result c.from-centre.ensures (sized_ranged c.ranges.centre)) in
    let radius-size = sized_natural-128 c.requires.small in
    let low-is = is_exact (sized_stored-128 (sized_difference centre-size radius-size)) refl in
    let high-is = is_exact (sized_stored-128 (sized_sum centre-size radius-size)) refl in
    let room = room-as high-is unit-is (high-room laws c.args.centre c.args.radius c.requires.centre c.requires.radius) in
    record { positive = room.positive; den = room.den; num = room.num; room = room.room }

pub hull-requires-clause-first : goal.hull-requires-clause-first
hull-requires-clause-first g c =
    let laws = g.met.N.Enclosure.laws in
    let n = g.N.Enclosure.numbers in
    let unit-is = is_exact (sized_stored-128 (sized_result c.from-unit.ensures (sized_stored-64 (sized_at_most c.one.ensures.small)))) refl ∙ c.one.ensures.value in
    let centre-size = sized_stored-128 (sized_result c.from-centre.ensures (sized_ranged c.ranges.centre)) in
    let radius-size = sized_natural-128 c.requires.small in
    let low-is = is_exact (sized_stored-128 (sized_difference centre-size radius-size)) refl in
    let high-is = is_exact (sized_stored-128 (sized_sum centre-size radius-size)) refl in
    let first = c.of_ratio-low.ensures ∙ ap₂ n.calc.ratio low-is unit-is in
    let second = c.of_ratio-high.ensures ∙ ap₂ n.calc.ratio high-is unit-is in
    subst (λ z. reach n z ≤ 6 * unit n) (sym first) (around-room laws c.args.centre c.args.radius c.requires.centre c.requires.radius).first

pub hull-requires-clause-second : goal.hull-requires-clause-second
hull-requires-clause-second g c =
    let laws = g.met.N.Enclosure.laws in
    let n = g.N.Enclosure.numbers in
    let unit-is = is_exact (sized_stored-128 (sized_result c.from-unit.ensures (sized_stored-64 (sized_at_most c.one.ensures.small)))) refl ∙ c.one.ensures.value in
    let centre-size = sized_stored-128 (sized_result c.from-centre.ensures (sized_ranged c.ranges.centre)) in
    let radius-size = sized_natural-128 c.requires.small in
    let low-is = is_exact (sized_stored-128 (sized_difference centre-size radius-size)) refl in
    let high-is = is_exact (sized_stored-128 (sized_sum centre-size radius-size)) refl in
    let first = c.of_ratio-low.ensures ∙ ap₂ n.calc.ratio low-is unit-is in
    let second = c.of_ratio-high.ensures ∙ ap₂ n.calc.ratio high-is unit-is in
    subst (λ z. reach n z ≤ 6 * unit n) (sym second) (around-room laws c.args.centre c.args.radius c.requires.centre c.requires.radius).second

pub returns-clause-value : goal.returns-clause-value
returns-clause-value g c =
    let laws = g.met.N.Enclosure.laws in
    let n = g.N.Enclosure.numbers in
    let unit-is = is_exact (sized_stored-128 (sized_result c.from-unit.ensures (sized_stored-64 (sized_at_most c.one.ensures.small)))) refl ∙ c.one.ensures.value in
    let centre-size = sized_stored-128 (sized_result c.from-centre.ensures (sized_ranged c.ranges.centre)) in
    let radius-size = sized_natural-128 c.requires.small in
    let low-is = is_exact (sized_stored-128 (sized_difference centre-size radius-size)) refl in
    let high-is = is_exact (sized_stored-128 (sized_sum centre-size radius-size)) refl in
    let first = c.of_ratio-low.ensures ∙ ap₂ n.calc.ratio low-is unit-is in
    let second = c.of_ratio-high.ensures ∙ ap₂ n.calc.ratio high-is unit-is in
    c.hull.ensures ∙ ap₂ n.hull first second

pub returns-clause-six : goal.returns-clause-six
returns-clause-six g c = subst (λ z. reach g.N.Enclosure.numbers z ≤ 6 * unit g.N.Enclosure.numbers) (sym (returns-clause-value g c)) (around-six g.met.N.Enclosure.laws c.args.centre c.args.radius c.requires.centre c.requires.radius)
