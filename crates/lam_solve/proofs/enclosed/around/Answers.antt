use Rattle.std.proofs.Common.{refl, sym, ◌∙◌, ap₂, subst, ◌*◌, ◌≤◌}
use Rattle.std.proofs.lemmas.Int.{to_z-of_z}
use Rattle.std.specs.Int.{w128}
use Rattle.lam_fraction.specs.numbers.Numbers.{reach, unit}
use Rattle.lam_fraction.proofs.numbers.Machine.{is_exact, sized_stored-128, sized_stored-64, sized_sum, sized_difference, sized_result, sized_at_most, sized_natural-128}
use Rattle.lam_solve.specs.Solutions.{IsShort}
use Rattle.lam_solve.specs.inside.Steps.{cut}
use Rattle.lam_solve.proofs.Around.{around-room, around-short}
use Rattle.lam_solve.proofs.Machine.{stored, sized_ranged}
use Rattle.lam_solve.proofs.enclosed.around.Goals as goal

pub hull-requires-clause-first : goal.hull-requires-clause-first
hull-requires-clause-first g c =
    let n = g.N.Enclosure.numbers in
    let unit-is = is_exact (sized_stored-128 (sized_result c.from-unit.ensures (sized_stored-64 (sized_at_most c.one.ensures.small)))) refl ∙ c.one.ensures.value in
    let most-is = is_exact (stored c.five_halves-most.ensures.small) refl ∙ c.five_halves-most.ensures.value in
    let centre-size = sized_stored-128 (sized_result c.from-centre.ensures (sized_ranged c.ranges.centre)) in
    let radius-size = sized_natural-128 c.requires in
    let low-is = to_z-of_z w128 c.cut_wide.result (record { sfits = c.cut_wide.type_inv }) ∙ c.cut_wide.ensures.value ∙ ap₂ cut most-is (is_exact (sized_stored-128 (sized_difference centre-size radius-size)) refl) in
    let high-is = to_z-of_z w128 c.cut_wide-2.result (record { sfits = c.cut_wide-2.type_inv }) ∙ c.cut_wide-2.ensures.value ∙ ap₂ cut most-is (is_exact (sized_stored-128 (sized_sum centre-size radius-size)) refl) in
    let first = c.of_ratio-low.ensures ∙ ap₂ n.calc.ratio low-is unit-is in
    let second = c.of_ratio-high.ensures ∙ ap₂ n.calc.ratio high-is unit-is in
    subst (λ z. reach n z ≤ 6 * unit n) (sym first) (around-room g.met.N.Enclosure.laws c.args.centre c.args.radius).first

pub hull-requires-clause-second : goal.hull-requires-clause-second
hull-requires-clause-second g c =
    let n = g.N.Enclosure.numbers in
    let unit-is = is_exact (sized_stored-128 (sized_result c.from-unit.ensures (sized_stored-64 (sized_at_most c.one.ensures.small)))) refl ∙ c.one.ensures.value in
    let most-is = is_exact (stored c.five_halves-most.ensures.small) refl ∙ c.five_halves-most.ensures.value in
    let centre-size = sized_stored-128 (sized_result c.from-centre.ensures (sized_ranged c.ranges.centre)) in
    let radius-size = sized_natural-128 c.requires in
    let low-is = to_z-of_z w128 c.cut_wide.result (record { sfits = c.cut_wide.type_inv }) ∙ c.cut_wide.ensures.value ∙ ap₂ cut most-is (is_exact (sized_stored-128 (sized_difference centre-size radius-size)) refl) in
    let high-is = to_z-of_z w128 c.cut_wide-2.result (record { sfits = c.cut_wide-2.type_inv }) ∙ c.cut_wide-2.ensures.value ∙ ap₂ cut most-is (is_exact (sized_stored-128 (sized_sum centre-size radius-size)) refl) in
    let first = c.of_ratio-low.ensures ∙ ap₂ n.calc.ratio low-is unit-is in
    let second = c.of_ratio-high.ensures ∙ ap₂ n.calc.ratio high-is unit-is in
    subst (λ z. reach n z ≤ 6 * unit n) (sym second) (around-room g.met.N.Enclosure.laws c.args.centre c.args.radius).second

pub returns-clause-value : goal.returns-clause-value
returns-clause-value g c =
    let n = g.N.Enclosure.numbers in
    let unit-is = is_exact (sized_stored-128 (sized_result c.from-unit.ensures (sized_stored-64 (sized_at_most c.one.ensures.small)))) refl ∙ c.one.ensures.value in
    let most-is = is_exact (stored c.five_halves-most.ensures.small) refl ∙ c.five_halves-most.ensures.value in
    let centre-size = sized_stored-128 (sized_result c.from-centre.ensures (sized_ranged c.ranges.centre)) in
    let radius-size = sized_natural-128 c.requires in
    let low-is = to_z-of_z w128 c.cut_wide.result (record { sfits = c.cut_wide.type_inv }) ∙ c.cut_wide.ensures.value ∙ ap₂ cut most-is (is_exact (sized_stored-128 (sized_difference centre-size radius-size)) refl) in
    let high-is = to_z-of_z w128 c.cut_wide-2.result (record { sfits = c.cut_wide-2.type_inv }) ∙ c.cut_wide-2.ensures.value ∙ ap₂ cut most-is (is_exact (sized_stored-128 (sized_sum centre-size radius-size)) refl) in
    let first = c.of_ratio-low.ensures ∙ ap₂ n.calc.ratio low-is unit-is in
    let second = c.of_ratio-high.ensures ∙ ap₂ n.calc.ratio high-is unit-is in
    c.hull.ensures ∙ ap₂ n.hull first second

pub returns-clause-short : goal.returns-clause-short
returns-clause-short g c = subst (IsShort g.N.Enclosure.numbers) (sym (returns-clause-value g c)) (around-short g.met.N.Enclosure.laws c.args.centre c.args.radius)
