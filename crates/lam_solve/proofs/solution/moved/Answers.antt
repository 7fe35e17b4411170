use Rattle.std.proofs.Common.{refl, ◌∙◌, ap, ap₂, ◌+ℤ◌}
use Rattle.std.proofs.lemmas.Int.{to_z-of_z}
use Rattle.std.specs.Int.{w64}
use Rattle.lam_fraction.proofs.numbers.Machine.{is_exact, sized_stored-128, sized_stored-64, sized_sum, sized_result, sized_at_most}
use Rattle.lam_solve.specs.inside.Steps.{cut}
use Rattle.lam_solve.proofs.Machine.{stored, sized_ranged}
use Rattle.lam_solve.proofs.solution.moved.Goals as goal

pub returns-clause-value : goal.returns-clause-value
returns-clause-value g c =
    let most = is_exact (sized_stored-64 (sized_at_most c.four-most.ensures.small)) refl ∙ c.four-most.ensures.value in
    let sum = is_exact (sized_stored-128 (sized_sum (sized_stored-128 (sized_result c.from-component.ensures (sized_ranged c.ranges.component))) (stored c.middle-middle.ensures.small))) refl ∙ ap (λ z. c.args.component +ℤ z) c.middle-middle.ensures.value in
    to_z-of_z w64 c.cut_narrow.result (record { sfits = c.cut_narrow.type_inv }) ∙ c.cut_narrow.ensures.value ∙ ap₂ cut most sum
