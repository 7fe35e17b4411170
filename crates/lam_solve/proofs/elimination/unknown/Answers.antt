use Rattle.std.proofs.Common.{refl, sym, ◌∙◌, SFits, w64, rules}
use Rattle.std.proofs.lemmas.Int.{to_z-of_z}
use Rattle.lam_fraction.proofs.numbers.Machine.{is_exact, sized_stored-64, sized_at_most}
use Rattle.lam_solve.specs.inside.Elimination.{left_of, quotient, unknown}
use Rattle.lam_solve.proofs.elimination.unknown.Goals as goal

pub returns-clause-value : goal.returns-clause-value
unfolding unknown
returns-clause-value g c =
    let fits : SFits w64 c.args.rest.first = search rules in
    let scale = c.SCALE.ensures ∙ sym g.met.N.Enclosure.scale_law in
    let scale-2 = c.SCALE-2.ensures ∙ sym g.met.N.Enclosure.scale_law in
    let most = is_exact (sized_stored-64 (sized_at_most c.four-most.ensures.small)) refl ∙ c.four-most.ensures.value in
    let load = to_z-of_z w64 c.args.load c.ranges.load in
    let first = to_z-of_z w64 c.args.rest.first fits in
    let left = to_z-of_z w64 c.left_of-left.result (record { sfits = c.left_of-left.type_inv }) ∙ c.left_of-left.ensures ∙ (λ i. left_of (scale i) (load i) (c.past_first.ensures i) c.args.found) in
    to_z-of_z w64 c.quotient.result (record { sfits = c.quotient.type_inv }) ∙ c.quotient.ensures.value ∙ (λ i. quotient (scale-2 i) (most i) (left i) (first i))
