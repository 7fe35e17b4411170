use Rattle.std.proofs.Common.{◌∙◌, SFits, w64, rules}
use Rattle.std.proofs.lemmas.Int.{to_z-of_z}
use Rattle.lam_solve.specs.inside.Elimination.{largest, pushed, quotient, rest_left, without_first}
use Rattle.lam_solve.proofs.elimination.without_first.Goals as goal

pub returns : goal.returns
unfolding without_first
returns c =
    let bits = c.args.bits in
    let e = c.args.equation.now in
    let other = c.args.other.now in
    let fits : SFits w64 e.rest.first = search rules in
    let fits-other : SFits w64 other.first = search rules in
    let share = to_z-of_z w64 c.quotient-share.result (record { sfits = c.quotient-share.type_inv }) ∙ c.quotient-share.ensures.value
    ∙ (λ i. quotient bits largest (to_z-of_z w64 e.rest.first fits i) (to_z-of_z w64 other.first fits-other i)) in
    let rest = c.rest_left.ensures ∙ (λ i. rest_left bits e.rest (share i) other) in
    let shares = c.pushed.ensures ∙ (λ i. pushed e.shares (share i)) in
    λ i. record { rest = rest i; shares = shares i }
