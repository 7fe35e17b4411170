use Rattle.std.proofs.Common.{◌∙◌, ap, ap₂, ◌*◌, SFits, w64, rules}
use Rattle.std.proofs.lemmas.Int.{to_z-of_z}
use Rattle.lam_solve.specs.inside.Enclosed.{around}
use Rattle.lam_solve.specs.inside.Steps.{over_up}
use Rattle.lam_solve.proofs.enclosed.enclosed.Goals as goal

pub returns-clause-value : goal.returns-clause-value
returns-clause-value g c =
    let n = g.N.Enclosure.numbers in
    let radius-is = c.radius-radius.ensures.value in
    let fits-ex : SFits w64 c.args.centre.now.ex = search rules in
    let ex-is = c.around.ensures.value ∙ ap₂ (around n) (to_z-of_z w64 c.args.centre.now.ex fits-ex) (c.quotient_up.ensures ∙ ap (λ r. over_up (5 * r) 2) radius-is) in
    let fits-ey : SFits w64 c.args.centre.now.ey = search rules in
    let ey-is = c.around-2.ensures.value ∙ ap₂ (around n) (to_z-of_z w64 c.args.centre.now.ey fits-ey) (c.quotient_up-2.ensures ∙ ap (λ r. over_up (5 * r) 2) radius-is) in
    let fits-g : SFits w64 c.args.centre.now.g = search rules in
    let g-is = c.around-3.ensures.value ∙ ap₂ (around n) (to_z-of_z w64 c.args.centre.now.g fits-g) (ap (λ r. 4 * r) radius-is) in
    let fits-kx : SFits w64 c.args.centre.now.kx = search rules in
    let kx-is = c.around-4.ensures.value ∙ ap₂ (around n) (to_z-of_z w64 c.args.centre.now.kx fits-kx) (ap (λ r. 5 * r) radius-is) in
    let fits-ky : SFits w64 c.args.centre.now.ky = search rules in
    let ky-is = c.around-5.ensures.value ∙ ap₂ (around n) (to_z-of_z w64 c.args.centre.now.ky fits-ky) (ap (λ r. 5 * r) radius-is) in
    let fits-kg : SFits w64 c.args.centre.now.kg = search rules in
    let kg-is = c.around-6.ensures.value ∙ ap₂ (around n) (to_z-of_z w64 c.args.centre.now.kg fits-kg) (ap (λ r. 8 * r) radius-is) in
    λ i. record { ex = ex-is i; ey = ey-is i; g = g-is i; kx = kx-is i; ky = ky-is i; kg = kg-is i }
