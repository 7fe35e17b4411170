use Rattle.std.proofs.Common.{sym, ◌∙◌, ap, ap₂, subst, ◌*◌, ◌^◌, ◌≤◌, unsigned_abs, SFits, w64, rules, arith}
use Rattle.std.proofs.lemmas.Int.{to_z-of_z}
use Rattle.lam_fraction.specs.numbers.Numbers.{unit}
use Rattle.lam_solve.specs.inside.Steps.{over_up}
use Rattle.lam_boxes.specs.inside.Boxes.{around}
use Rattle.lam_boxes.proofs.HeldBox.{wider}
use Rattle.lam_boxes.proofs.around.box_round.Goals as goal

pub around-requires-clause-centre : goal.around-requires-clause-centre
around-requires-clause-centre g c =
    let f : SFits w64 c.args.centre.now.x = search rules in
    subst (λ z. unsigned_abs z ≤ 4 * unit g.N.Enclosure.numbers) (sym (to_z-of_z w64 c.args.centre.now.x f)) c.requires.centre.x

pub around-requires-2-clause-centre : goal.around-requires-2-clause-centre
around-requires-2-clause-centre g c =
    let f : SFits w64 c.args.centre.now.y = search rules in
    subst (λ z. unsigned_abs z ≤ 4 * unit g.N.Enclosure.numbers) (sym (to_z-of_z w64 c.args.centre.now.y f)) c.requires.centre.y

pub around-requires-3-clause-centre : goal.around-requires-3-clause-centre
around-requires-3-clause-centre g c =
    let f : SFits w64 c.args.centre.now.s = search rules in
    subst (λ z. unsigned_abs z ≤ 4 * unit g.N.Enclosure.numbers) (sym (to_z-of_z w64 c.args.centre.now.s f)) c.requires.centre.s

pub around-requires-3-clause-radius : goal.around-requires-3-clause-radius
around-requires-3-clause-radius g c = subst (λ k. 4 * k ≤ 7 * unit g.N.Enclosure.numbers) (sym c.quotient_up.ensures) (wider g.met.N.Enclosure.laws c.args.radius c.requires.radius)

pub around-requires-3-clause-small : goal.around-requires-3-clause-small
around-requires-3-clause-small g c =
    let small : over_up (3 * c.args.radius) 2 ≤ 2 ^ 61 = omega (arith, c.requires.small) in
    subst (λ k. k ≤ 2 ^ 61) (sym c.quotient_up.ensures) small

pub returns-clause-value : goal.returns-clause-value
returns-clause-value g c =
    let n = g.N.Enclosure.numbers in
    let fx : SFits w64 c.args.centre.now.x = search rules in
    let x-is = c.around.ensures.value ∙ ap (λ z. around n z c.args.radius) (to_z-of_z w64 c.args.centre.now.x fx) in
    let fy : SFits w64 c.args.centre.now.y = search rules in
    let y-is = c.around-2.ensures.value ∙ ap (λ z. around n z c.args.radius) (to_z-of_z w64 c.args.centre.now.y fy) in
    let fs : SFits w64 c.args.centre.now.s = search rules in
    let s-is = c.around-3.ensures.value ∙ ap₂ (around n) (to_z-of_z w64 c.args.centre.now.s fs) c.quotient_up.ensures in
    λ i. record { ex = x-is i; ey = y-is i; g = s-is i }

pub returns-clause-six : goal.returns-clause-six
returns-clause-six g c = record { x = c.around.ensures.six; y = c.around-2.ensures.six; s = c.around-3.ensures.six }
