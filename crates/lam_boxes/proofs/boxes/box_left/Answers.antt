use Rattle.std.proofs.Common.{◌≡◌, sym, ◌∙◌, ap, subst, true, None, SFits, w64, rules}
use Rattle.std.proofs.lemmas.Int.{to_z-of_z}
use Rattle.lam_solve.proofs.Radius.{chosen}
use Rattle.lam_boxes.specs.inside.Boxes.{box_within}
use Rattle.lam_boxes.specs.inside.Parts.{IsThickness}
use Rattle.lam_boxes.specs.inside.Residuals.{radius}
use Rattle.lam_boxes.proofs.Truth.{small-three}
use Rattle.lam_boxes.proofs.boxes.box_left.Goals as goal

pub radius-far-requires-clause-most : goal.radius-far-requires-clause-most
radius-far-requires-clause-most g c =
    let f : SFits w64 c.args.shape.now.most = search rules in
    subst IsThickness (sym (to_z-of_z w64 c.args.shape.now.most f)) c.requires.shape.most

pub radius-far-requires-clause-least : goal.radius-far-requires-clause-least
radius-far-requires-clause-least g c =
    let f : SFits w64 c.args.shape.now.least = search rules in
    subst IsThickness (sym (to_z-of_z w64 c.args.shape.now.least f)) c.requires.shape.least

pub radius-far-requires-clause-rest : goal.radius-far-requires-clause-rest
radius-far-requires-clause-rest g c =
    let e : c.are_small.result ≡ true = cc in
    small-three g.met.N.Enclosure.laws c.args.rest.now (sym c.are_small.ensures ∙ e)

pub returns-clause-value : goal.returns-clause-value
returns-clause-value g c =
    let n = g.N.Enclosure.numbers in
    let e : c.are_small.result ≡ true = cc in
    let fm : SFits w64 c.args.shape.now.most = search rules in
    let fl : SFits w64 c.args.shape.now.least = search rules in
    let most = to_z-of_z w64 c.args.shape.now.most fm in
    let least = to_z-of_z w64 c.args.shape.now.least fl in
    let far = c.radius-far.ensures ∙ (λ i. radius n c.args.scale.now (most i) (least i) c.args.rest.now) in
    c.within_radius.ensures.value ∙ ap (box_within n c.args.centre.now) far ∙ chosen _ _ None (sym c.are_small.ensures ∙ e)
