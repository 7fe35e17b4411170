use Rattle.std.proofs.Common.{◌≡◌, sym, ◌∙◌, ap, true, None}
use Rattle.lam_solve.proofs.Radius.{chosen}
use Rattle.lam_boxes.specs.inside.Boxes.{box_left}
use Rattle.lam_boxes.specs.inside.Residuals.{residual}
use Rattle.lam_boxes.proofs.Truth.{near-centre}
use Rattle.lam_boxes.proofs.boxes.box_at.Goals as goal

pub eighths-parts-requires : goal.eighths-parts-requires
eighths-parts-requires g c =
    let e : c.is_near.result ≡ true = cc in
    near-centre g.met.N.Enclosure.laws c.args.centre.now (sym c.is_near.ensures ∙ e)

pub box_left-requires-clause-centre : goal.box_left-requires-clause-centre
box_left-requires-clause-centre g c =
    let e : c.is_near.result ≡ true = cc in
    near-centre g.met.N.Enclosure.laws c.args.centre.now (sym c.is_near.ensures ∙ e)

pub returns-clause-value : goal.returns-clause-value
returns-clause-value g c =
    let n = g.N.Enclosure.numbers in
    let e : c.is_near.result ≡ true = cc in
    let rest = c.residual-rest.ensures ∙ ap (residual n.calc c.args.shape.now.extension c.args.loads.now) c.eighths-parts.ensures.value in
    c.box_left.ensures.value ∙ ap (box_left n c.args.scale.now c.args.shape.now c.args.centre.now) rest ∙ chosen _ _ None (sym c.is_near.ensures ∙ e)
