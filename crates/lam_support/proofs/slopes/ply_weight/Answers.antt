use Rattle.std.proofs.Common.{◌∙◌}
use Rattle.lam_support.proofs.SlopeFacts.{within_million, stored_small, stored_million, stored_opposite, normal_as, shear_as}
use Rattle.lam_support.proofs.slopes.ply_weight.Goals as goal

pub returns-clause-value : goal.returns-clause-value
returns-clause-value c =
    let w = c.args.w.now in
    let h = within_million c.requires in
    let a = stored_million h.cosine_square in
    let b = stored_million h.sine_square in
    let p = stored_million h.product in
    let along = stored_small c.normal.ensures.small ∙ c.normal.ensures.value ∙ normal_as w a b p in
    let across = stored_small c.normal-2.ensures.small ∙ c.normal-2.ensures.value ∙ normal_as w b a (stored_opposite c.args.squares.now.product h.product) in
    let shear = stored_small c.shear.ensures.small ∙ c.shear.ensures.value ∙ shear_as w a b p in
    λ i. record { along = along i; across = across i; shear = shear i }
