use Rattle.std.proofs.Common.{◌≡◌, sym, ◌∙◌, subst, rules}
use Rattle.lam_fraction.specs.Fraction.{whole}
use Rattle.lam_plate.specs.Panels.{StandsAbove, BucklesBelow}
use Rattle.lam_plate.specs.inside.Formulas as by
use Rattle.lam_plate.proofs.PanelFacts.{verdict-stands, verdict-buckles, wall-same}
use Rattle.lam_plate.proofs.verdict.panel_verdict.Goals as goal

pub returns-clause-meets : goal.returns-clause-meets
returns-clause-meets g c = λ e stock job listed k.
    let n = g.N.Enclosure.numbers in
    let p = c.args.panel.now in
    let value : c.in_every_wave.result ≡ by.panel_verdict n c.args.scale.now.q0 c.args.wall.now p c.args.factor = search rules in
    subst (λ wall. StandsAbove wall p (whole c.args.factor)) (wall-same stock job listed)
    (verdict-stands g.met.N.Enclosure.laws k.stands p c.plate_of-plate.ensures.panel c.args.factor c.requires.factor.least (sym value ∙ e))

pub returns-clause-fails : goal.returns-clause-fails
returns-clause-fails g c = λ e stock job listed k.
    let n = g.N.Enclosure.numbers in
    let p = c.args.panel.now in
    let value : c.in_every_wave.result ≡ by.panel_verdict n c.args.scale.now.q0 c.args.wall.now p c.args.factor = search rules in
    subst (λ wall. BucklesBelow wall p (whole c.args.factor)) (wall-same stock job listed)
    (verdict-buckles g.met.N.Enclosure.laws k.stands p c.plate_of-plate.ensures.panel c.args.factor c.requires.factor.least (sym value ∙ e))
