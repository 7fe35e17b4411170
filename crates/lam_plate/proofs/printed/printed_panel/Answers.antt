use Rattle.std.proofs.Common.{◌≡◌, sym, subst, ◌+◌, ◌<◌, ◌≤◌, ◌⊎◌, ℕ, pos, rules}
use Rattle.lam_fraction.specs.Fraction.{whole}
use Rattle.lam_job.specs.Plate.{PanelAtLeast}
use Rattle.lam_number.specs.declared.strength.Verdict.TheVariants.{Meets}
use Rattle.lam_job.specs.Schedule.{items_of}
use Rattle.lam_plate.specs.Panels.{wall_numbers}
use Rattle.lam_plate.specs.inside.Formulas as by
use Rattle.lam_plate.proofs.PanelFacts.{wall-same}
use Rattle.lam_plate.proofs.PrintedFacts.{printed-bound, printed-met, printed-next, printed-stands}
use Rattle.lam_plate.proofs.printed.printed_panel.Goals as goal

pub returns-clause-bound : goal.returns-clause-bound
returns-clause-bound g c =
    let value : c.lowest.result ≡ by.printed_panel g.N.Enclosure.numbers c.args.scale.now.q0 c.args.wall.now c.args.panel.now = search rules in
    subst (λ (r : ℕ). r ≤ 20000) (sym value) (printed-bound g.met.N.Enclosure.laws c.requires.3.stands c.args.panel.now c.plate_of-plate.ensures.panel)

pub returns-clause-met : goal.returns-clause-met
returns-clause-met g c =
    let value : c.lowest.result ≡ by.printed_panel g.N.Enclosure.numbers c.args.scale.now.q0 c.args.wall.now c.args.panel.now = search rules in
    subst (λ (r : ℕ). (r ≡ 0) ⊎ (by.panel_verdict g.N.Enclosure.numbers c.args.scale.now.q0 c.args.wall.now c.args.panel.now (pos r) ≡ Meets)) (sym value)
    (printed-met g.met.N.Enclosure.laws c.requires.3.stands c.args.panel.now c.plate_of-plate.ensures.panel)

pub returns-clause-next : goal.returns-clause-next
returns-clause-next g c =
    let value : c.lowest.result ≡ by.printed_panel g.N.Enclosure.numbers c.args.scale.now.q0 c.args.wall.now c.args.panel.now = search rules in
    subst (λ (r : ℕ). r < 20000 → ¬ (by.panel_verdict g.N.Enclosure.numbers c.args.scale.now.q0 c.args.wall.now c.args.panel.now (pos (r + 1)) ≡ Meets)) (sym value)
    (printed-next g.met.N.Enclosure.laws c.requires.3.stands c.args.panel.now c.plate_of-plate.ensures.panel)

pub returns-clause-stands : goal.returns-clause-stands
returns-clause-stands g c = λ stock job listed k.
    let value : c.lowest.result ≡ by.printed_panel g.N.Enclosure.numbers c.args.scale.now.q0 c.args.wall.now c.args.panel.now = search rules in
    subst (λ wall. PanelAtLeast wall c.args.panel.now (whole (pos c.lowest.result))) (wall-same stock job listed)
    (subst (λ (r : ℕ). PanelAtLeast (items_of stock (wall_numbers job listed)) c.args.panel.now (whole (pos r))) (sym value) (printed-stands g.met.N.Enclosure.laws k.stands c.args.panel.now c.plate_of-plate.ensures.panel))
