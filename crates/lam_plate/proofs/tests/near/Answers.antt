use Rattle.std.proofs.Common.{◌≡◌, refl, sym, ◌∙◌, ap₂, subst, w64}
use Rattle.std.proofs.lemmas.Int.{to_z-of_z}
use Rattle.lam_fraction.proofs.numbers.Machine.{stored-64}
use Rattle.lam_stock.specs.declared.scale.Scale.{Scale}
use Rattle.lam_number.specs.inside.FixNumbers.{fix_numbers}
use Rattle.lam_plate.specs.NearFactor.{IsFine}
use Rattle.lam_plate.specs.Panels.{IsFitWall}
use Rattle.lam_plate.specs.inside.Formulas as by
use Rattle.lam_plate.proofs.tests.near.Goals as goal

pub panel_verdict-requires-clause-wall : goal.panel_verdict-requires-clause-wall
panel_verdict-requires-clause-wall c = subst (λ q. IsFitWall (fix_numbers 60) q c.alike-wall.result) (sym c.scale.ensures.value) c.alike-wall.ensures.fit

pub returns : goal.returns
returns c = λ e.
    let k = c.alike-wall.ensures.fit in
    let fine : IsFine (fix_numbers 60) c.alike-wall.result = record { scale = refl; narrow = c.alike-wall.ensures.narrow } in
    let factor : stored-64 c.args.factor ≡ c.args.factor = to_z-of_z w64 c.args.factor c.ranges.factor in
    let value = c.panel_verdict.ensures.value ∙ ap₂ (λ (q : Scale) z. by.panel_verdict (fix_numbers 60) q.q0 c.alike-wall.result c.args.panel.now z) c.scale.ensures.value factor in
    (k.0, k.1, k.2, c.straddles_near_factor.ensures k.0 k.1 k.2 _ c.alike-wall.result c.args.panel.now c.args.factor k.3 fine c.in_range.ensures c.requires.factor.least (sym value ∙ e))
