use Rattle.std.proofs.Common.{sym, subst}
use Rattle.lam_plate.specs.Panels.{IsFitWall}
use Rattle.lam_plate.proofs.tests.decided.Goals as goal

pub panel_verdict-requires-clause-wall : goal.panel_verdict-requires-clause-wall
panel_verdict-requires-clause-wall g c = subst (λ q. IsFitWall g.N.Enclosure.numbers q c.alike-wall.result) (sym c.scale.ensures.value) c.alike-wall.ensures.fit
