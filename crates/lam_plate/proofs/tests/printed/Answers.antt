use Rattle.std.proofs.Common.{sym, subst}
use Rattle.lam_plate.specs.Panels.{IsFitWall}
use Rattle.lam_plate.proofs.tests.printed.Goals as goal

pub printed_panel-requires : goal.printed_panel-requires
printed_panel-requires g c = subst (λ q. IsFitWall g.N.Enclosure.numbers q c.alike-wall.result) (sym c.scale.ensures.value) c.alike-wall.ensures.fit
