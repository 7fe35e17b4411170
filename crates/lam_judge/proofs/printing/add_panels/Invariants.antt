use Rattle.std.proofs.Common.{◌≡◌, map, take, Some}
use Rattle.lam_judge.specs.inside.Ratios.{panel_ratio}
use Rattle.lam_judge.specs.inside.Scales.{fine}
use Rattle.lam_judge.proofs.printing.add_panels.Given as goal

abbrev pub invariant-loop-panel : goal.invariant-loop-panel
invariant-loop-panel l = l.room ≡ record l.initial.room { panels = Some (map (panel_ratio fine l.scale.q0 l.wall) (take l.panel-index l.panels)) }
