use Rattle.std.proofs.Common.{◌≡◌, drop}
use Rattle.lam_judge.specs.inside.Findings.{and_then, at_panels}
use Rattle.lam_judge.specs.inside.Judged.{panel_over}
use Rattle.lam_judge.specs.inside.Scales.{fine}
use Rattle.lam_judge.proofs.cases.at_panels.Given as goal

abbrev pub invariant-loop-number : goal.invariant-loop-number
invariant-loop-number l =
    let of = at_panels (panel_over fine l.scale.q0 l.wall) in
    and_then l.found (of l.number (drop l.number l.panels)) ≡ of 0 l.panels
