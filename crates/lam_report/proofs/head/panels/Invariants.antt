use Rattle.std.specs.Prelude.{◌≡◌}
use Rattle.lam_report.specs.inside.HeadReading.{panel_in}
use Rattle.lam_report.proofs.ListLoops.{SoFar}
use Rattle.lam_report.proofs.head.panels.Given as goal

abbrev pub invariant-loop-k : goal.invariant-loop-k
invariant-loop-k l = record {
  read : SoFar panel_in l.k-end l.k l.panels l.lines.lines l.initial.lines.lines;
  tail : l.lines.tail ≡ l.initial.lines.tail;
}
