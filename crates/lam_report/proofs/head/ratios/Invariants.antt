use Rattle.std.specs.Prelude.{◌≡◌, ◌/◌, ◌%◌}
use Rattle.lam_report.specs.inside.HeadReading.{ratio_in}
use Rattle.lam_report.proofs.ListLoops.{SoFar}
use Rattle.lam_report.proofs.head.ratios.Given as goal

abbrev pub invariant-loop-i : goal.invariant-loop-i
invariant-loop-i l = record {
  read : SoFar (λ i. ratio_in (i / l.plies) (i % l.plies)) l.count l.i l.ratios l.lines.lines l.initial.lines.lines;
  tail : l.lines.tail ≡ l.initial.lines.tail;
}
