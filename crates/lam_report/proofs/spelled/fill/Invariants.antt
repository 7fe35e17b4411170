use Rattle.std.specs.Prelude.{◌≡◌, length}
use Rattle.lam_report.proofs.ListLoops.{Filled}
use Rattle.lam_report.proofs.spelled.fill.Given as goal

abbrev pub invariant-loop-place : goal.invariant-loop-place
invariant-loop-place l = record {
  filled : Filled l.stock l.plies l.words l.initial.words;
  place : length l.plies ≡ l.place;
}
