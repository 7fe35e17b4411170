use Rattle.std.proofs.Common.{◌≡◌, ◌≤◌}
use Rattle.lam_plate.specs.inside.Formulas as by
use Rattle.lam_plate.proofs.printed.lowest.Given as goal

abbrev pub invariant-loop-passed : goal.invariant-loop-passed
invariant-loop-passed g l = record {
  ratio : l.ratio ≡ by.lowest_up_to g.N.Enclosure.numbers l.plate l.passed;
  bound : l.ratio ≤ 20000;
}
