use Rattle.std.proofs.Common.{◌≡◌, length, take}
use Rattle.lam_bounds.specs.inside.Tables.{HasValues}
use Rattle.lam_bounds.proofs.bounds.costs.Given as goal

abbrev pub invariant-loop-k : goal.invariant-loop-k
invariant-loop-k l = record {
  long : length l.costs ≡ 64;
  each : HasValues (λ i. i.cost) (take l.k l.items) l.costs;
}
