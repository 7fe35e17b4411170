use Rattle.std.proofs.Common.{◌≡◌, ◌^◌, ◌≤◌, length, take, All}
use Rattle.lam_bounds.specs.inside.Demands.{demand}
use Rattle.lam_bounds.specs.inside.Tables.{HasValues}
use Rattle.lam_bounds.proofs.bounds.demands.Given as goal

abbrev pub invariant-loop-k : goal.invariant-loop-k
invariant-loop-k l = record {
  long : length l.demands ≡ 16;
  each : HasValues (λ case. demand case l.w) (take l.k l.cases) l.demands;
  small : All (λ demand. demand ≤ 2 ^ 90) l.demands;
}
