use Rattle.std.proofs.Common.{◌≤◌, take, All}
use Rattle.lam_bounds.proofs.bounds.dearest.Given as goal

abbrev pub invariant-loop-item : goal.invariant-loop-item
invariant-loop-item l = record {
  all : All (λ i. i.cost ≤ l.most) (take l.item-index l.item-items);
  few : l.most ≤ 1000000000;
}
