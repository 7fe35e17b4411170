use Rattle.std.proofs.Common.{◌≡◌, length, map, take}
use Rattle.lam_search.proofs.Ordering.{item_of}
use Rattle.lam_search.proofs.order.items_of.Given as goal

abbrev pub invariant-loop-k : goal.invariant-loop-k
invariant-loop-k l = record {
  long : length l.items ≡ 64;
  items : take l.k l.items ≡ map item_of (take l.k l.keys);
}
