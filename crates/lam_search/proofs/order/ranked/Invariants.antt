use Rattle.std.proofs.Common.{◌≡◌, ℕ, ◌<◌, length, get_or}
use Rattle.lam_search.proofs.order.ranked.Given as goal

abbrev pub invariant-loop-k : goal.invariant-loop-k
invariant-loop-k g l = record {
  long : length l.keys ≡ 64;
  numbers : (k : ℕ) → k < l.k → (get_or l.keys k (0, 0)).1 ≡ k;
  heard : g.G.Guide.heard_count l.guide ≡ g.G.Guide.heard_count l.fn.guide;
}
