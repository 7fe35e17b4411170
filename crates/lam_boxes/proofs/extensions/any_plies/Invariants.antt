use Rattle.std.proofs.Common.{◌≡◌, ◌≤◌, take}
use Rattle.lam_stock.specs.Scale.{scale_of}
use Rattle.lam_boxes.specs.inside.Extensions.{any_plies}
use Rattle.lam_boxes.proofs.extensions.any_plies.Given as goal

abbrev pub invariant-loop-k : goal.invariant-loop-k
invariant-loop-k g l = record {
  some : 1 ≤ l.k;
  so_far : l.hull ≡ any_plies g.N.Enclosure.numbers (scale_of l.items).q0 l.h l.many (take l.k l.items);
}
