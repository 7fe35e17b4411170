use Rattle.std.proofs.Common.{◌≡◌, ◌<◌, ℕ, Some, length, slice_get}
use Rattle.lam_stock.specs.declared.item.Item.{Item}
use Rattle.lam_judge.specs.inside.Tables.{criteria}
use Rattle.lam_judge.proofs.tables.each_criteria.Given as goal

abbrev pub invariant-loop-k : goal.invariant-loop-k
invariant-loop-k l = record {
  size : length l.criteria ≡ 64;
  each : (j : ℕ) (i : Item) → j < l.k → slice_get l.items j ≡ Some i → slice_get l.criteria j ≡ Some (criteria l.scale i);
}
