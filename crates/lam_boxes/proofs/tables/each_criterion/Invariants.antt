use Rattle.std.proofs.Common.{◌≡◌, ◌<◌, ℕ, Some, length, slice_get}
use Rattle.lam_number.specs.inside.FixNumbers.{fix_numbers}
use Rattle.lam_stock.specs.declared.item.Item.{Item}
use Rattle.lam_tsai.specs.inside.Values.{criterion}
use Rattle.lam_boxes.proofs.tables.each_criterion.Given as goal

abbrev pub invariant-loop-k : goal.invariant-loop-k
invariant-loop-k l = record {
  size : length l.criteria ≡ 64;
  each : (j : ℕ) (i : Item) → j < l.k → slice_get l.items j ≡ Some i → slice_get l.criteria j ≡ Some (criterion (fix_numbers 60) l.scale i);
}
