-- What is computed of an item: two calls on one input answer alike.
use Rattle.std.specs.Prelude.{ℕ}
use Rattle.lam_stock.specs.declared.item.Item.{Item}
use Rattle.lam_number.specs.inside.FixNumbers.{fix_numbers}
use Rattle.lam_support.specs.declared.weight.Weight.{Weight}
use Rattle.lam_support.specs.inside.Formulas as by

-- how much of a weighted force the layer of an item carries, as the code computes it
unfoldable pub capacity_value : Item → Weight → ℕ
capacity_value i w = by.capacity (fix_numbers 60) i.kind i.lamina i.dir w
