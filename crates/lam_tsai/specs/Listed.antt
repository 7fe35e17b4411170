-- An item of a catalogue.
use Rattle.std.specs.Prelude.{◌≡◌, ℕ, List, Some, slice_get}
use Rattle.lam_stock.specs.Stock.{IsStock}
use Rattle.lam_stock.specs.declared.item.Item.{Item}
use Rattle.lam_stock.specs.declared.scale.Scale.{Scale}

-- the item is listed in a catalogue of this scale
pub record IsItemOf (scale : Scale) (i : Item) : Type 0 where
  pub items : List Item
  pub stock : IsStock items scale
  pub place : ℕ
  pub listed : slice_get items place ≡ Some i
