-- What a catalogue keeps.
use Rattle.std.specs.Prelude.{◌≡◌, ◌≤◌, ◌<◌, List, length, pos, ◌≤ℤ◌, ◌*ℤ◌, All, AllPairs, IsTrue, IsFalse}
use Rattle.lam_direction.specs.Circle.{IsDirection}
use Rattle.lam_stock.specs.declared.item.Item.{Item}
use Rattle.lam_stock.specs.declared.item.ItemNo.{ItemNo}
use Rattle.lam_stock.specs.declared.scale.Scale.{Scale}
use Rattle.lam_stock.specs.Field.{is_name}
use Rattle.lam_stock.specs.Likeness.{has_name}
use Rattle.lam_stock.specs.LimitNumbers.{greatest_spread, most_items}
use Rattle.lam_stock.specs.Limits.{KeepsLimits}
use Rattle.lam_stock.specs.Scale.{scale_of}

-- an item keeps every limit: its numbers, and its direction
pub record WithinLimits (i : Item) : Type 0 where
  pub limits : KeepsLimits i.lamina (pos i.cost)
  pub direction : IsDirection i.dir

-- each item has a valid name, and no two have the same one
pub record HaveNames (items : List Item) : Type 0 where
  pub valid : All (λ i. IsTrue (is_name i.name)) items
  pub own : AllPairs (λ a b. IsFalse (has_name b.name a)) items

-- 1 to 64 items within their limits and with names of their own; q0 is at most 512 times the least stiffness floor
pub record IsStock (items : List Item) (scale : Scale) : Type 0 where
  pub some : 1 ≤ length items
  pub few : length items ≤ most_items
  pub limits : All WithinLimits items
  pub names : HaveNames items
  pub scale_is : scale ≡ scale_of items
  pub spread : scale.q0 ≤ℤ (greatest_spread *ℤ scale.floor)
  pub floor : pos 500 ≤ℤ scale.floor

-- the numbers are those of items of a catalogue
abbrev pub IsKnown : List Item → List ItemNo → Type 0
IsKnown stock numbers = All (λ ply. ply.0 < length stock) numbers
