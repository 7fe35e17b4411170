-- The children of a split in order.
use Rattle.std.specs.Prelude.{◌≡◌, ℕ, ◌<◌, ◌==◌, List, length, All}
use Rattle.std.specs.List.{IsDistinct}
use Rattle.lam_stock.specs.declared.item.ItemNo.{ItemNo}

-- each item of so many, once
pub record IsEachOnce (count : ℕ) (items : List ItemNo) : Type 0 where
  pub many : length items ≡ count
  pub known : All (λ item. item.0 < count) items
  pub apart : IsDistinct (λ a b. b.0 == a.0) items
