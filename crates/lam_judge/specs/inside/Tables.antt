-- What depends on a catalogue alone, as it is computed.
use Rattle.std.specs.Prelude.{◌≡◌, ℕ, List, Some, slice_get}
use Rattle.lam_stock.specs.declared.item.Item.{Item}
use Rattle.lam_stock.specs.declared.scale.Scale.{Scale}
use Rattle.lam_stock.specs.Scale.{scale_of}
use Rattle.lam_lamina.specs.inside.Table.{IsTableOf}
use Rattle.lam_tsai.specs.inside.Values.{criterion}
use Rattle.lam_judge.specs.declared.tables.Criteria.{Criteria}
use Rattle.lam_judge.specs.declared.tables.Tables.{Tables}
use Rattle.lam_judge.specs.inside.Scales.{coarse, fine}

-- the criterion of an item
abbrev pub criteria : Scale → Item → Criteria
criteria scale i = record { coarse = criterion coarse scale i; fine = criterion fine scale i }

-- at the place of each item are its stiffness and its criterion
pub record AreTablesOf (stock : List Item) (tables : Tables) : Type 0 where
  pub coarse : IsTableOf coarse stock tables.coarse
  pub fine : IsTableOf fine stock tables.fine
  pub criteria : (k : ℕ) (i : Item) → slice_get stock k ≡ Some i → slice_get tables.criteria k ≡ Some (criteria (scale_of stock) i)
