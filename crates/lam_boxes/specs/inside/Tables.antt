-- What is made once for a catalogue.
use Rattle.std.specs.Prelude.{◌≡◌, ℕ, List, Some, slice_get}
use Rattle.lam_number.specs.inside.FixNumbers.{fix_numbers}
use Rattle.lam_stock.specs.declared.item.Item.{Item}
use Rattle.lam_stock.specs.Scale.{scale_of}
use Rattle.lam_job.specs.Partial.{thickest}
use Rattle.lam_lamina.specs.inside.Table.{IsTableOf}
use Rattle.lam_tsai.specs.inside.Values.{criterion}
use Rattle.lam_boxes.specs.declared.tables.BoxTables.{BoxTables}
use Rattle.lam_boxes.specs.inside.Extents.{thinnest}

-- the stiffness and the criterion of each item, and the thicknesses of the thinnest and the thickest
pub record AreBoxTablesOf (stock : List Item) (t : BoxTables) : Type 0 where
  pub stiffnesses : IsTableOf (fix_numbers 60) stock t.stiffnesses
  pub criteria : (k : ℕ) (i : Item) → slice_get stock k ≡ Some i → slice_get t.criteria k ≡ Some (criterion (fix_numbers 60) (scale_of stock) i)
  pub thickest : t.thickest ≡ thickest stock
  pub thinnest : t.thinnest ≡ thinnest stock
