-- A table of the stiffnesses of a catalogue's items, as they are computed.
use Rattle.std.specs.Prelude.{◌≡◌, ℕ, ◌/◌, ◌%◌, ℤ, List, Some, None, slice_get}
use Rattle.std.specs.declared.option.Option.{Option}
use Rattle.lam_fraction.specs.numbers.Arithmetic.{Arithmetic}
use Rattle.lam_fraction.specs.numbers.Numbers.{Numbers}
use Rattle.lam_stock.specs.Scale.{scale_of}
use Rattle.lam_stock.specs.declared.item.Item.{Item}
use Rattle.lam_lamina.specs.declared.stiffness.Sym3.{Sym3}
use Rattle.lam_lamina.specs.declared.table.Stiffnesses.{Stiffnesses}
use Rattle.lam_lamina.specs.inside.Formulas as by
use Rattle.lam_lamina.specs.inside.Eighths.{at}

module _ {A : Type 0} where
  -- the stiffness of an item, over q0
  abbrev pub of_item : Arithmetic A → ℤ → Item → Sym3 A
  of_item v q0 i = by.item v q0 i.kind i.lamina i.dir

  -- and zeros where there is no item
  abbrev pub of_place : Arithmetic A → ℤ → Option Item → Sym3 A
  of_place v q0 (Some i) = of_item v q0 i
  of_place v q0 None = by.zeros v

  -- at place k of a catalogue
  abbrev pub place_value : Arithmetic A → List Item → ℕ → Sym3 A
  place_value v items k = of_place v (scale_of items).q0 (slice_get items k)

  -- the entry at place k of a table: eight rows of eight
  abbrev pub entry_at : Stiffnesses A → ℕ → Sym3 A
  entry_at table k = at (at table.rows (k / 8)) (k % 8)

  -- the entry at the place of each item is its stiffness, over the q0 of the catalogue's scale
  pub record IsTableOf (n : Numbers A) (items : List Item) (table : Stiffnesses A) : Type 0 where
    pub entries : (k : ℕ) (i : Item) → slice_get items k ≡ Some i → entry_at table k ≡ of_item n.calc (scale_of items).q0 i
