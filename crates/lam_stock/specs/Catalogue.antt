-- What the bytes of a catalogue mean: its items, or the first cause that it is refused for.
use Rattle.std.specs.Prelude.{◌≡◌, ◌==◌, ℕ, ◌+◌, Bool, not, nat_le, if◌then◌else◌, List, [], ◌∷◌, ◌++◌, length, map, drop, get_or, ℤ, pos, ◌*ℤ◌, int_le, unsigned_abs, Option, Some, None, Result, Ok, Err, codes, ⊤}
use Rattle.std.specs.List.{list_any}
use Rattle.std.specs.Cmp.Lexicographic.{pointwise}
use Rattle.std.specs.Str.{bytes_eq}
use Rattle.csv.specs.Reading.{default_config, records, strip_bom}
use Rattle.lam_direction.specs.Circle.{CirclePoint}
use Rattle.lam_direction.specs.Reading.{direction_of}
use Rattle.lam_direction.specs.declared.direction.DirectionFault.{DirectionFault}
use Rattle.lam_direction.specs.declared.direction.DirectionFault.TheVariants as direction
use Rattle.lam_stock.specs.declared.fault.StockCause.{StockCause}
use Rattle.lam_stock.specs.declared.fault.StockCause.TheVariants as cause
use Rattle.lam_stock.specs.declared.fault.StockFault.{StockFault}
use Rattle.lam_stock.specs.declared.fault.StockError.{StockError}
use Rattle.lam_stock.specs.declared.fault.StockError.TheVariants.{Refused, Memory}
use Rattle.lam_stock.specs.declared.item.Item.{Item}
use Rattle.lam_stock.specs.declared.item.Kind.{Kind}
use Rattle.lam_stock.specs.declared.item.Lamina.{Lamina}
use Rattle.lam_stock.specs.Field.{is_name, kind_of, number_of, without_blanks}
use Rattle.lam_stock.specs.Likeness.{has_name}
use Rattle.lam_stock.specs.LimitNumbers.{greatest_spread, most_items}
use Rattle.lam_stock.specs.Tests.{limits_of}
use Rattle.lam_stock.specs.Scale.{scale_of}

-- the fields of a record
abbrev pub Fields : Type 0
Fields = List (List ℕ)

-- the columns of a record: its fields with no blank at either end, since blanks round a field do not count
abbrev pub columns_of : Fields → Fields
columns_of fields = map without_blanks fields

-- the names of the columns
abbrev pub column_names : Fields
column_names =
    codes "name" ∷ codes "kind" ∷ codes "e1" ∷ codes "e2" ∷ codes "n12" ∷ codes "g12" ∷ codes "xt" ∷ codes "xc" ∷ codes "yt"
    ∷ codes "yc" ∷ codes "s" ∷ codes "f12" ∷ codes "t" ∷ codes "p" ∷ codes "q" ∷ codes "h" ∷ codes "cost" ∷ []

-- a record is the names of the columns
abbrev pub is_header : Fields → Bool
is_header fields = pointwise bytes_eq fields column_names

-- a number, and those after it, where all are numbers
abbrev pub number_before : Option ℤ → Option (List ℤ) → Option (List ℤ)
number_before None rest = None
number_before (Some n) None = None
number_before (Some n) (Some ns) = Some (n ∷ ns)

-- the numbers that fields stand for, where each stands for one
abbrev pub numbers_of : Fields → Option (List ℤ)
numbers_of [] = Some []
numbers_of (f ∷ fs) = number_before (number_of f) (numbers_of fs)

-- the number in a column, where the moduli begin at 0
abbrev pub at : List ℤ → ℕ → ℤ
at ns k = get_or ns k (pos 0)

abbrev pub lamina_of : List ℤ → Lamina
lamina_of ns = record {
  e1 = at ns 0;
  e2 = at ns 1;
  n12 = at ns 2;
  g12 = at ns 3;
  xt = at ns 4;
  xc = at ns 5;
  yt = at ns 6;
  yc = at ns 7;
  s = at ns 8;
  f12 = at ns 9;
  t = at ns 10;
}

-- an item with its direction, or the cause that its direction is refused for
abbrev pub directed : List ℕ → Kind → List ℤ → Result CirclePoint DirectionFault → Result Item StockCause
directed name kind ns (Ok d) = Ok (record { name = name; kind = kind; lamina = lamina_of ns; dir = d; cost = unsigned_abs (at ns 14) })
directed name kind ns (Err direction.Size) = Err cause.Unit
directed name kind ns (Err direction.NotUnit) = Err cause.Unit
directed name kind ns (Err direction.NotFirstHalf) = Err cause.Half

-- an item whose lamina and cost keep the limits, or the first limit that they break
abbrev pub limited : List ℕ → Kind → List ℤ → Result (Unit {0}) StockCause → Result Item StockCause
limited name kind ns (Ok kept) = directed name kind ns (direction_of (at ns 11) (at ns 12) (at ns 13))
limited name kind ns (Err broken) = Err broken

-- an item of a name, of a kind and of numbers, where they are a kind and numbers
abbrev pub described : List ℕ → Option Kind → Option (List ℤ) → Result Item StockCause
described name None numbers = Err cause.Kind
described name (Some kind) None = Err cause.Number
described name (Some kind) (Some ns) = limited name kind ns (limits_of (lamina_of ns) (at ns 14))

-- the field in a column
abbrev pub column : Fields → ℕ → List ℕ
column fields k = get_or fields k []

-- what the fields of a record read as, after some items: an item, or the first cause that holds
abbrev pub item_of : List Item → Fields → Result Item StockCause
item_of earlier fields =
    if nat_le most_items (length earlier) then Err cause.Many
    else if not (length fields == 17) then Err cause.Fields
    else if not (is_name (column fields 0)) then Err cause.Name
    else if list_any (has_name (column fields 0)) earlier then Err cause.Twice
    else described (column fields 0) (kind_of (column fields 1)) (numbers_of (drop 2 fields))

-- the catalogue of some items, which the records end with
abbrev pub ended : List Item → Result (List Item) StockFault
ended [] = Err (record { row = 1; cause = cause.NoItem })
ended (i ∷ items) =
    if int_le (scale_of (i ∷ items)).q0 (greatest_spread *ℤ (scale_of (i ∷ items)).floor)
    then Ok (i ∷ items)
    else Err (record { row = length (i ∷ items) + 1; cause = cause.Spread })

-- the items of the records left after some items, or the first cause that holds, with its record
abbrev pub items_after : (List Item → Result (List Item) StockFault) → List Item → Result Item StockCause → Result (List Item) StockFault
items_after more earlier (Ok i) = more (earlier ++ i ∷ [])
items_after more earlier (Err why) = Err (record { row = length earlier + 2; cause = why })

unfoldable pub items_read : List Item → List Fields → Result (List Item) StockFault
items_read earlier [] = ended earlier
items_read earlier (row ∷ rest) = items_after (λ items. items_read items rest) earlier (item_of earlier (columns_of row))

-- the catalogue of some records
abbrev pub catalogue_of : List Fields → Result (List Item) StockFault
catalogue_of [] = Err (record { row = 0; cause = cause.Empty })
catalogue_of (row ∷ rest) =
    if is_header (columns_of row) then items_read [] rest else Err (record { row = 1; cause = cause.Header })

-- the catalogue of some bytes, or the first cause that it is refused for
abbrev pub stock_of : List ℕ → Result (List Item) StockFault
stock_of bytes = catalogue_of (records default_config (strip_bom bytes))

-- an answer gives what the bytes mean, or tells that memory ran out
abbrev pub GivesCatalogue : Result (List Item) StockError → Result (List Item) StockFault → Type 0
GivesCatalogue (Ok items) meaning = meaning ≡ Ok items
GivesCatalogue (Err (Refused fault)) meaning = meaning ≡ Err fault
GivesCatalogue (Err Memory) meaning = ⊤
