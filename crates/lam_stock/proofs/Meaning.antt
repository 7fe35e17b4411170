-- How the meaning of a catalogue follows its records.
use Rattle.std.proofs.Common.{◌≡◌, ◌+◌, Bool, true, false, List, [], ◌∷◌, ◌++◌, length, Result, Ok, Err, refl, sym, ap, ◌∙◌}
use Rattle.lam_stock.specs.Catalogue.{Fields, GivesCatalogue, catalogue_of, columns_of, ended, is_header, item_of, items_after, items_read}
use Rattle.lam_stock.specs.inside.Rows.{TakesRow}
use Rattle.lam_stock.specs.declared.fault.StockCause.{StockCause}
use Rattle.lam_stock.specs.declared.fault.StockCause.TheVariants as cause
use Rattle.lam_stock.specs.declared.fault.StockError.{StockError}
use Rattle.lam_stock.specs.declared.fault.StockError.TheVariants.{Refused}
use Rattle.lam_stock.specs.declared.fault.StockFault.{StockFault}
use Rattle.lam_stock.specs.declared.item.Item.{Item}

-- an item more
pub more-items : (earlier new : List Item) (rows rest : List Fields) (row : Fields) (i : Item) → rows ≡ row ∷ rest
    → Ok i ≡ item_of earlier (columns_of row) → new ≡ earlier ++ i ∷ [] → items_read earlier rows ≡ items_read new rest
unfolding items_read
more-items earlier new rows rest row i e h n = ap (items_read earlier) e ∙ ap (items_after (λ items. items_read items rest) earlier) (sym h) ∙ ap (λ items. items_read items rest) (sym n)

-- a record that is refused
pub refused-item : (earlier : List Item) (rows rest : List Fields) (row : Fields) (why : StockCause) → rows ≡ row ∷ rest
    → Err why ≡ item_of earlier (columns_of row) → items_read earlier rows ≡ Err (record { row = length earlier + 2; cause = why })
unfolding items_read
refused-item earlier rows rest row why e h = ap (items_read earlier) e ∙ ap (items_after (λ items. items_read items rest) earlier) (sym h)

-- no record more
pub no-more-items : (earlier : List Item) (rows : List Fields) → rows ≡ [] → items_read earlier rows ≡ ended earlier
unfolding items_read
no-more-items earlier rows e = ap (items_read earlier) e

-- the first record is the names of the columns, or is not
pub under-header : (rows rest : List Fields) (row : Fields) → rows ≡ row ∷ rest → is_header (columns_of row) ≡ true → catalogue_of rows ≡ items_read [] rest
under-header rows rest row e h = rw (e, h) refl

pub no-header : (rows rest : List Fields) (row : Fields) → rows ≡ row ∷ rest → is_header (columns_of row) ≡ false
    → catalogue_of rows ≡ Err (record { row = 1; cause = cause.Header })
no-header rows rest row e h = rw (e, h) refl

pub no-rows : (rows : List Fields) → rows ≡ [] → catalogue_of rows ≡ Err (record { row = 0; cause = cause.Empty })
no-rows rows e = rw e refl

-- what a read took
pub took : (found : Bool) (old : List Fields) (row : Fields) (new : List Fields) → found ≡ true → TakesRow found old row new → old ≡ row ∷ new
took true old row new e h = h
took false old row new e h = cc e

pub took-none : (found : Bool) (old : List Fields) (row : Fields) (new : List Fields) → found ≡ false → TakesRow found old row new → old ≡ []
took-none true old row new e h = cc e
took-none false old row new e h = h

-- an answer gives what is the same as what it gives
pub gives-same : (r : Result (List Item) StockError) (a b : Result (List Item) StockFault) → a ≡ b → GivesCatalogue r a → GivesCatalogue r b
gives-same r a b e h = rw (← e) h

-- a refusal gives the fault that it tells
pub gives-refused : (r : Result (List Item) StockError) (fault : StockFault) (m : Result (List Item) StockFault) → r ≡ Err (Refused fault) → m ≡ Err fault → GivesCatalogue r m
gives-refused r fault m e h = rw e h
