use Rattle.std.proofs.Common.{◌≡◌, false, refl, sym, ap, ◌∙◌}
use Rattle.std.proofs.lemmas.Bool.Decides.{same_from_decides}
use Rattle.std.proofs.lemmas.Slice.Eq.{bytes_eq-Decides, slice_eq-Decides}
use Rattle.csv.specs.Records.{fields_of}
use Rattle.lam_stock.specs.Catalogue.{catalogue_of, columns_of, is_header}
use Rattle.lam_stock.specs.inside.Rows.{rows_of}
use Rattle.lam_stock.proofs.Meaning.{gives-refused, no-header, took}
use Rattle.lam_stock.proofs.reading.read_stock.Goals as goal

pub returns-then-not-is_header : goal.returns-then-not-is_header
returns-then-not-is_header c =
    let old = rows_of c.open_rows-reader.result in
    let new = rows_of c.next_row.new.reader in
    let row = fields_of c.next_row.new.row in
    let left = took c.in_ok-next_row.field-0 old row new c.if-not-branch.false c.in_ok-next_row.ensures.row in
    let test = same_from_decides c.is_header.result (is_header (columns_of row)) c.is_header.ensures (slice_eq-Decides bytes_eq-Decides _ _ _ refl) in
    let none : is_header (columns_of row) ≡ false = sym test ∙ c.if-not-is_header.true in
    let rows = c.open_rows-reader.ensures.rows in
    gives-refused _ _ _ c.refused-then-not-is_header.ensures (ap catalogue_of (sym rows) ∙ no-header old new row left none)
