use Rattle.std.proofs.Common.{◌≡◌, length, sym, ◌∙◌, ap, drop, false, true}
use Rattle.std.specs.List.{list_any}
use Rattle.std.proofs.lemmas.List.{length-map}
use Rattle.csv.specs.Records.{fields_of}
use Rattle.lam_stock.specs.Catalogue.{column, columns_of, described, numbers_of}
use Rattle.lam_stock.specs.Field.{is_name, kind_of}
use Rattle.lam_stock.specs.Likeness.{has_name}
use Rattle.lam_stock.proofs.Columns.{item-described, name-read}
use Rattle.lam_stock.proofs.reading.record.item.Goals as goal

pub returns-else-has_item-clause-reads : goal.returns-else-has_item-clause-reads
returns-else-has_item-clause-reads c =
    let columns = columns_of (fields_of c.args.row.now) in
    let earlier = c.args.earlier.now in
    let size : length columns ≡ 17 = rw length-map (sym c.len.ensures ∙ c.if-len-ne-COLUMNS.false) in
    let named = name-read c.field.result.now c.in-Some.name c.in-Some.ensures in
    let same : c.in-Some.name ≡ column columns 0 = named.1 ∙ c.field.ensures in
    let is : is_name (column columns 0) ≡ true = ap is_name (sym c.field.ensures) ∙ named.0 in
    let fresh : list_any (has_name (column columns 0)) earlier ≡ false =
    ap (λ n. list_any (has_name n) earlier) (sym (c.as_bytes.ensures.bytes ∙ same)) ∙ sym c.has_item.ensures ∙ c.if-has_item.false in
    c.described.ensures.reads ∙ ap (λ n. described n (kind_of (column columns 1)) (numbers_of (drop 2 columns))) same
    ∙ sym (item-described earlier columns c.if-earlier-ge-MOST_ITEMS.false size is fresh)
