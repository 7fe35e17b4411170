use Rattle.std.proofs.Common.{◌≡◌, length, refl, sym, ◌∙◌, arith}
use Rattle.std.proofs.lemmas.List.{length-map}
use Rattle.csv.specs.Records.{fields_of}
use Rattle.lam_stock.specs.Catalogue.{columns_of}
use Rattle.lam_stock.proofs.Columns.{same_fields}
use Rattle.lam_stock.proofs.reading.header.is_header.Goals as goal

pub returns : goal.returns
returns c =
    let fields = fields_of c.args.row.now in
    let size : length (columns_of fields) ≡ 17 = rw length-map (sym c.len.ensures ∙ c.if-len-ne-COLUMNS.false) in
    ((λ h. same_fields _ _ size (λ k less. c.loop-k.invariant k (omega arith))), (λ h. refl))
