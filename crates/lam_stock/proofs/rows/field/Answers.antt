use Rattle.std.proofs.Common.{sym, ◌∙◌, ap}
use Rattle.csv.proofs.RecordFacts.{field-get, field-there}
use Rattle.csv.specs.Records.{fields_of}
use Rattle.lam_stock.specs.Field.{without_blanks}
use Rattle.lam_stock.proofs.Columns.{column-field}
use Rattle.lam_stock.proofs.rows.field.Goals as goal

pub unreachable-requires : goal.unreachable-requires
unreachable-requires c = field-there _ _ c.requires (sym c.in-None.ensures.value)

pub returns : goal.returns
returns c =
    let fs = fields_of c.args.row.now in
    let found = field-get fs c.args.at c.in-Some.field.now (sym c.in-Some.ensures.value) in
    c.without_blanks.ensures ∙ sym (column-field fs c.args.at ∙ ap without_blanks found)
