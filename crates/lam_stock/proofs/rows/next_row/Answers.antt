use Rattle.csv.specs.Records.{fields_of}
use Rattle.lam_stock.proofs.TextRows.{takes}
use Rattle.lam_stock.proofs.rows.next_row.Goals as goal

pub returns-in-Ok-clause-row : goal.returns-in-Ok-clause-row
returns-in-Ok-clause-row c =
    takes c.args.reader.now c.read_byte_record.new.self c.in-Ok.found (fields_of c.read_byte_record.new.row) c.requires (c.in-Ok.ensures.reads c.requires.trim c.requires.ready)
