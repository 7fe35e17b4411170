-- The value at a text is the member of that key.
use Rattle.toml.proofs.Views.{table_get}
use Rattle.lam_job.proofs.reading.tables.find.Goals as goal

pub returns : goal.returns
returns c = table_get c.get.result c.args.text.now c.args.table.now.entries c.get.ensures.value
