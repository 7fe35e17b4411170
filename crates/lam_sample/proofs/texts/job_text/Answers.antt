use Rattle.std.proofs.Common.{string_bytes}
use Rattle.std.proofs.lemmas.Str.{IsUtf8-string_bytes}
use Rattle.toml.specs.View.{table_view}
use Rattle.lam_sample.proofs.JobRead.{job_read}
use Rattle.lam_sample.proofs.texts.job_text.Goals as goal

pub returns-in-Ok : goal.returns-in-Ok
returns-in-Ok c stock =
    job_read (string_bytes c.in-Ok.text) stock (table_view c.in_ok-table.table) c.args.loads.now c.requires (IsUtf8-string_bytes c.in-Ok.text)
    c.in_ok-table.ensures c.in-Ok.ensures.reads_back
