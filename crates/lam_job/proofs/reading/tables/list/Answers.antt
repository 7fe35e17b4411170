use Rattle.lam_job.proofs.Documents.{list_of-view}
use Rattle.lam_job.proofs.reading.tables.list.Goals as goal

pub returns-in-Some : goal.returns-in-Some
returns-in-Some c = rw (← c.as_array.ensures, c.in-Some.is, c.as_slice.ensures.value, list_of-view)
