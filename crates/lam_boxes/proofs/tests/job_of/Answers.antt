use Rattle.lam_job.proofs.KnownItems.{job_known}
use Rattle.lam_boxes.proofs.tests.job_of.Goals as goal

pub returns : goal.returns
returns c = job_known c.args.stock.now c.as_bytes.result.now c.in_ok-read_job.field-0 c.in_ok-read_job.ensures
