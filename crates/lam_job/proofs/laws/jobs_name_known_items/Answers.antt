use Rattle.lam_job.proofs.KnownItems.{job_known}
use Rattle.lam_job.proofs.laws.jobs_name_known_items.Goals as goal

pub returns : goal.returns
returns c = λ bytes stock job e. job_known stock bytes job e
