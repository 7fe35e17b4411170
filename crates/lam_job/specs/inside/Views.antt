-- What the models of a set of rules and of a job show of their fields.
use Rattle.lam_job.specs.declared.rules.RuleSet.TheInside as rules
use Rattle.lam_job.specs.declared.job.Job.TheInside as job
use Rattle.lam_job.specs.JobData.{RuleData, JobData}

abbrev pub rule_data : rules.Inside → RuleData
rule_data r = record { inner = r.inner; outer = r.outer; symmetric = r.symmetric; balanced = r.balanced; run = r.run; fewest = r.fewest; thickness = r.thickness; counts = r.counts }

abbrev pub job_data : job.Inside → JobData
job_data j = record { limit = j.limit; liner = j.liner; liner_in_wall = j.liner_in_wall; rules = j.rules; cases = j.cases; panels = j.panels }
