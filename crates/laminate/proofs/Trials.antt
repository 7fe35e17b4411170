-- The names of schedule words, and what the lines of faults say, on examples.
use Rattle.std.proofs.Common.{◌≡◌, [], ◌∷◌, ◌++◌, Err, refl}
use Rattle.std.specs.Prelude.{codes, decimal}
use Rattle.lam_job.specs.declared.fault.JobTable.TheVariants as at
use Rattle.lam_job.specs.declared.fault.JobKey.TheVariants as key
use Rattle.lam_job.specs.declared.fault.JobCause.TheVariants as cause
use Rattle.laminate.specs.declared.fault.Fault.TheVariants as fault
use Rattle.laminate.specs.declared.fault.ScheduleFault.TheVariants as schedule
use Rattle.laminate.specs.Faults.{fault_line, job_text}
use Rattle.laminate.specs.Schedule.{names_of, schedule_of}

names_between_commas : names_of (codes "mat,,lean,") ≡ codes "mat" ∷ [] ∷ codes "lean" ∷ [] ∷ []
names_between_commas = refl

no_item_is_named : schedule_of [] (codes "mat") ≡ Err (schedule.Name 1)
unfolding schedule_of
no_item_is_named = refl

a_case_with_its_number :
    job_text (record { place = record { table = at.Case; number = 2; key = key.Ny }; cause = cause.Range })
    ≡ codes "case" ++ ((codes " " ++ decimal 2) ++ codes " ny range")
a_case_with_its_number = refl

cases_without_a_number :
    job_text (record { place = record { table = at.Case; number = 0; key = key.Other }; cause = cause.Missing }) ≡ codes "case missing"
cases_without_a_number = refl

a_count_without_its_number :
    job_text (record { place = record { table = at.Counts; number = 3; key = key.Count }; cause = cause.Item }) ≡ codes "counts count item"
a_count_without_its_number = refl

a_schedule_fault : fault_line (fault.Schedule schedule.Many) ≡ codes "refused schedule: many\n"
a_schedule_fault = refl
