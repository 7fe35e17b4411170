-- What the bytes of a file are as a job, by what the reader of TOML says of them.
use Rattle.std.proofs.Common.{◌≡◌, ℕ, List, Bool, true, false, Option, Some, None, Result, Ok, Err, refl, sym}
use Rattle.std.specs.Prelude.{IsUtf8}
use Rattle.std.specs.Str.{is_utf8}
use Rattle.std.proofs.lemmas.Str.{is_utf8-from_IsUtf8, IsUtf8-from_is_utf8}
use Rattle.toml.specs.Data.{Members}
use Rattle.toml.specs.Parse.{parse_document}
use Rattle.lam_stock.specs.declared.item.Item.{Item}
use Rattle.lam_job.specs.declared.fault.JobCause.TheVariants as cause
use Rattle.lam_job.specs.declared.fault.JobError.{JobError}
use Rattle.lam_job.specs.declared.fault.JobError.TheVariants.{Refused, Memory}
use Rattle.lam_job.specs.declared.fault.JobFault.{JobFault}
use Rattle.lam_job.specs.declared.fault.JobKey.TheVariants as key
use Rattle.lam_job.specs.declared.fault.JobTable.TheVariants as at
use Rattle.lam_job.specs.JobData.{JobData}
use Rattle.lam_job.specs.JobOf.{GivesJob, data_of, fault_at, job_fault, job_of, settled, the}
use Rattle.lam_job.specs.inside.Tells.{TellsJob}

gives : (r : Result JobData JobError) (fault : Option JobFault) (job : JobData) → TellsJob r fault job → GivesJob r (settled fault job)
gives (Ok a) fault job t = rw (t.0, t.1) refl
gives (Err (Refused e)) fault job t = rw t refl
gives (Err Memory) fault job t = tt

pub gives_job : (bytes : List ℕ) (stock : List Item) (ms : Members) (r : Result JobData JobError) → IsUtf8 bytes → parse_document bytes ≡ Some ms
    → TellsJob r (job_fault stock ms) (data_of stock ms) → GivesJob r (job_of bytes stock)
unfolding job_of
gives_job bytes stock ms r text parsed t = rw (is_utf8-from_IsUtf8 bytes text, parsed) (gives r (job_fault stock ms) (data_of stock ms) t)

by_text : (bytes : List ℕ) (stock : List Item) (b : Bool) → b ≡ is_utf8 bytes → (IsUtf8 bytes → parse_document bytes ≡ None)
    → job_of bytes stock ≡ Err (fault_at (the at.Top) key.Other cause.Text)
unfolding job_of
by_text bytes stock true e bad = rw (← e, bad (IsUtf8-from_is_utf8 bytes (sym e))) refl
by_text bytes stock false e bad = rw (← e) refl

pub no_document : (bytes : List ℕ) (stock : List Item) → (IsUtf8 bytes → parse_document bytes ≡ None) → job_of bytes stock ≡ Err (fault_at (the at.Top) key.Other cause.Text)
no_document bytes stock bad = by_text bytes stock (is_utf8 bytes) refl bad
