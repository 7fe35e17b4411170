-- The fault and the data of a case, once its kind is known.
use Rattle.std.proofs.Common.{◌≡◌, refl, Bool, Some, None, Result, if◌then◌else◌}
use Rattle.toml.specs.Data.{Members}
use Rattle.lam_job.specs.declared.fault.JobFault.{JobFault}
use Rattle.lam_job.specs.declared.fault.JobKey.TheVariants as key
use Rattle.lam_job.specs.declared.fault.JobPlace.{JobPlace}
use Rattle.lam_job.specs.JobData.{CaseData}
use Rattle.lam_job.specs.JobOf.{row_fault, case_fault, case_of, is_cylinder, cylinder_of, resultants_of, number}
use Rattle.lam_job.specs.Keys.{kind_row, cylinder_rows, resultants_rows}
use Rattle.lam_job.specs.inside.Tells.{Tells, rest_fault}

pub kind-broken : (place : JobPlace) (ms : Members) (e : JobFault) → row_fault place kind_row ms ≡ Some e → case_fault place ms ≡ Some e
kind-broken place ms e broken = rw broken refl

pub kind-kept : (place : JobPlace) (ms : Members) (cylinder : Bool) (r : Result CaseData JobFault) → row_fault place kind_row ms ≡ None → is_cylinder ms ≡ cylinder
    → Tells r (rest_fault place (if cylinder then cylinder_rows else resultants_rows) ms)
    (record { kind = if cylinder then cylinder_of ms else resultants_of ms; factor = number key.Factor ms })
    → Tells r (case_fault place ms) (case_of ms)
kind-kept place ms cylinder r kept is told = rw (kept, is) told
