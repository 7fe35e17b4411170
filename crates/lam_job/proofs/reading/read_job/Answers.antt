use Rattle.std.proofs.Common.{◌∙◌, ap, sym, Err}
use Rattle.std.proofs.lemmas.Bool.{false≢true}
use Rattle.toml.specs.View.{table_view}
use Rattle.lam_job.specs.declared.fault.JobCause.TheVariants as cause
use Rattle.lam_job.specs.declared.fault.JobKey.TheVariants as key
use Rattle.lam_job.specs.JobOf.{fault_at}
use Rattle.lam_job.proofs.JobBytes.{gives_job, no_document}
use Rattle.lam_job.proofs.reading.read_job.Goals as goal

pub returns-in-Ok : goal.returns-in-Ok
returns-in-Ok c =
    gives_job c.args.bytes.now c.args.stock.now (table_view c.in-Ok.table) c.job_in.result c.in-Ok.ensures.ok.0 c.in-Ok.ensures.ok.1 c.job_in.ensures

pub returns-else-is_memory : goal.returns-else-is_memory
returns-else-is_memory c =
    no_document c.args.bytes.now c.args.stock.now (c.in-Err.ensures.refused (λ m. false≢true (rw c.if-is_memory.false at (c.is_memory.ensures.1 m))))
    ∙ ap Err (sym (c.fault_at.ensures ∙ ap (λ place. fault_at place key.Other cause.Text) c.the.ensures))
