use Rattle.laminate.proofs.InputSteps.{both_read, job_stops, stock_stops}
use Rattle.laminate.proofs.input.read_input.Goals as goal

pub returns-in-Err : goal.returns-in-Err
returns-in-Err c =
    stock_stops c.args.job.now c.args.catalogue.now c.in-Err.stop
    (record { job_is = c.requires.job; catalogue_is = c.requires.catalogue }) c.in-Err.ensures

pub returns-in-Err-job_of : goal.returns-in-Err-job_of
returns-in-Err-job_of c =
    job_stops c.args.job.now c.args.catalogue.now c.in-Ok.stock c.in-Err-job_of.stop
    (record { job_is = c.requires.job; catalogue_is = c.requires.catalogue }) c.in-Ok.ensures c.in-Err-job_of.ensures

pub returns-in-Ok-job_of : goal.returns-in-Ok-job_of
returns-in-Ok-job_of c =
    both_read c.args.job.now c.args.catalogue.now c.in-Ok.stock c.in-Ok-job_of.job
    (record { job_is = c.requires.job; catalogue_is = c.requires.catalogue }) c.in-Ok.ensures c.in-Ok-job_of.ensures
