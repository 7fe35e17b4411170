use Rattle.lam_stream.proofs.tests.answer_to.Goals as goal

-- what is read as a job beside a catalogue is one of that catalogue
pub check_bytes-requires-clause-job_for : goal.check_bytes-requires-clause-job_for
check_bytes-requires-clause-job_for g c = c.jobs_name_known_items.ensures _ c.in_ok-stock.stock c.in_ok-job.job c.in_ok-job.ensures
