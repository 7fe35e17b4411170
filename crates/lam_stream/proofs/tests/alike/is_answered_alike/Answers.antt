use Rattle.lam_stream.proofs.tests.alike.is_answered_alike.Goals as goal

-- what is read as a job beside a catalogue is one of that catalogue
pub check_bytes-streamed-requires-clause-job_for : goal.check_bytes-streamed-requires-clause-job_for
check_bytes-streamed-requires-clause-job_for g c = c.jobs_name_known_items.ensures _ c.in_ok-stock.stock c.in_ok-job.job c.in_ok-job.ensures

pub read_report-requires-clause-liner : goal.read_report-requires-clause-liner
read_report-requires-clause-liner g c = (c.jobs_name_known_items.ensures _ c.in_ok-stock.stock c.in_ok-job.job c.in_ok-job.ensures).liner

pub check-requires-clause-job_for : goal.check-requires-clause-job_for
check-requires-clause-job_for g c = c.jobs_name_known_items.ensures _ c.in_ok-stock.stock c.in_ok-job.job c.in_ok-job.ensures
