use Rattle.bds_app_log.proofs.Kept.{logs_job, records_given}
use Rattle.bds_app_log.proofs.logging.log_job.Goals as goal

pub write_if_logged-answer-requires-clause-given : goal.write_if_logged-answer-requires-clause-given
write_if_logged-answer-requires-clause-given g c =
    records_given c.ends_have_causes.ensures c.args.job _ _ _ _ c.record_job-came.ensures

pub returns : goal.returns
returns g c = logs_job c.args.job c.args.path _ _ _ _ _ c.write_if_logged-answer.result c.record_job-came.ensures
    c.write_if_logged-answer.ensures
