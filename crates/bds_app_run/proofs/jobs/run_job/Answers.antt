use Rattle.bds_app_run.proofs.NeverWords.{never_words}
use Rattle.bds_app_run.proofs.jobs.run_job.Goals as goal

pub returns-clause-words : goal.returns-clause-words
returns-clause-words g c = never_words _ _ _ _ c.do_job.ensures.does
