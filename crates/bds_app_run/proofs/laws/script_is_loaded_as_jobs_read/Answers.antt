use Rattle.bds_app_run.proofs.Begins.{begun}
use Rattle.bds_app_run.proofs.laws.script_is_loaded_as_jobs_read.Goals as goal

pub returns : goal.returns
returns c = begun
