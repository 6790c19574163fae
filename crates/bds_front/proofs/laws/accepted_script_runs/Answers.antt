use Rattle.bds_front.proofs.OneJob.{runs_on}
use Rattle.bds_front.proofs.laws.accepted_script_runs.Goals as goal

pub returns : goal.returns
returns c = runs_on c.job_has_one_step.ensures
