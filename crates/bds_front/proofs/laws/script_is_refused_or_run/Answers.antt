use Rattle.bds_front.proofs.OneJob.{refused_or_run}
use Rattle.bds_front.proofs.laws.script_is_refused_or_run.Goals as goal

pub returns : goal.returns
returns c = refused_or_run c.job_has_one_step.ensures
