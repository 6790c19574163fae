use Rattle.bds_front.proofs.OneJob.{has_one_end}
use Rattle.bds_front.proofs.laws.log_has_one_end.Goals as goal

pub returns : goal.returns
returns c = has_one_end c.job_has_one_step.ensures
