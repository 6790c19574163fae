use Rattle.bds_front.proofs.OneJob.{made_by_replies}
use Rattle.bds_front.proofs.laws.replies_make_job.Goals as goal

pub returns : goal.returns
returns c = made_by_replies c.job_has_one_step.ensures
