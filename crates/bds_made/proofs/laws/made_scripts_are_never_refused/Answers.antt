use Rattle.bds_made.proofs.Never.{never_refused}
use Rattle.bds_made.proofs.laws.made_scripts_are_never_refused.Goals as goal

pub returns : goal.returns
returns c = never_refused c.job_has_one_step.ensures
