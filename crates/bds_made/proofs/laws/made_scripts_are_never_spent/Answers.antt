use Rattle.bds_made.proofs.Never.{never_spent}
use Rattle.bds_made.proofs.laws.made_scripts_are_never_spent.Goals as goal

pub returns : goal.returns
returns c = never_spent c.job_has_one_step.ensures
