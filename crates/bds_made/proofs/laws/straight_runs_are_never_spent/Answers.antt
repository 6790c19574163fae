use Rattle.bds_made.proofs.Straight.{never_spent}
use Rattle.bds_made.proofs.laws.straight_runs_are_never_spent.Goals as goal

pub returns : goal.returns
returns c = never_spent
