use Rattle.bds_state.proofs.MadeLaws.{may_wait}
use Rattle.bds_state.proofs.laws.threads_may_wait_for_what_they_made.Goals as goal

pub returns : goal.returns
returns c = may_wait
