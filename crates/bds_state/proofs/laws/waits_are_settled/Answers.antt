use Rattle.bds_state.proofs.WaitLaws.{waits_settled}
use Rattle.bds_state.proofs.laws.waits_are_settled.Goals as goal

pub returns : goal.returns
returns c = waits_settled
