use Rattle.bds_state.proofs.Kept.{stays_valid}
use Rattle.bds_state.proofs.laws.states_stay_valid.Goals as goal

pub returns : goal.returns
returns c = stays_valid
