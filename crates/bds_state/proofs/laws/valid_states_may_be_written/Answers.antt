use Rattle.bds_state.proofs.Fields.{valid_fields}
use Rattle.bds_state.proofs.laws.valid_states_may_be_written.Goals as goal

pub returns : goal.returns
returns c = valid_fields
