use Rattle.bds_ckpt.proofs.Loads.{one_state, uncut}
use Rattle.bds_ckpt.proofs.FileLaws.{file_is_field}
use Rattle.bds_ckpt.proofs.laws.states_are_read_back.Goals as goal

pub returns-clause-file : goal.returns-clause-file
returns-clause-file c = file_is_field

pub returns-clause-one : goal.returns-clause-one
returns-clause-one c = one_state c.valid_states_may_be_written.ensures

pub returns-clause-uncut : goal.returns-clause-uncut
returns-clause-uncut c = uncut c.valid_states_may_be_written.ensures
