use Rattle.bds_replay.proofs.Whole.{log_is_field}
use Rattle.bds_replay.proofs.laws.logs_are_read_back.Goals as goal

pub returns : goal.returns
returns c = log_is_field
