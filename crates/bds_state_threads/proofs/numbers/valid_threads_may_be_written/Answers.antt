use Rattle.bds_state_threads.proofs.Written.{thread-field}
use Rattle.bds_state_threads.proofs.numbers.valid_threads_may_be_written.Goals as goal

pub returns : goal.returns
returns c = thread-field
