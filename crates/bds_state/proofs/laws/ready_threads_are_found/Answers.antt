use Rattle.bds_state.proofs.ReadyLaws.{finds_ready}
use Rattle.bds_state.proofs.laws.ready_threads_are_found.Goals as goal

pub returns : goal.returns
returns c = finds_ready
