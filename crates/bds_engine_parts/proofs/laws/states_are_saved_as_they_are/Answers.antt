use Rattle.bds_engine_parts.proofs.Images.{same_state}
use Rattle.bds_engine_parts.proofs.laws.states_are_saved_as_they_are.Goals as goal

pub returns : goal.returns
returns c = λ s v cpus budget used mode. same_state s v cpus budget used mode
