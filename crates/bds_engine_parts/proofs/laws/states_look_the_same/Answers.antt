use Rattle.bds_engine_parts.proofs.Looking.{looks_same}
use Rattle.bds_engine_parts.proofs.laws.states_look_the_same.Goals as goal

pub returns : goal.returns
returns c = λ s v cpus budget used mode. looks_same s cpus budget used mode v
