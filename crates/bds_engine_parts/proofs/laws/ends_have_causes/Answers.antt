use Rattle.bds_engine_parts.proofs.Causes.{causes}
use Rattle.bds_engine_parts.proofs.laws.ends_have_causes.Goals as goal

pub returns : goal.returns
returns c = λ s cpus budget before after. causes s cpus budget before after
