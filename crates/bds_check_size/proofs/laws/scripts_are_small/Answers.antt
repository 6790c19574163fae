use Rattle.bds_check_size.proofs.ScriptBounds.{program-small}
use Rattle.bds_check_size.proofs.laws.scripts_are_small.Goals as goal

pub returns : goal.returns
returns c = program-small
