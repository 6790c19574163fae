use Rattle.bds_goal.proofs.GoalCycle as cycles
use Rattle.bds_goal.proofs.laws.reach_is_computed.Goals as goal

pub returns : goal.returns
returns c = cycles.reach_is_computed
