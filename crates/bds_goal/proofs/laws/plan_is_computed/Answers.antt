use Rattle.bds_goal.proofs.GoalPlan as plans
use Rattle.bds_goal.proofs.laws.plan_is_computed.Goals as goal

pub returns : goal.returns
returns c = plans.plan_is_computed
