use Rattle.bds_meaning_laws.proofs.Goals.{goals_make_their_plan}
use Rattle.bds_meaning_laws.proofs.laws.goals_make_their_plan.Goals as goal

pub returns : goal.returns
returns c = goals_make_their_plan
