use Rattle.bds_machine.proofs.PointTypes.{left-agrees, left-told, stamp-asked}
use Rattle.bds_machine.proofs.answers.points_tell_answers.Goals as goal

pub returns-clause-told : goal.returns-clause-told
returns-clause-told c = λ u p t left type e. left-agrees u p t left type e

pub returns-clause-others : goal.returns-clause-others
returns-clause-others c = λ u p t left e. left-told u p t left e

pub returns-clause-stamps : goal.returns-clause-stamps
returns-clause-stamps c = λ u path t left. stamp-asked u path t left
